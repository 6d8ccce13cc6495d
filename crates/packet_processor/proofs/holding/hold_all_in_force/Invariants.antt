-- What is still to be held, of the rights that are left.
use Rattle.std.proofs.Common.{◌≡◌, ◌++◌, drop}
use Rattle.policy.specs.Rights.{all_rights}
use Rattle.packet_processor.specs.Judged.{facts_seen}
use Rattle.packet_processor.specs.inner.RightsPassing.{rights_passing}
use Rattle.packet_processor.proofs.holding.hold_all_in_force.Given as goal

abbrev pub invariant-rights : goal.invariant-rights
invariant-rights l =
    l.held ++ rights_passing ((facts_seen l.facts).in_force l.object) l.object (drop l.right-index l.right-items)
    ≡ l.fn.held ++ rights_passing ((facts_seen l.facts).in_force l.object) l.object all_rights
