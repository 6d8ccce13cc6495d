use Rattle.std.proofs.Common.{[], ◌∷◌, arith}
use Rattle.policy.specs.Rights.{all_rights}
use Rattle.packet_processor.specs.Judged.{facts_seen}
use Rattle.packet_processor.specs.inner.RightsPassing.{rights_passing}
use Rattle.packet_processor.proofs.HeldByPointer.{rights_passing-splits, at_place, more}
use Rattle.packet_processor.proofs.holding.hold_all_in_force.Goals as goal

pub rights-preserved : goal.rights-preserved
rights-preserved c =
    let test = (facts_seen c.args.facts.now).in_force c.args.object in
    more (rights_passing test c.args.object) (λ right. rights_passing test c.args.object (right ∷ [])) (rights_passing-splits test c.args.object) _ _ _ _ _ _
    (at_place all_rights c.rights.right-index _ (omega arith)) c.in_ok-hold_if_in_force.ensures c.rights.invariant
