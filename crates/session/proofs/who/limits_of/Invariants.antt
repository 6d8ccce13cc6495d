use Rattle.std.proofs.Common.{◌≡◌, drop}
use Rattle.session.specs.Limits.{usual}
use Rattle.session.specs.Who.{limits_from}
use Rattle.session.proofs.who.limits_of.Given as goal

abbrev pub invariant-loop-entry : goal.invariant-loop-entry
invariant-loop-entry l = limits_from usual l.entries ≡ limits_from l.limits (drop l.entry-index l.entries)
