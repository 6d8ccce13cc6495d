use Rattle.std.proofs.Common.{arith, rules, sym, ◌∙◌}
use Rattle.script.proofs.Commas.{listed_passed, listed_failed}
use Rattle.script.proofs.entries.write_seen.Goals as goal
use Rattle.script.proofs.entries.write_seen.Goals.{then-is_seen+in_ok-write_position, else-is_seen}

pub loop-position-preserved : goal.loop-position-preserved
loop-position-preserved c = elim c.if-is_seen.branch [
  | then-is_seen+in_ok-write_position w ↦ listed_passed _ _ _ _ _ _ _ _ _ _ c.loop-position.invariant (omega arith) (sym c.is_seen.ensures ∙ w.if-is_seen.true) (search rules) w.any-is
  | else-is_seen w ↦ listed_failed _ _ _ _ _ _ _ _ _ _ c.loop-position.invariant (omega arith) (sym c.is_seen.ensures ∙ w.if-is_seen.false) (search rules) w.any-is
]
