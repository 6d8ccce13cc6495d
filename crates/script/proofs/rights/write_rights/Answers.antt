use Rattle.script.proofs.rights.write_rights.Goals as goal
use Rattle.script.proofs.rights.write_rights.Goals.{then-has+in_ok-write_item, else-has}
use Rattle.script.proofs.Commas.{listed_none, listed_passed, listed_failed, listed_all}
use Rattle.std.proofs.Common.{refl, arith, rules, sym, ◌∙◌}

pub loop-right-init : goal.loop-right-init
loop-right-init c = listed_none _ _ _ _ _ refl

pub loop-right-preserved : goal.loop-right-preserved
loop-right-preserved c = elim c.if-has.branch [
  | then-has+in_ok-write_item w ↦ listed_passed _ _ _ _ _ _ _ _ _ _ c.loop-right.invariant (omega arith) (sym c.has.ensures ∙ w.if-has.true) (search rules) w.any-is
  | else-has w ↦ listed_failed _ _ _ _ _ _ _ _ _ _ c.loop-right.invariant (omega arith) (sym c.has.ensures ∙ w.if-has.false) (search rules) w.any-is
]

pub returns-then-any : goal.returns-then-any
returns-then-any c = listed_all _ _ _ _ _ _ _ c.loop-right.invariant (omega arith) c.if-any.true
