use Rattle.std.proofs.Common.{◌∙◌, ap, sym, subst, arith, take}
use Rattle.grants.proofs.Terms.{IsFirstTo, holds_one, take_all}
use Rattle.grants.proofs.HoldLemmas.{first_same, first_of_none, first_of_some, holds_one-blocking, holds_one-passing}
use Rattle.grants.proofs.hold.first_holder.Goals as goal
use Rattle.grants.proofs.hold.first_holder.Goals.{then-blocks+in-Some, then-blocks+in-None, else-blocks}

pub loop-hold-preserved : goal.loop-hold-preserved
loop-hold-preserved c =
    elim c.if-blocks.branch [
      | then-blocks+in-Some w ↦ rw w.first-is (first_of_some _ _ _ _
          (holds_one-blocking c.args.holds.now c.args.client c.args.object c.args.rights c.loop-hold.hold-index _ (omega arith)
          (sym c.blocks-in-loop-hold.ensures ∙ w.if-blocks.true)) w.in-Some.other w.first_of.result
          (subst (IsFirstTo (holds_one (take c.loop-hold.hold-index c.args.holds.now) c.args.client c.args.object c.args.rights)) w.in-Some.is c.loop-hold.invariant)
          w.first_of.ensures.either w.first_of.ensures.up_to_a w.first_of.ensures.up_to_b)
      | then-blocks+in-None w ↦ rw w.first-is (first_of_none _ _ _ _
          (holds_one-blocking c.args.holds.now c.args.client c.args.object c.args.rights c.loop-hold.hold-index _ (omega arith) (sym c.blocks-in-loop-hold.ensures ∙ w.if-blocks.true))
          (subst (IsFirstTo (holds_one (take c.loop-hold.hold-index c.args.holds.now) c.args.client c.args.object c.args.rights)) w.in-None.is c.loop-hold.invariant))
      | else-blocks w ↦ rw w.first-is (first_same _ _ _ (holds_one-passing c.args.holds.now c.args.client c.args.object c.args.rights c.loop-hold.hold-index _ (omega arith)
          (sym c.blocks-in-loop-hold.ensures ∙ w.if-blocks.false)) c.loop-hold.invariant)
    ]

pub returns : goal.returns
returns c = first_same _ _ _ (λ q p. ap (λ hs. holds_one hs c.args.client c.args.object c.args.rights q p)
    (sym (take_all c.loop-hold.hold-index c.args.holds.now c.loop-hold-test.false))) c.loop-hold.invariant
