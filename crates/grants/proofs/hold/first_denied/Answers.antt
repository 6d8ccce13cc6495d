use Rattle.std.proofs.Common.{◌∙◌, ap, sym, subst, arith, take}
use Rattle.grants.proofs.Terms.{IsFirstTo, take_all}
use Rattle.grants.specs.inner.Reloading.{has_denied}
use Rattle.grants.proofs.HoldLemmas.{first_same, first_of_none, first_of_some}
use Rattle.grants.proofs.ReloadLemmas.{denied-more, denied-same}
use Rattle.grants.proofs.hold.first_denied.Goals as goal
use Rattle.grants.proofs.hold.first_denied.Goals.{then-is_denied+in-Some, then-is_denied+in-None, else-is_denied}

pub loop-hold-preserved : goal.loop-hold-preserved
loop-hold-preserved c =
    elim c.if-is_denied.branch [
      | then-is_denied+in-Some w ↦ rw w.first-is (first_of_some _ _ _ _
          (denied-more c.args.rows.now c.args.holds.now c.loop-hold.hold-index _ (omega arith)
          (sym c.is_denied.ensures ∙ w.if-is_denied.true)) w.in-Some.other w.first_of.result
          (subst (IsFirstTo (has_denied c.args.rows.now (take c.loop-hold.hold-index c.args.holds.now))) w.in-Some.is c.loop-hold.invariant)
          w.first_of.ensures.either w.first_of.ensures.up_to_a w.first_of.ensures.up_to_b)
      | then-is_denied+in-None w ↦ rw w.first-is (first_of_none _ _ _ _
          (denied-more c.args.rows.now c.args.holds.now c.loop-hold.hold-index _ (omega arith) (sym c.is_denied.ensures ∙ w.if-is_denied.true))
          (subst (IsFirstTo (has_denied c.args.rows.now (take c.loop-hold.hold-index c.args.holds.now))) w.in-None.is c.loop-hold.invariant))
      | else-is_denied w ↦ rw w.first-is (first_same _ _ _ (denied-same c.args.rows.now c.args.holds.now c.loop-hold.hold-index _ (omega arith)
          (sym c.is_denied.ensures ∙ w.if-is_denied.false)) c.loop-hold.invariant)
    ]

pub returns : goal.returns
returns c = first_same _ _ _ (λ q p. ap (λ hs. has_denied c.args.rows.now hs q p)
    (sym (take_all c.loop-hold.hold-index c.args.holds.now c.loop-hold-test.false))) c.loop-hold.invariant
