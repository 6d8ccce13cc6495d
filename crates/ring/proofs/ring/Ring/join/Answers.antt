use Rattle.std.proofs.Common.{◌≡◌, ◌∙◌, ◌++◌, suc, List, [], map, arith, sym, ap, subst}
use Rattle.std.specs.Prelude.{All}
use Rattle.ring.specs.Passes.{ProducerSeen}
use Rattle.ring_core.specs.declared.part.SeatPart.TheVariants.{Producer}
use Rattle.ring.specs.Shares.{alone}
use Rattle.ring.specs.Settling.{share_of}
use Rattle.ring.proofs.Settling.{share_more}
use Rattle.ring.proofs.Kept.{joins}
use Rattle.ring.proofs.ring.Ring.join.Goals as goal

pub join_seat-requires : goal.join_seat-requires
join_seat-requires c =
    let table = ap (λ r. r.table) c.self.view_is in
    let theirs : c.in-Some.pass.table ≡ c.args.self.now.table =
    subst (λ (passes : List ProducerSeen). All (λ pass. pass.table ≡ c.args.self.now.table) passes) c.in-Some.ensures.steps.0 c.loop-pass.invariant.4 0 c.in-Some.pass (omega arith) in (
      c.loop-pass.invariant.2 ∙ sym table,
      ap (λ p. p.table) c.pass.view_is ∙ theirs ∙ sym table,
      ap (λ m. m.1) c.pass.invariant.share,
      omega (arith, c.self.invariant.words),
      joins c.self.inside.table.shared.key c.loop-pass.seat.id c.loop-pass.seat.me.0 c.pass.inside.seat.id c.pass.inside.seat.me.0,
    )

pub loop-pass-preserved : goal.loop-pass-preserved
loop-pass-preserved c =
    let passes = c.loop-pass.yielded in
    let pass = c.in-Some.pass in (
      tt,
      tt,
      c.join_seat.ensures.0 ∙ c.loop-pass.invariant.2,
      c.join_seat.ensures.2
          ∙ (λ i. ((c.loop-pass.invariant.3 i).0 ++ (c.pass.invariant.share i).0, (c.loop-pass.invariant.3 i).1))
          ∙ (λ i. ((c.args.seat.now.me.0 ++ map share_of passes) ++ alone (c.pass.view_is i).number (Producer (c.pass.view_is i).part), []))
          ∙ (λ i. (share_more c.args.seat.now.me.0 passes pass i, [])),
      λ k d lt. subst (λ (xs : List ProducerSeen). All (λ p. p.table ≡ c.args.self.now.table) xs) c.in-Some.ensures.steps.0 c.loop-pass.invariant.4 (suc k) d (omega (arith, lt)),
    )
