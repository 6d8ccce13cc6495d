use Rattle.std.proofs.Common.{◌≡◌, ◌+◌, ◌<◌, ◌∙◌, ℕ, [], ◌∷◌, ◌++◌, arith, sym, ap}
use Rattle.ring_core.specs.Parts.{new_producer}
use Rattle.ring.specs.Shares.{alone}
use Rattle.ring.proofs.Dealing.{first_me, rest_me, new_pass, new_value, dealt_more}
use Rattle.ring.proofs.ring.Ring.producer_passes.Goals as goal

pub invariant_of-push : goal.invariant_of-push
invariant_of-push c =
    new_pass (c.loop-before.before + 1) c.cut-one.result.me
    (first_me c.args.self.now.producers c.loop-before.before c.loop-before.seat.me c.cut-one.result.me (let lt = c.loop-before-test.true in let v = ap (λ r. r.producers) c.self.view_is in omega (arith, lt, v)) c.loop-before.invariant.1 c.cut-one.ensures.first.1)

pub loop-before-preserved : goal.loop-before-preserved
loop-before-preserved c =
    let ring = c.args.self.now in
    let before : ℕ = c.loop-before.before in
    let lt : before < ring.producers = (let t = c.loop-before-test.true in let v = ap (λ r. r.producers) c.self.view_is in omega (arith, t, v)) in
    let one : c.cut-one.result.me ≡ (alone (before + 1) new_producer, []) = first_me ring.producers before c.loop-before.seat.me c.cut-one.result.me lt c.loop-before.invariant.1 c.cut-one.ensures.first.1 in
    let table = c.cut-one.ensures.first.0 ∙ c.loop-before.invariant.0 in (
      c.cut-one.ensures.rest.0 ∙ c.loop-before.invariant.0,
      rest_me ring.producers before c.loop-before.seat.me c.cut-one.new.seat.me lt c.loop-before.invariant.1 c.cut-one.ensures.rest.1,
      c.in_ok-push.ensures.items
          ∙ (λ i. c.loop-before.invariant.2 i ++ new_value ring.table c.cut-one.result.table_id (before + 1) c.cut-one.result.me one table i ∷ [])
          ∙ sym (dealt_more ring.table before),
    )
