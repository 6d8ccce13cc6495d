use Rattle.std.proofs.Common.{◌≡◌, ◌^◌, ◌<◌, ◌∙◌, ℕ, List, arith, sym, ap, subst}
use Rattle.ring_core.specs.declared.access.Made.{Made}
use Rattle.ring_core.specs.Machine.{word_place}
use Rattle.ring.specs.Places.{table_place}
use Rattle.ring.specs.inner.Halfway.{body_stored}
use Rattle.ring.specs.Steps.{HasGained}
use Rattle.ring.proofs.Gains.{ready_body, ready_header, body_more, gained_more}
use Rattle.ring.proofs.ring.Ring.store_packet.Goals as goal

pub overflow_add-slot : goal.overflow_add-slot
overflow_add-slot c =
    let near : c.slot_place-slot.result < 2 ^ 16 = c.slot_place-slot.ensures.near in
    let t : c.loop-before.before < 7 = omega (arith, c.loop-before-test.true) in
    omega (arith, near, t)

pub store-requires-clause-ready : goal.store-requires-clause-ready
store-requires-clause-ready c =
    let slot : c.slot_place-slot.result ≡ table_place (word_place c.args.self.now.size c.args.id.0 0) = c.slot_place-slot.ensures.place ∙ ap (λ r. table_place (word_place r.size c.args.id.0 0)) c.self.view_is in
    let t : c.loop-before.before < 7 = omega (arith, c.loop-before-test.true) in
    ready_body c.args.self.now c.args.seat.now.me c.loop-before.seat.me c.args.id.0 c.slot_place-slot.result c.loop-before.before c.args.words.now c.requires.fillable slot c.loop-before.invariant.1 _ t

pub loop-before-preserved : goal.loop-before-preserved
loop-before-preserved c = (
  c.store.ensures.seat ∙ c.loop-before.invariant.0,
  subst (λ (made : List Made). HasGained c.args.self.now.size c.args.self.now.producers c.args.seat.now.me made c.store.new.seat.me) (sym (body_more c.args.id.0 c.args.words.now c.loop-before.before))
      (gained_more c.args.self.now.size c.args.self.now.producers c.args.seat.now.me c.loop-before.seat.me c.store.new.seat.me _ _ c.loop-before.invariant.1 c.store.ensures.told),
)

pub store-requires-2-clause-ready : goal.store-requires-2-clause-ready
store-requires-2-clause-ready c =
    let slot : c.slot_place-slot.result ≡ table_place (word_place c.args.self.now.size c.args.id.0 0) = c.slot_place-slot.ensures.place ∙ ap (λ r. table_place (word_place r.size c.args.id.0 0)) c.self.view_is in
    let all : c.loop-before.before ≡ 7 = omega (arith, c.loop-before-test.false, c.loop-before.auto.before-end) in
    ready_header c.args.self.now c.args.seat.now.me c.loop-before.seat.me c.args.id.0 c.slot_place-slot.result c.loop-before.before c.args.words.now c.requires.fillable slot c.loop-before.invariant.1 _ all c.requires.valid

pub returns-clause-gained : goal.returns-clause-gained
returns-clause-gained c =
    let all : c.loop-before.before ≡ 7 = omega (arith, c.loop-before-test.false, c.loop-before.auto.before-end) in
    let h : HasGained c.args.self.now.size c.args.self.now.producers c.args.seat.now.me (body_stored c.args.id.0 c.args.words.now 7) c.loop-before.seat.me =
    subst (λ (n : ℕ). HasGained c.args.self.now.size c.args.self.now.producers c.args.seat.now.me (body_stored c.args.id.0 c.args.words.now n) c.loop-before.seat.me) all c.loop-before.invariant.1 in
    gained_more c.args.self.now.size c.args.self.now.producers c.args.seat.now.me c.loop-before.seat.me c.store-2.new.seat.me _ _ h c.store-2.ensures.told
