use Rattle.std.proofs.Common.{◌≡◌, ◌≢◌, ◌∙◌, ℕ, [], ◌∷◌, true, refl, ap}
use Rattle.std.specs.Prelude.{is_some}
use Rattle.ring_core.specs.declared.access.Access.TheVariants.{Reserve}
use Rattle.ring_core.specs.declared.part.ProducerPart.{ProducerPart}
use Rattle.ring_core.specs.Tickets.{open_ticket}
use Rattle.ring_core.specs.Parts.{after_producing}
use Rattle.ring_core.proofs.Sizes.{ring_size_bounds}
use Rattle.ring.specs.Made.{read}
use Rattle.ring.specs.Passes.{as_producer, only_part}
use Rattle.ring.proofs.Passes.{ProducerSteps, producer_steps, producer_ready, some_left, opens_new, keeps_open}
use Rattle.ring.proofs.producer.ProducerPass.reserve.Goals as goal

pub add_one-id-requires-clause-ready : goal.add_one-id-requires-clause-ready
add_one-id-requires-clause-ready c =
    let p : ProducerPart = as_producer (only_part c.self.inside.seat.me.0) in
    let left : c.self.inside.allowance ≡ p.allowance = c.self.invariant.left in
    let some : p.allowance ≢ 0 = λ e. c.if-self-eq0.false (left ∙ e) in
    producer_ready c.args.ring.now c.self.inside.number c.self.inside.allowance c.self.inside.seat.me Reserve c.table_place.result c.self.invariant (some_left p.allowance some) (λ _. c.table_place.ensures)

pub returns-clause-opened : goal.returns-clause-opened
returns-clause-opened c =
    let p : ProducerPart = as_producer (only_part c.self.inside.seat.me.0) in
    let id : ℕ = c.add_one-id.result in
    let ring = c.args.ring.now in
    let steps : ProducerSteps ring.size ring.producers c.self.inside.number p (read Reserve id ∷ []) (after_producing p Reserve id) c.add_one-id.new.seat.me =
    producer_steps ring.size ring.producers c.self.inside.number c.self.inside.allowance c.self.inside.seat.me c.add_one-id.new.seat.me (read Reserve id ∷ []) (after_producing p Reserve id) c.self.invariant c.add_one-id.ensures.told refl in
    ap (λ u. is_some (open_ticket id u.tickets)) steps.part
    ∙ opens_new ring.size ring.producers c.self.inside.number id p (ring_size_bounds ring.size c.add_one-id.ensures.fits).0 steps.gained.0.0

pub returns-clause-others : goal.returns-clause-others
returns-clause-others c =
    let p : ProducerPart = as_producer (only_part c.self.inside.seat.me.0) in
    let id : ℕ = c.add_one-id.result in
    let ring = c.args.ring.now in
    let steps : ProducerSteps ring.size ring.producers c.self.inside.number p (read Reserve id ∷ []) (after_producing p Reserve id) c.add_one-id.new.seat.me =
    producer_steps ring.size ring.producers c.self.inside.number c.self.inside.allowance c.self.inside.seat.me c.add_one-id.new.seat.me (read Reserve id ∷ []) (after_producing p Reserve id) c.self.invariant c.add_one-id.ensures.told refl in
    λ j is_open.
    let was : is_some (open_ticket j p.tickets) ≡ true = ap (λ v. is_some (open_ticket j v.part.tickets)) c.self.view_is ∙ is_open in
    let now = keeps_open ring.size ring.producers c.self.inside.number id p (ring_size_bounds ring.size c.add_one-id.ensures.fits).0 steps.gained.0.0 j was in
    (now.0, ap (λ u. is_some (open_ticket j u.tickets)) steps.part ∙ now.1)
