use Rattle.std.proofs.Common.{◌≡◌, ◌+◌, ◌^◌, ◌<◌, ◌∙◌, ℕ, true, List, [], ◌∷◌, ◌++◌, arith, sym, ap, subst}
use Rattle.std.specs.Prelude.{length, Some}
use Rattle.ring_core.specs.declared.part.SeatPart.TheVariants.{Processor}
use Rattle.ring_core.specs.Parts.{collected_packet}
use Rattle.ring.specs.Bytes.{words_of}
use Rattle.aql_packet.specs.Ring.{is_ring_size}
use Rattle.ring_core.specs.Machine.{is_producer_count}
use Rattle.ring.specs.Made.{Gained, retiring}
use Rattle.std.specs.Bool.{then_some}
use Rattle.ring.specs.Passes.{ProcessorSeen, as_processor, only_part}
use Rattle.ring.proofs.Processing.{retired_steps, found_index, retired_adds, retired_pass}
use Rattle.ring.proofs.processor.ProcessorPass.retire.Goals as goal

pub overflow_add-self : goal.overflow_add-self
overflow_add-self c =
    let ring = c.args.ring.now in
    let fits : is_ring_size ring.size ≡ true = ap (λ r. is_ring_size r.size) (sym c.ring.view_is) ∙ c.ring.invariant.fits in
    let few : is_producer_count ring.producers ≡ true = ap (λ r. is_producer_count r.producers) (sym c.ring.view_is) ∙ c.ring.invariant.few in
    let found = found_index ring.size ring.producers c.self.inside.next c.add_one-index.result (then_some c.self.inside.whole c.self.inside.packet) c.self.inside.seat.me c.store.new.seat.me c.add_one-index.new.seat.me fits few c.self.invariant c.store.ensures.told c.add_one-index.ensures.told in
    let lt : c.add_one-index.result + 1 < 2 ^ 64 = found.1 in
    omega (arith, lt)

pub invariant_of-self : goal.invariant_of-self
invariant_of-self c =
    let ring = c.args.ring.now in
    let fits : is_ring_size ring.size ≡ true = ap (λ r. is_ring_size r.size) (sym c.ring.view_is) ∙ c.ring.invariant.fits in
    let few : is_producer_count ring.producers ≡ true = ap (λ r. is_producer_count r.producers) (sym c.ring.view_is) ∙ c.ring.invariant.few in
    retired_pass ring.size ring.producers c.self.inside.next c.add_one-index.result (then_some c.self.inside.whole c.self.inside.packet) c.self.inside.seat.me c.store.new.seat.me c.add_one-index.new.seat.me fits few c.self.invariant c.store.ensures.told c.add_one-index.ensures.told

pub returns-clause-retired : goal.returns-clause-retired
returns-clause-retired c =
    let ring = c.args.ring.now in
    let index : ℕ = c.add_one-index.result in
    let fits : is_ring_size ring.size ≡ true = ap (λ r. is_ring_size r.size) (sym c.ring.view_is) ∙ c.ring.invariant.fits in
    let few : is_producer_count ring.producers ≡ true = ap (λ r. is_producer_count r.producers) (sym c.ring.view_is) ∙ c.ring.invariant.few in
    let steps = retired_steps ring.size ring.producers c.self.inside.next index (then_some c.self.inside.whole c.self.inside.packet) c.self.inside.seat.me c.store.new.seat.me c.add_one-index.new.seat.me fits few c.self.invariant c.store.ensures.told c.add_one-index.ensures.told in
    let found = found_index ring.size ring.producers c.self.inside.next index (then_some c.self.inside.whole c.self.inside.packet) c.self.inside.seat.me c.store.new.seat.me c.add_one-index.new.seat.me fits few c.self.invariant c.store.ensures.told c.add_one-index.ensures.told in
    let after = as_processor (only_part c.add_one-index.new.seat.me.0) in (
      c.add_one-index.ensures.seat ∙ c.store.ensures.seat ∙ ap (λ v. v.table) c.self.view_is,
      subst (λ (v : ProcessorSeen). Gained ring.size ring.producers 0 (Processor v.part) (retiring (length v.part.retired)) (Processor after)) c.self.view_is
          (subst (λ (n : ℕ). Gained ring.size ring.producers 0 (Processor (as_processor (only_part c.self.inside.seat.me.0))) (retiring n) (Processor after)) found.0 steps.gained),
    )

pub returns-clause-adds : goal.returns-clause-adds
returns-clause-adds c =
    let ring = c.args.ring.now in
    let words : List ℕ = words_of c.args.shown.bytes in
    let fits : is_ring_size ring.size ≡ true = ap (λ r. is_ring_size r.size) (sym c.ring.view_is) ∙ c.ring.invariant.fits in
    let few : is_producer_count ring.producers ≡ true = ap (λ r. is_producer_count r.producers) (sym c.ring.view_is) ∙ c.ring.invariant.few in
    let whole : collected_packet (as_processor (only_part c.self.inside.seat.me.0)) ≡ Some words = ap (λ v. collected_packet v.part) c.self.view_is ∙ c.requires.shown.0 in
    retired_adds ring.size ring.producers c.self.inside.next c.add_one-index.result (then_some c.self.inside.whole c.self.inside.packet) c.self.inside.seat.me c.store.new.seat.me c.add_one-index.new.seat.me fits few c.self.invariant c.store.ensures.told c.add_one-index.ensures.told words whole
    ∙ ap (λ v. v.part.retired ++ words ∷ []) c.self.view_is

pub returns-clause-few : goal.returns-clause-few
returns-clause-few c =
    let ring = c.args.ring.now in
    let index : ℕ = c.add_one-index.result in
    let fits : is_ring_size ring.size ≡ true = ap (λ r. is_ring_size r.size) (sym c.ring.view_is) ∙ c.ring.invariant.fits in
    let few : is_producer_count ring.producers ≡ true = ap (λ r. is_producer_count r.producers) (sym c.ring.view_is) ∙ c.ring.invariant.few in
    let found = found_index ring.size ring.producers c.self.inside.next index (then_some c.self.inside.whole c.self.inside.packet) c.self.inside.seat.me c.store.new.seat.me c.add_one-index.new.seat.me fits few c.self.invariant c.store.ensures.told c.add_one-index.ensures.told in
    let pass = retired_pass ring.size ring.producers c.self.inside.next index (then_some c.self.inside.whole c.self.inside.packet) c.self.inside.seat.me c.store.new.seat.me c.add_one-index.new.seat.me fits few c.self.invariant c.store.ensures.told c.add_one-index.ensures.told in
    subst (λ (n : ℕ). n < 2 ^ 64) pass.index found.1
