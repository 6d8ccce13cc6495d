use Rattle.std.proofs.Common.{◌≡◌, ◌<◌, ◌∙◌, ℕ, List, [], ◌∷◌, refl, sym, ap, subst}
use Rattle.std.specs.Prelude.{get_or, length, Some}
use Rattle.ring_core.specs.declared.access.Access.TheVariants.{LoadHeader}
use Rattle.ring_core.specs.declared.part.SeatPart.TheVariants.{Processor}
use Rattle.ring_core.specs.Parts.{collected_packet}
use Rattle.ring_core.specs.Words.{is_invalid}
use Rattle.ring_core.proofs.Sizes.{ring_size_bounds}
use Rattle.ring.specs.Bytes.{words_of, bytes_of}
use Rattle.ring.specs.declared.processor.Peeked.TheVariants as peeked
use Rattle.ring.specs.Made.{Gained, WereMade, knowing_all, read, showing}
use Rattle.aql_packet.proofs.WordLemmas.{bytes_back}
use Rattle.ring.specs.Steps.{only_number}
use Rattle.ring.proofs.Again.{not_empty, words_again}
use Rattle.std.specs.Bool.{then_some}
use Rattle.ring.specs.Passes.{ProcessorSeen, as_processor, only_part}
use Rattle.ring.proofs.Processing.{ME, shown_steps, shown_index, shown_retired, shown_packet, shown_pass}
use Rattle.ring.proofs.processor.ProcessorPass.peek.Goals as goal

pub invariant_of-self-in-Some : goal.invariant_of-self-in-Some
invariant_of-self-in-Some c =
    let got = c.in-Some.ensures.loaded in
    shown_pass c.args.ring.now.size c.args.ring.now.producers c.self.inside.next (then_some c.self.inside.whole c.self.inside.packet) c.self.inside.seat.me c.load_packet.new.seat.me c.in-Some.words (ring_size_bounds c.args.ring.now.size c.load_packet.ensures.fits).0 c.self.invariant got.0 got.1 got.2

pub returns-in-None-clause-again : goal.returns-in-None-clause-again
returns-in-None-clause-again c = λ shown bytes is.
    let got = c.in-None.ensures.loaded in
    let ring = c.args.ring.now in
    let q = as_processor (only_part c.self.inside.seat.me.0) in
    let pos : 0 < ring.size = (ring_size_bounds ring.size c.load_packet.ensures.fits).0 in
    let whole : collected_packet q ≡ Some (words_of shown.bytes) = ap (λ v. collected_packet v.part) c.self.view_is ∙ is.0 in
    let were : WereMade ring.size ring.producers 0 (Processor q) (read LoadHeader got.0 ∷ []) = subst (λ (m : ME). WereMade ring.size ring.producers (only_number m.0) (only_part m.0) (read LoadHeader got.0 ∷ [])) c.self.invariant.share got.2.were in
    absurd (not_empty ring.size ring.producers got.0 q shown.bytes pos c.self.invariant.resting whole got.1 were)

pub returns-in-Some-clause-again : goal.returns-in-Some-clause-again
returns-in-Some-clause-again c = λ shown bytes is.
    let got = c.in-Some.ensures.loaded in
    let ring = c.args.ring.now in
    let q = as_processor (only_part c.self.inside.seat.me.0) in
    let words : List ℕ = c.in-Some.words in
    let pos : 0 < ring.size = (ring_size_bounds ring.size c.load_packet.ensures.fits).0 in
    let whole : collected_packet q ≡ Some (words_of shown.bytes) = ap (λ v. collected_packet v.part) c.self.view_is ∙ is.0 in
    let were : WereMade ring.size ring.producers 0 (Processor q) (showing words) = subst (λ (m : ME). WereMade ring.size ring.producers (only_number m.0) (only_part m.0) (showing words)) c.self.invariant.share got.2.were in
    let same : words ≡ words_of shown.bytes = words_again ring.size ring.producers q (words_of shown.bytes) words pos c.self.invariant.resting whole refl got.0 got.1 were in
    let b : c.bytes_of.result ≡ shown.bytes = c.bytes_of.ensures.value ∙ ap bytes_of same ∙ bytes_back shown.bytes bytes in
    let e : c.self.inside.next ≡ shown.id.0 = c.self.invariant.index ∙ ap (λ v. length v.part.retired) c.self.view_is ∙ sym is.1 in
    λ i. peeked.Shown (record { id = record { 0 = e i }; bytes = b i })

pub returns-in-Some-clause-peeked : goal.returns-in-Some-clause-peeked
returns-in-Some-clause-peeked c =
    let got = c.in-Some.ensures.loaded in
    let ring = c.args.ring.now in
    let pos : 0 < ring.size = (ring_size_bounds ring.size c.load_packet.ensures.fits).0 in
    let words : words_of c.bytes_of.result ≡ c.in-Some.words = c.bytes_of.ensures.back in
    let steps = shown_steps ring.size ring.producers c.self.inside.next (then_some c.self.inside.whole c.self.inside.packet) c.self.inside.seat.me c.load_packet.new.seat.me c.in-Some.words pos c.self.invariant got.0 got.1 got.2 in
    let index = shown_index ring.size ring.producers c.self.inside.next (then_some c.self.inside.whole c.self.inside.packet) c.self.inside.seat.me c.load_packet.new.seat.me c.in-Some.words pos c.self.invariant got.0 got.1 got.2 in
    let packet = shown_packet ring.size ring.producers c.self.inside.next (then_some c.self.inside.whole c.self.inside.packet) c.self.inside.seat.me c.load_packet.new.seat.me c.in-Some.words pos c.self.invariant got.0 got.1 got.2 in
    let after = as_processor (only_part c.load_packet.new.seat.me.0) in (
      ap (λ (ws : List ℕ). is_invalid (get_or ws 0 0)) words ∙ got.1,
      c.self.invariant.index ∙ ap (λ v. length v.part.retired) c.self.view_is,
      (
        c.load_packet.ensures.seat ∙ ap (λ v. v.table) c.self.view_is,
        subst (λ (v : ProcessorSeen). Gained ring.size ring.producers 0 (Processor v.part) (showing (words_of c.bytes_of.result)) (Processor after)) c.self.view_is
            (subst (λ (ws : List ℕ). Gained ring.size ring.producers 0 (Processor (as_processor (only_part c.self.inside.seat.me.0))) (showing ws) (Processor after)) (sym words) steps.gained),
      ),
      (packet ∙ ap Some (sym words), index),
    )

pub returns-in-None-clause-leaves : goal.returns-in-None-clause-leaves
returns-in-None-clause-leaves c =
    let got = c.in-None.ensures.loaded in
    ap (λ (m : ME). (as_processor (only_part m.0)).retired) got.2.knows
    ∙ ap (λ (m : ME). (as_processor (knowing_all (only_part m.0) (read LoadHeader got.0 ∷ []))).retired) c.self.invariant.share
    ∙ ap (λ v. v.part.retired) c.self.view_is

pub returns-in-Some-clause-leaves : goal.returns-in-Some-clause-leaves
returns-in-Some-clause-leaves c =
    let got = c.in-Some.ensures.loaded in
    let ring = c.args.ring.now in
    let pos : 0 < ring.size = (ring_size_bounds ring.size c.load_packet.ensures.fits).0 in
    shown_retired ring.size ring.producers c.self.inside.next (then_some c.self.inside.whole c.self.inside.packet) c.self.inside.seat.me c.load_packet.new.seat.me c.in-Some.words pos c.self.invariant got.0 got.1 got.2
    ∙ ap (λ v. v.part.retired) c.self.view_is
