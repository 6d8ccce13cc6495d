use Rattle.std.proofs.Common.{◌≡◌, ◌+◌, ◌*◌, ◌<◌, ◌∙◌, ℕ, suc, List, ◌∷◌, length, get_or, set, inl, inr, arith, sym, ap, subst, length-set, get_or-set_same, get_or-set_other}
use Rattle.std.proofs.lemmas.Bool.Decides.{eqb_tells}
use Rattle.aql_packet.specs.Ring.{is_ring_size}
use Rattle.ring_core.proofs.Sizes.{ring_size_bounds}
use Rattle.ring.specs.Places.{table_place, words_seen}
use Rattle.ring.specs.Shares.{shape_of}
use Rattle.ring.specs.Settling.{IsClosed}
use Rattle.ring.proofs.Places.{table_slot}
use Rattle.ring.proofs.Settling.{closes, closed_length, word_read, word_at, all_words}
use Rattle.ring.proofs.ring.Ring.close.Goals as goal

pub loop-index-preserved : goal.loop-index-preserved
loop-index-preserved c =
    let index : ℕ = c.loop-index.index in
    let words : List ℕ = c.close_with-closed.result.words.items in
    let place : c.table_place-in-loop-index.result ≡ table_place (2 + index) = c.table_place-in-loop-index.ensures in
    let at : table_place (2 + index) ≡ 48 + index = table_slot index in
    let found : get_or words (48 + index) 0 ≡ c.word.result = ap (λ k. get_or words k 0) (sym (place ∙ at)) ∙ word_read words c.table_place-in-loop-index.result c.word.result c.word.ensures in
    let n : length c.loop-index.slots.items ≡ length c.args.slots.items = c.loop-index.invariant.0 in
    let t = c.loop-index-test.true in
    let lt : index < length c.loop-index.slots.items = omega (arith, t, n, c.len-index-end.ensures) in (
      length-set c.loop-index.slots.items index c.word.result ∙ n,
      λ j near.
          elim (eqb_tells j index) [
            | inl g ↦ subst (λ (k : ℕ). get_or (set c.loop-index.slots.items index c.word.result) k 0 ≡ get_or words (48 + k) 0) (sym g.1) (get_or-set_same c.loop-index.slots.items index c.word.result 0 lt ∙ sym found)
            | inr g ↦ get_or-set_other c.loop-index.slots.items index j c.word.result 0 g.1 ∙ c.loop-index.invariant.1 j (omega (arith, near, g.1))
          ],
    )

pub returns : goal.returns
returns c =
    let ring = c.args.self in
    let v = c.self.view_is in
    let words : List ℕ = c.close_with-closed.result.words.items in
    let slots : List ℕ = c.loop-index.slots.items in
    let w : ℕ = c.word-write_index.result in
    let r : ℕ = c.word-read_index.result in
    let pos : 0 < ring.size = (ring_size_bounds ring.size (ap (λ x. is_ring_size x.size) (sym v) ∙ c.self.invariant.fits)).0 in
    let is : c.self.inside.table.shared.key ≡ shape_of ring.size ring.producers = c.self.invariant.made_for ∙ (λ i. shape_of (v i).size (v i).producers) in
    let closed : IsClosed ring c.args.seat.me.0 (words_seen words) = closes ring c.self.inside.table.shared.key c.args.seat.id c.args.seat.me.0 words c.close_with-closed.result.slots.items is c.close_with-closed.ensures.values.2 in
    let n : length (words_seen words) ≡ 2 + 8 * ring.size = closed_length ring c.args.seat.me.0 (words_seen words) pos closed in
    let m : length slots ≡ length c.args.slots.items = c.loop-index.invariant.0 in
    let k : length (words_seen words) ≡ suc (suc (length slots)) = omega (arith, n, m, c.requires.room) in
    let all : words_seen words ≡ w ∷ r ∷ slots =
    all_words words slots w r k (word_at words 16 w c.table_place.result c.table_place.ensures c.word-write_index.ensures) (word_at words 32 r c.table_place-2.result c.table_place-2.ensures c.word-read_index.ensures)
    (λ j lt. c.loop-index.invariant.1 j (let t = c.loop-index-test.false in let e = c.len-index-end.ensures in omega (arith, lt, m, t, e))) in
    subst (λ (ws : List ℕ). IsClosed ring c.args.seat.me.0 ws) (all ∙ ap (λ (s : List ℕ). w ∷ r ∷ s) (sym c.from_vec.ensures)) closed
