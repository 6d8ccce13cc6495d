-- The end of a ring.
use Rattle.std.proofs.Common.{◌≡◌, ℕ, zero, suc, ◌+◌, ◌*◌, ◌<◌, Bool, true, false, List, [], ◌∷◌, ◌++◌, length, get_or, drop, map, refl, ap, ◌∙◌, sym, subst, arith, inl, inr}
use Rattle.std.specs.Prelude.{◌&&◌, All}
use Rattle.std.proofs.lemmas.Bool.Decides.{eqb_tells}
use mathlib.Core.Option.{some, some-injective, some-ne-none}
use lib.ListN.{get_elem?}
use Rattle.atomic_table.specs.Table.{Final, Seen}
use Rattle.ring_core.specs.declared.part.SeatPart.{SeatPart}
use Rattle.ring_core.specs.declared.part.SeatPart.TheVariants.{Producer, Processor}
use Rattle.ring_core.specs.Parts.{nobody}
use Rattle.ring_core.specs.Machine.{machine_of, Replays}
use Rattle.ring_core.proofs.Kept.{replays_keep}
use Rattle.ring.specs.declared.share.Numbered.{Numbered}
use Rattle.ring.specs.declared.share.RingShape.{RingShape}
use Rattle.ring.specs.Places.{words_seen}
use Rattle.ring.specs.Shares.{alone, shape_of, AreOf, IsKept}
use Rattle.ring.proofs.Places.{wide, seen_is, drop_at}
use Rattle.ring.specs.Passes.{RingSeen, ProducerSeen, ProcessorSeen}
use Rattle.ring.specs.Settling.{has_pass, has_passes, share_of, IsClosed, IsSettled}

and_false : (b : Bool) → (b && false) ≡ false
and_false true = refl
and_false false = refl

pub missing_one : (n k : ℕ) (passes : List ProducerSeen) → k < n → has_pass (k + 1) passes ≡ false → has_passes n passes ≡ false
missing_one zero k passes lt lacks = absurd (omega (arith, lt))
missing_one (suc n) k passes lt lacks =
    elim (eqb_tells k n) [
      | inl g ↦
          let e : k + 1 ≡ suc n = omega (arith, g.1) in
          let f : has_pass (suc n) passes ≡ false = ap (λ i. has_pass i passes) (sym e) ∙ lacks in
          ap (λ b. has_passes n passes && b) f ∙ and_false (has_passes n passes)
      | inr g ↦ let h : has_passes n passes ≡ false = missing_one n k passes (omega (arith, g.1, lt)) lacks in ap (λ b. b && has_pass (suc n) passes) h
    ]

-- what was closed
pub closes : {S : Type 0} (ring : RingSeen) (shape : RingShape) (id : ℕ) (share : List Numbered) (words : List ℕ) (slots : List S) → shape ≡ shape_of ring.size ring.producers → Final (Seen (IsKept {S = S} shape) id share) words slots → IsClosed ring share (words_seen words)
closes ring shape id share words slots is final =
    let kept = subst (λ (s : RingShape). IsKept s final.0) is final.1.0 in
    let w = final.2 in
    (kept.0, kept.1, subst (λ (ws : List ℕ). Replays ring.size ring.producers kept.0 (machine_of ring.size (words_seen ws) kept.1)) w kept.2, kept.3.own id share final.1.1)

-- how many words are seen
pub closed_length : (ring : RingSeen) (share : List Numbered) (words : List ℕ) → 0 < ring.size → IsClosed ring share words → length words ≡ 2 + 8 * ring.size
closed_length ring share words pos h = (replays_keep ring.size ring.producers h.0 (machine_of ring.size words h.1) pos h.2).words

-- a word that was read
pub word_read : (words : List ℕ) (i w : ℕ) → get_elem? words i ≡ some w → get_or words i 0 ≡ w
word_read [] i w e = absurd (some-ne-none w (sym e))
word_read (x ∷ xs) zero w e = some-injective x w e
word_read (x ∷ xs) (suc i) w e = word_read xs i w e

pub word_at : (words : List ℕ) (place w at : ℕ) → at ≡ place → get_elem? words at ≡ some w → get_or words place 0 ≡ w
word_at words place w at is e = word_read words place w (subst (λ (k : ℕ). get_elem? words k ≡ some w) is e)

-- a list that has these words has all of them
pub same_words : (xs ys : List ℕ) → length xs ≡ length ys → ((j : ℕ) → j < length xs → get_or xs j 0 ≡ get_or ys j 0) → xs ≡ ys
same_words [] [] n e = refl
same_words [] (y ∷ ys) n e = absurd (omega (arith, n))
same_words (x ∷ xs) [] n e = absurd (omega (arith, n))
same_words (x ∷ xs) (y ∷ ys) n e =
    let h : x ≡ y = e 0 (omega arith) in
    let t : xs ≡ ys = same_words xs ys (omega (arith, n)) (λ j lt. e (suc j) (omega (arith, lt))) in
    λ i. h i ∷ t i

-- a table of which the indices and the slots were read has just these words to see
pub all_words : (words slots : List ℕ) (w r : ℕ) → length (words_seen words) ≡ suc (suc (length slots)) → get_or words 16 0 ≡ w → get_or words 32 0 ≡ r → ((j : ℕ) → j < length slots → get_or slots j 0 ≡ get_or words (48 + j) 0) → words_seen words ≡ w ∷ r ∷ slots
all_words words slots w r n a b e =
    let is : words_seen words ≡ get_or words 16 0 ∷ get_or words 32 0 ∷ drop 48 words = seen_is words (wide words (omega (arith, n))) in
    let m : length (words_seen words) ≡ suc (suc (length (drop 48 words))) = ap length is in
    let t : drop 48 words ≡ slots = same_words (drop 48 words) slots (omega (arith, n, m)) (λ j lt. drop_at 48 j words ∙ sym (e j (omega (arith, n, m, lt)))) in
    is ∙ (λ i. a i ∷ b i ∷ t i)

-- the shares of passes
pub are_passes : (parts : List SeatPart) (passes : List ProducerSeen) → AreOf parts (map share_of passes) → All (λ pass. get_or parts pass.number nobody ≡ Producer pass.part) passes
are_passes parts [] h zero d lt = absurd (omega (arith, lt))
are_passes parts [] h (suc k) d lt = absurd (omega (arith, lt))
are_passes parts (pass ∷ passes) h zero d lt = h.0
are_passes parts (pass ∷ passes) h (suc k) d lt = are_passes parts passes h.1 k d (omega (arith, lt))

pub settles : (ring : RingSeen) (passes : List ProducerSeen) (processor : ProcessorSeen) (w r : ℕ) (slots : List ℕ) → 0 < ring.size → IsClosed ring (alone 0 (Processor processor.part) ++ map share_of passes) (w ∷ r ∷ slots) → IsSettled ring passes processor w r slots
settles ring passes processor w r slots pos h =
    record {
      steps = h.0;
      parts = h.1;
      replays = h.2;
      rule = replays_keep ring.size ring.producers h.0 (machine_of ring.size (w ∷ r ∷ slots) h.1) pos h.2;
      retired = h.3.0;
      published = are_passes h.1 passes h.3.1;
    }

-- one share more
pub share_more : (first : List Numbered) (passes : List ProducerSeen) (pass : ProducerSeen) → (first ++ map share_of passes) ++ share_of pass ∷ [] ≡ first ++ map share_of (passes ++ pass ∷ [])
share_more [] [] pass = refl
share_more [] (p ∷ passes) pass = ap (λ (xs : List Numbered). share_of p ∷ xs) (share_more [] passes pass)
share_more (x ∷ first) passes pass = ap (λ (xs : List Numbered). x ∷ xs) (share_more first passes pass)
