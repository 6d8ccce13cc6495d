-- Bytes that end within a packet's form are read as ended.
use Rattle.std.proofs.Common.{◌≡◌, ℕ, suc, ◌+◌, ◌*◌, ◌/◌, ◌%◌, Bool, true, false, List, [], ◌∷◌, ◌++◌, length, refl, sym, ap, ◌∙◌, arith, append-nil, inl, inr}
use Rattle.std.specs.Prelude.{◌==◌, Ok, Err, if◌then◌else◌}
use Rattle.aql_packet.specs.Words.{words_of, bytes_of as packet_of}
use Rattle.packed_journal.specs.declared.unread.Unread.TheVariants.{Ended}
use Rattle.packed_journal.specs.Words.{Packet, fits, mask_of, packed, packed_full, packed_number, packed_words}
use Rattle.packed_journal.specs.Readings.{and_read, made, read_number, read_packet, read_words, wrong}
use Rattle.packed_journal.proofs.Steps.{mask_step, words_step}
use Rattle.packed_journal.proofs.NumberLaws.{both_first}
use Rattle.packed_journal.proofs.PacketForms.{AreBelow, are_64, full_back, of_bytes_below}
use Rattle.packed_journal.proofs.Fronts.{FormEnds, Parts, no_more, number_bytes_end, parted, same_first, same_rest}

words_end_within : (words : List ℕ) → AreBelow words → (front more : List ℕ) (b : ℕ) → packed_words words ≡ front ++ b ∷ more → read_words (length words) (mask_of words) front ≡ Err Ended
words_end_within [] below front more b is = absurd (omega (arith, no_more front more b is))
words_end_within (word ∷ words) below front more b is =
    by_word (λ f m is. words_end_within words (λ at. below (suc at)) f m b is) (word == 0) refl
  where
    by_word : ((f m : List ℕ) → packed_words words ≡ f ++ b ∷ m → read_words (length words) (mask_of words) f ≡ Err Ended) → (none : Bool) → (word == 0) ≡ none →
        read_words (suc (length words)) (mask_of (word ∷ words)) front ≡ Err Ended
    by_word go true h =
        let mask : mask_of (word ∷ words) ≡ 0 + 2 * mask_of words = mask_step word words ∙ rw h refl in
        let bit : (0 + 2 * mask_of words) % 2 ≡ 0 = omega arith in
        let above : (0 + 2 * mask_of words) / 2 ≡ mask_of words = omega arith in
        let nothing : packed_full word ≡ [] = rw h refl in
        ap (λ m. read_words (suc (length words)) m front) mask
        ∙ words_step (length words) (0 + 2 * mask_of words) front
        ∙ rw (bit, above, go front more (ap (λ f. f ++ packed_words words) (sym nothing) ∙ is)) refl
    by_word go false h =
        let mask : mask_of (word ∷ words) ≡ 1 + 2 * mask_of words = mask_step word words ∙ rw h refl in
        let bit : (1 + 2 * mask_of words) % 2 ≡ 1 = omega arith in
        let above : (1 + 2 * mask_of words) / 2 ≡ mask_of words = omega arith in
        let some : packed_full word ≡ packed_number word = rw h refl in
        ap (λ m. read_words (suc (length words)) m front) mask
        ∙ words_step (length words) (1 + 2 * mask_of words) front
        ∙ rw (bit, above) (by_part go h (parted (packed_number word) (packed_words words) front more b (ap (λ f. f ++ packed_words words) (sym some) ∙ is)))
      where
        by_part : ((f m : List ℕ) → packed_words words ≡ f ++ b ∷ m → read_words (length words) (mask_of words) f ≡ Err Ended) → (word == 0) ≡ false →
            Parts (packed_number word) (packed_words words) front more b →
            and_read (and_read (read_number 64 front) (λ w rest. if w == 0 then Err (wrong front) else Ok (w, rest)))
            (λ w rest. and_read (read_words (length words) (mask_of words) rest) (λ ws end. Ok (w ∷ ws, end))) ≡ Err Ended
        by_part go h (inl q) = rw (number_bytes_end 64 word front q.0 q.1.0 q.1.1) refl
        by_part go h (inr q) =
            ap (λ all. and_read (and_read (read_number 64 all) (λ w rest. if w == 0 then Err (wrong all) else Ok (w, rest)))
            (λ w rest. and_read (read_words (length words) (mask_of words) rest) (λ ws end. Ok (w ∷ ws, end)))) q.1.0
            ∙ ap (λ one. and_read one (λ w rest. and_read (read_words (length words) (mask_of words) rest) (λ ws end. Ok (w ∷ ws, end)))) (full_back word q.0 (below 0) h)
            ∙ ap (λ all. and_read all (λ ws end. Ok (word ∷ ws, end))) (go q.0 more q.1.1)

pub packet_ends : FormEnds (λ bs. Packet bs ∷ []) read_packet
packet_ends bs f [] more b is = refl
packet_ends bs f (y ∷ front) more b is =
    let whole : mask_of (words_of bs) ∷ packed_words (words_of bs) ≡ y ∷ (front ++ b ∷ more) = sym (append-nil (packed (Packet bs))) ∙ is in
    let first : mask_of (words_of bs) ≡ y = same_first (mask_of (words_of bs)) y (packed_words (words_of bs)) (front ++ b ∷ more) whole in
    ap (λ m. made packet_of (read_words 8 m front)) (sym first)
    ∙ ap (made packet_of) (words_end_within (words_of bs) (of_bytes_below bs (are_64 bs (both_first (fits (Packet bs)) true f)).below) front more b
    (same_rest (mask_of (words_of bs)) y (packed_words (words_of bs)) (front ++ b ∷ more) whole))
