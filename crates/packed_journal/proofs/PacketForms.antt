-- A packet is read as it was written, and written as it was read.
use Rattle.std.proofs.Common.{◌≡◌, ℕ, zero, suc, ◌+◌, ◌*◌, ◌/◌, ◌%◌, ◌<◌, Bool, true, false, List, [], ◌∷◌, ◌++◌, length, get_or, refl, sym, ap, ◌∙◌, subst, arith, append_assoc}
use Rattle.std.specs.Bool.{⊤}
use Rattle.std.specs.Prelude.{◌^◌, ◌==◌, nat_lt, slice_index, Some, None, Ok, Err, if◌then◌else◌}
use Rattle.std.proofs.Math.Nat.{pow-succ'}
use Rattle.std.specs.List.{list_all}
use Rattle.std.proofs.lemmas.Bool.Decides.{nat_tests}
use Rattle.aql_packet.specs.Layout.{Are64Bytes}
use Rattle.aql_packet.specs.Numbers.{number_at}
use Rattle.aql_packet.specs.Words.{words_of, bytes_of as packet_of}
use Rattle.aql_packet.proofs.WordLemmas.{bytes_back, words_back}
use Rattle.packed_journal.specs.Words.{Number, Packet, Reading, and_then, where_some, within, number_in, packed, packed_full, packed_number, packed_words, fits, mask_of}
use Rattle.packed_journal.specs.Readings.{Read, bytes_of, fit, and_read, made, wrong, unless_read, unread_number, read_number, read_full, read_word, read_words, read_packet}
use Rattle.packed_journal.proofs.Steps.{no_mask, mask_step, words_end, words_step}
use Rattle.packed_journal.proofs.NumberLaws.{both_first, both_second, is_less, is_same, number_read}
use Rattle.packed_journal.proofs.Ranges.{number_in_range}
use Rattle.packed_journal.proofs.Forms.{IsForm, WrittenSo, one_word, number_form}

-- ---- 64 bytes

byte_below : (bytes : List ℕ) → list_all (λ byte. nat_lt byte 256) bytes ≡ true → (at : ℕ) → slice_index bytes at < 256
byte_below [] h at = omega arith
byte_below (byte ∷ bytes) h zero = is_less byte 256 (both_first (nat_lt byte 256) (list_all (λ b. nat_lt b 256) bytes) h)
byte_below (byte ∷ bytes) h (suc at) = byte_below bytes (both_second (nat_lt byte 256) (list_all (λ b. nat_lt b 256) bytes) h) at

pub are_64 : (bytes : List ℕ) → fits (Packet bytes) ≡ true → Are64Bytes bytes
are_64 bytes f = record {
  count = is_same (length bytes) 64 (both_first (length bytes == 64) (list_all (λ b. nat_lt b 256) bytes) f);
  below = byte_below bytes (both_second (length bytes == 64) (list_all (λ b. nat_lt b 256) bytes) f);
}

-- ---- words

-- each is below 2^64
abbrev pub AreBelow : List ℕ → Type 0
AreBelow words = (at : ℕ) → get_or words at 0 < 2 ^ 64

part_below : (bytes : List ℕ) (place size : ℕ) → ((at : ℕ) → slice_index bytes at < 256) → number_at bytes place size < 256 ^ size
unfolding number_at
part_below bytes place zero below = omega arith
part_below bytes place (suc size) below =
    let byte = below place in
    let rest = part_below bytes (suc place) size below in
    rw (pow-succ' 256 size) (omega arith)

pub of_bytes_below : (bytes : List ℕ) → ((at : ℕ) → slice_index bytes at < 256) → AreBelow (words_of bytes)
of_bytes_below bytes below zero = part_below bytes 0 8 below
of_bytes_below bytes below (suc zero) = part_below bytes 8 8 below
of_bytes_below bytes below (suc (suc zero)) = part_below bytes 16 8 below
of_bytes_below bytes below (suc (suc (suc zero))) = part_below bytes 24 8 below
of_bytes_below bytes below (suc (suc (suc (suc zero)))) = part_below bytes 32 8 below
of_bytes_below bytes below (suc (suc (suc (suc (suc zero))))) = part_below bytes 40 8 below
of_bytes_below bytes below (suc (suc (suc (suc (suc (suc zero)))))) = part_below bytes 48 8 below
of_bytes_below bytes below (suc (suc (suc (suc (suc (suc (suc zero))))))) = part_below bytes 56 8 below
of_bytes_below bytes below (suc (suc (suc (suc (suc (suc (suc (suc at)))))))) = omega arith

pub full_back : (word : ℕ) (rest : List ℕ) → word < 2 ^ 64 → (word == 0) ≡ false → read_full (packed_number word ++ rest) ≡ Ok (word, rest)
full_back word rest below some =
    ap (λ found. and_read (unless_read (unread_number (packed_number word ++ rest)) found) (λ w end. if w == 0 then Err (wrong (packed_number word ++ rest)) else Ok (w, end)))
    (number_read 64 word rest (number_in_range 64 word below below))
    ∙ rw some refl

words_back_so : (words rest : List ℕ) → AreBelow words → read_words (length words) (mask_of words) (packed_words words ++ rest) ≡ Ok (words, rest)
words_back_so [] rest below = ap (λ mask. read_words zero mask rest) no_mask ∙ words_end 0 rest
words_back_so (word ∷ words) rest below = by_word (word == 0) refl (words_back_so words rest (λ at. below (suc at)))
  where
    by_word : (none : Bool) → (word == 0) ≡ none → read_words (length words) (mask_of words) (packed_words words ++ rest) ≡ Ok (words, rest) →
        read_words (suc (length words)) (mask_of (word ∷ words)) (packed_words (word ∷ words) ++ rest) ≡ Ok (word ∷ words, rest)
    by_word true h read =
        let mask : mask_of (word ∷ words) ≡ 0 + 2 * mask_of words = mask_step word words ∙ rw h refl in
        let bit : (0 + 2 * mask_of words) % 2 ≡ 0 = omega arith in
        let above : (0 + 2 * mask_of words) / 2 ≡ mask_of words = omega arith in
        let front : packed_full word ≡ [] = rw h refl in
        ap (λ m. read_words (suc (length words)) m (packed_words (word ∷ words) ++ rest)) mask
        ∙ ap (λ f. read_words (suc (length words)) (0 + 2 * mask_of words) ((f ++ packed_words words) ++ rest)) front
        ∙ words_step (length words) (0 + 2 * mask_of words) (packed_words words ++ rest)
        ∙ rw (bit, above, read) (ap (λ w. Ok (w ∷ words, rest)) (sym (is_same word 0 h)))
    by_word false h read =
        let mask : mask_of (word ∷ words) ≡ 1 + 2 * mask_of words = mask_step word words ∙ rw h refl in
        let bit : (1 + 2 * mask_of words) % 2 ≡ 1 = omega arith in
        let above : (1 + 2 * mask_of words) / 2 ≡ mask_of words = omega arith in
        let front : packed_full word ≡ packed_number word = rw h refl in
        ap (λ m. read_words (suc (length words)) m (packed_words (word ∷ words) ++ rest)) mask
        ∙ ap (λ f. read_words (suc (length words)) (1 + 2 * mask_of words) ((f ++ packed_words words) ++ rest)) front
        ∙ ap (read_words (suc (length words)) (1 + 2 * mask_of words)) (append_assoc (packed_number word) (packed_words words) rest)
        ∙ words_step (length words) (1 + 2 * mask_of words) (packed_number word ++ (packed_words words ++ rest))
        ∙ rw (bit, above) (ap (λ one. and_read one (λ w end. and_read (read_words (length words) (mask_of words) end) (λ ws last. Ok (w ∷ ws, last))))
        (full_back word (packed_words words ++ rest) (below 0) h) ∙ ap (λ all. and_read all (λ ws last. Ok (word ∷ ws, last))) read)

-- what words that are read tell of their bits and their bytes
abbrev Told : ℕ → ℕ → List ℕ → Read (List ℕ) → Type 0
Told more mask bytes (Err why) = ⊤
Told more mask bytes (Ok read) = (mask ≡ mask_of read.0) × (bytes ≡ packed_words read.0 ++ read.1) × (length read.0 ≡ more) × AreBelow read.0

-- what one word that is read tells, of its bit
abbrev One : ℕ → List ℕ → Read ℕ → Type 0
One bit bytes (Err why) = ⊤
One bit bytes (Ok read) = ((if read.0 == 0 then 0 else 1) ≡ bit) × (bytes ≡ packed_full read.0 ++ read.1) × (read.0 < 2 ^ 64)

-- a number that is read has 64 bits
abbrev Small : Read ℕ → Type 0
Small (Err why) = ⊤
Small (Ok read) = read.0 < 2 ^ 64

small_number : (bytes : List ℕ) → Small (read_number 64 bytes)
small_number bytes = by_read (number_in 10 bytes)
  where
    by_size : (n : ℕ) (rest : List ℕ) (few : Bool) → nat_lt n (2 ^ 64) ≡ few → Small (unless_read (unread_number bytes) (where_some (if few then Some n else None) rest))
    by_size n rest true h = is_less n (2 ^ 64) h
    by_size n rest false h = tt

    by_read : (found : Reading ℕ) → Small (unless_read (unread_number bytes) (and_then found (λ n rest. where_some (within 64 n) rest)))
    by_read None = tt
    by_read (Some found) = by_size found.0 found.1 (nat_lt found.0 (2 ^ 64)) refl

full_told : (bytes : List ℕ) (read : Read ℕ) → WrittenSo (λ n. Number 64 n ∷ []) bytes read → Small read →
    One 1 bytes (and_read read (λ word rest. if word == 0 then Err (wrong bytes) else Ok (word, rest)))
full_told bytes (Err why) t s = tt
full_told bytes (Ok read) t s = by_word (read.0 == 0) refl
  where
    by_word : (none : Bool) → (read.0 == 0) ≡ none → One 1 bytes (if none then Err (wrong bytes) else Ok (read.0, read.1))
    by_word true h = tt
    by_word false h = (rw h refl, rw h (t ∙ one_word (Number 64 read.0) read.1), s)

word_told : (bit : ℕ) (bytes : List ℕ) → bit < 2 → One bit bytes (read_word bit bytes)
word_told bit bytes few = by_bit (bit == 0) refl
  where
    by_bit : (none : Bool) → (bit == 0) ≡ none → One bit bytes (if none then Ok (0, bytes) else read_full bytes)
    by_bit true h = (sym (is_same bit 0 h), refl, omega arith)
    by_bit false h =
        let one : 1 ≡ bit = grind (arith, nat_tests) in
        subst (λ b. One b bytes (read_full bytes)) one (full_told bytes (read_number 64 bytes) ((number_form 64).tells bytes) (small_number bytes))

words_told : (more mask : ℕ) (bytes : List ℕ) → Told more mask bytes (read_words more mask bytes)
words_told zero mask bytes = rw (words_end mask bytes) (by_mask (mask == 0) refl)
  where
    by_mask : (none : Bool) → (mask == 0) ≡ none → Told zero mask bytes (if none then Ok ([], bytes) else Err (wrong bytes))
    by_mask true e = (is_same mask 0 e ∙ sym no_mask, refl, refl, λ at. omega arith)
    by_mask false e = tt
words_told (suc more) mask bytes =
    rw (words_step more mask bytes) (with_word (read_word (mask % 2) bytes) (word_told (mask % 2) bytes (omega arith)) (λ rest. words_told more (mask / 2) rest))
  where
    below : (word : ℕ) (words : List ℕ) → word < 2 ^ 64 → AreBelow words → AreBelow (word ∷ words)
    below word words h go zero = h
    below word words h go (suc at) = go at

    joined : (word : ℕ) (rest : List ℕ) (read : Read (List ℕ)) → One (mask % 2) bytes (Ok (word, rest)) → Told more (mask / 2) rest read →
        Told (suc more) mask bytes (and_read read (λ words end. Ok (word ∷ words, end)))
    joined word rest (Err why) one t = tt
    joined word rest (Ok read) one t = (
      sym (mask_step word read.0 ∙ ap (λ b. b + 2 * mask_of read.0) one.0 ∙ ap (λ m. mask % 2 + 2 * m) (sym t.0) ∙ omega arith),
      one.1 ∙ ap (λ all. packed_full word ++ all) t.1 ∙ sym (append_assoc (packed_full word) (packed_words read.0) read.1),
      ap suc t.2,
      below word read.0 one.2 t.3,
    )

    with_word : (found : Read ℕ) → One (mask % 2) bytes found → ((rest : List ℕ) → Told more (mask / 2) rest (read_words more (mask / 2) rest)) →
        Told (suc more) mask bytes (and_read found (λ word rest. and_read (read_words more (mask / 2) rest) (λ words end. Ok (word ∷ words, end))))
    with_word (Err why) one go = tt
    with_word (Ok found) one go = joined found.0 found.1 (read_words more (mask / 2) found.1) one (go found.1)

-- ---- packets

pub packet_back : (bytes rest : List ℕ) → fits (Packet bytes) ≡ true → read_packet (packed (Packet bytes) ++ rest) ≡ Ok (bytes, rest)
packet_back bytes rest f =
    let are : Are64Bytes bytes = are_64 bytes f in
    ap (made packet_of) (words_back_so (words_of bytes) rest (of_bytes_below bytes are.below))
    ∙ ap (λ all. Ok (all, rest)) (bytes_back bytes are)

packet_tells : (bytes : List ℕ) → WrittenSo (λ bs. Packet bs ∷ []) bytes (read_packet bytes)
packet_tells [] = tt
packet_tells (mask ∷ bytes) = so (read_words 8 mask bytes) (words_told 8 mask bytes)
  where
    so : (read : Read (List ℕ)) → Told 8 mask bytes read → WrittenSo (λ bs. Packet bs ∷ []) (mask ∷ bytes) (made packet_of read)
    so (Err why) t = tt
    so (Ok read) t =
        let back : words_of (packet_of read.0) ≡ read.0 = words_back read.0 (record { count = t.2; below = t.3 }) in
        ap (λ m. m ∷ bytes) t.0 ∙ ap (λ all. mask_of read.0 ∷ all) t.1
        ∙ ap (λ words. mask_of words ∷ (packed_words words ++ read.1)) (sym back)
        ∙ sym (one_word (Packet (packet_of read.0)) read.1)

pub packet_form : IsForm (λ bs. Packet bs ∷ []) read_packet
packet_form = record { back = back; tells = packet_tells }
  where
    back : (bs rest : List ℕ) → fit (Packet bs ∷ []) ≡ true → read_packet (bytes_of (Packet bs ∷ []) ++ rest) ≡ Ok (bs, rest)
    back bs rest f = ap read_packet (one_word (Packet bs) rest) ∙ packet_back bs rest (both_first (fits (Packet bs)) true f)

pub packet_told : (bytes read rest : List ℕ) → read_packet bytes ≡ Ok (read, rest) → bytes ≡ packed (Packet read) ++ rest
packet_told bytes read rest e = subst (WrittenSo (λ bs. Packet bs ∷ []) bytes) e (packet_tells bytes) ∙ one_word (Packet read) rest
