-- The 64 bytes of a packet, and the eight of a word; and a packet that is a line's only word.
use Rattle.std.proofs.Common.{◌≡◌, ℕ, ◌+◌, ◌*◌, ◌<◌, Bool, true, cond, List, [], ◌∷◌, ◌++◌, length, take, drop, Option, Some, None, refl, sym, ap, ◌∙◌, arith, append_assoc, append-nil}
use Rattle.std.specs.Prelude.{option_map, option_and_then, unwrap_or, ◌==◌, ◌&&◌, ◌||◌, false, if◌then◌else◌}
use Rattle.std.specs.Option.{is_some}
use Rattle.std.proofs.lemmas.Bool.Decides.{nat_tests}
use Rattle.std.proofs.lemmas.List.{take_all, drop_all}
use Rattle.words.specs.Lines.{Word, is_blank, one_word, words, words_from}
use Rattle.words.specs.Bytes.{byte_of, bytes_word}
use Rattle.words.specs.Numbers.{digit_of}
use Rattle.words.specs.Packets.{eight_bytes, word_at, words_of, packet_bytes, packet_word}
use Rattle.words.proofs.Pairing.{bytes_end, bytes_odd, bytes_step}
use Rattle.words.proofs.Splitting.{kept_begun, words_from_end, words_from_other}

-- bytes are half as many as their digits
half_of : (byte : Option ℕ) (last : Option (List ℕ)) (digits : ℕ) (bytes : List ℕ) → ((further : List ℕ) → last ≡ Some further → digits ≡ 2 * length further) →
    option_and_then (λ byte. option_map (λ bytes. byte ∷ bytes) last) byte ≡ Some bytes → 2 + digits ≡ 2 * length bytes
half_of None last digits bytes half e = cc
half_of (Some byte) None digits bytes half e = cc
half_of (Some byte) (Some further) digits bytes half e =
    let here : digits ≡ 2 * length further = half further refl in
    let long : length (byte ∷ further) ≡ length bytes = ap (λ (o : Option (List ℕ)). length (unwrap_or o [])) e in omega (arith, here, long)

half : (word : Word) (bytes : List ℕ) → bytes_word word ≡ Some bytes → length word ≡ 2 * length bytes
half [] bytes e = let long : 0 ≡ length bytes = ap (λ (o : Option (List ℕ)). length (unwrap_or o [])) (sym bytes_end ∙ e) in omega (arith, long)
half (high ∷ []) bytes e = let none : None ≡ Some bytes = sym (bytes_odd high) ∙ e in cc
half (high ∷ low ∷ word) bytes e =
    let here : 2 + length word ≡ 2 * length bytes =
    half_of (byte_of high low) (bytes_word word) (length word) bytes (λ further is. half word further is) (sym (bytes_step high low word) ∙ e) in
    omega (arith, here)

-- a packet's bytes have just 128 digits
packet_of : (word : Word) (bytes : Option (List ℕ)) → bytes_word word ≡ bytes → (length word ≡ 128 → ⊥) →
    option_and_then (λ bytes. if length bytes == 64 then Some bytes else None) bytes ≡ None
packet_of word None e other = refl
packet_of word (Some bytes) e other =
    let long : length word ≡ 2 * length bytes = half word bytes e in
    let not : (length bytes == 64) ≡ false = by_count (length bytes == 64) refl long in
    rw not refl
  where
    by_count : (b : Bool) → (length bytes == 64) ≡ b → length word ≡ 2 * length bytes → b ≡ false
    by_count false is long = refl
    by_count true is long = let so : length bytes ≡ 64 = grind (arith, nat_tests, is) in absurd (other (omega (arith, so, long)))

pub packet_other : (word : Word) → (length word ≡ 128 → ⊥) → packet_bytes word ≡ None
packet_other word other = packet_of word (bytes_word word) refl other

-- all digits
pub packet_whole : (word filled : List ℕ) (place : ℕ) → place ≡ 64 → length word ≡ 128 →
    bytes_word word ≡ option_map (λ bytes. take place filled ++ bytes) (bytes_word (drop (2 * place) word)) → length filled ≡ 64 → packet_bytes word ≡ Some filled
packet_whole word filled place done long so full =
    let none : drop (2 * place) word ≡ [] = drop_all (2 * place) word (omega (arith, done, long)) in
    let whole : take place filled ++ [] ≡ filled = append-nil (take place filled) ∙ take_all place filled (omega (arith, done, full)) in
    let fits : (length filled == 64) ≡ true = grind (arith, nat_tests, full) in
    rw (so, none, bytes_end) (rw whole (rw fits refl))

-- ---- digits alone are one word

-- a digit is no blank
nonblank : (byte value : ℕ) → digit_of byte ≡ Some value → is_blank byte ≡ false
nonblank byte value e = by_space (byte == 32) refl
  where
    no : (n : ℕ) → ◌≡◌ {A = Option ℕ} None (Some n) → ⊥
    no n f = cc

    is : (n : ℕ) → (byte == n) ≡ true → byte ≡ n
    is n f = grind (arith, nat_tests, f)

    by_return : (b : Bool) → (byte == 13) ≡ b → b ≡ false
    by_return false f = refl
    by_return true f = absurd (no value (sym (ap digit_of (is 13 f)) ∙ e))

    by_tab : (b : Bool) → (byte == 9) ≡ b → (b || byte == 13) ≡ false
    by_tab false f = by_return (byte == 13) refl
    by_tab true f = absurd (no value (sym (ap digit_of (is 9 f)) ∙ e))

    by_space : (b : Bool) → (byte == 32) ≡ b → ((b || byte == 9) || byte == 13) ≡ false
    by_space false f = by_tab (byte == 9) refl
    by_space true f = absurd (no value (sym (ap digit_of (is 32 f)) ∙ e))

-- the digits and the further bytes of bytes that are there
record IsPair (high low : ℕ) (word : Word) : Type 0 where
  first : ℕ
  second : ℕ
  high_is : digit_of high ≡ Some first
  low_is : digit_of low ≡ Some second
  further : List ℕ
  further_is : bytes_word word ≡ Some further

pair_of : (high low : ℕ) (word : Word) (h l : Option ℕ) (last : Option (List ℕ)) (bytes : List ℕ) → digit_of high ≡ h → digit_of low ≡ l → bytes_word word ≡ last →
    option_and_then (λ byte. option_map (λ bytes. byte ∷ bytes) last) (option_and_then (λ a. option_map (λ b. 16 * a + b) l) h) ≡ Some bytes → IsPair high low word
pair_of high low word (Some h) (Some l) (Some last) bytes h_is l_is last_is e =
    record { first = h; second = l; high_is = h_is; low_is = l_is; further = last; further_is = last_is }
pair_of high low word None l last bytes h_is l_is last_is e = cc
pair_of high low word (Some h) None last bytes h_is l_is last_is e = cc
pair_of high low word (Some h) (Some l) None bytes h_is l_is last_is e = cc

digits_from : (word digits : Word) (bytes : List ℕ) → bytes_word digits ≡ Some bytes → words_from word digits ≡ words_from (word ++ digits) []
digits_from word [] bytes e = rw (append-nil word) refl
digits_from word (high ∷ []) bytes e = let none : None ≡ Some bytes = sym (bytes_odd high) ∙ e in cc
digits_from word (high ∷ low ∷ digits) bytes e =
    let pair : IsPair high low digits =
    pair_of high low digits (digit_of high) (digit_of low) (bytes_word digits) bytes refl refl refl (sym (bytes_step high low digits) ∙ e) in
    words_from_other word high (low ∷ digits) (nonblank high pair.first pair.high_is)
    ∙ words_from_other (word ++ high ∷ []) low digits (nonblank low pair.second pair.low_is)
    ∙ digits_from ((word ++ high ∷ []) ++ low ∷ []) digits pair.further pair.further_is
    ∙ ap (λ all. words_from all []) (append_assoc (word ++ high ∷ []) (low ∷ []) digits ∙ append_assoc word (high ∷ []) (low ∷ digits))

digits_alone : (text : Word) (bytes : List ℕ) → bytes_word text ≡ Some bytes → 0 < length text → words text ≡ text ∷ []
digits_alone text bytes e begun = digits_from [] text bytes e ∙ words_from_end text ∙ kept_begun text [] begun

packet_alone : (text : Word) (bytes : Option (List ℕ)) (packet : List ℕ) → bytes_word text ≡ bytes →
    option_and_then (λ bytes. if length bytes == 64 then Some (words_of bytes) else None) bytes ≡ Some packet → words text ≡ text ∷ []
packet_alone text None packet is e = cc
packet_alone text (Some bytes) packet is e = by_count (length bytes == 64) refl e
  where
    by_count : (b : Bool) → (length bytes == 64) ≡ b → cond b (Some (words_of bytes)) None ≡ Some packet → words text ≡ text ∷ []
    by_count false so e = cc
    by_count true so e =
        let count : length bytes ≡ 64 = grind (arith, nat_tests, so) in
        digits_alone text bytes is (omega (arith, half text bytes is, count))

-- a packet's digits are the only word of their line
pub only_word : (text : Word) (packet : List ℕ) {all : List Word} → words text ≡ all → packet_word text ≡ Some packet → Some packet ≡ option_and_then packet_word (one_word all)
only_word text packet is e = rw (sym is ∙ packet_alone text (bytes_word text) packet refl e) (sym e)

is_eight_of : (word : Word) (bytes : Option (List ℕ)) → bytes_word word ≡ bytes →
    (is_some bytes && (length word == 16)) ≡ is_some (option_and_then (λ bytes. if length bytes == 8 then Some (word_at bytes 0) else None) bytes)
is_eight_of word None e = refl
is_eight_of word (Some bytes) e = by_length (length bytes == 8) refl
  where
    by_length : (b : Bool) → (length bytes == 8) ≡ b → (length word == 16) ≡ is_some (if length bytes == 8 then Some (word_at bytes 0) else None)
    by_length true is =
        let so : (length word == 16) ≡ true = grind (arith, nat_tests, half word bytes e, is) in so ∙ sym (ap (λ b. is_some (if b then Some (word_at bytes 0) else None)) is)
    by_length false is =
        let so : (length word == 16) ≡ false = grind (arith, nat_tests, half word bytes e, is) in so ∙ sym (ap (λ b. is_some (if b then Some (word_at bytes 0) else None)) is)

pub is_eight : (word : Word) → (is_some (bytes_word word) && (length word == 16)) ≡ is_some (eight_bytes word)
is_eight word = is_eight_of word (bytes_word word) refl
