-- A packet's digits, 32 at a time: the values of sixteen pairs, and the bytes that they make.
use Rattle.std.proofs.Common.{◌≡◌, ℕ, zero, suc, ◌+◌, ◌-◌, ◌*◌, ◌%◌, ◌^◌, ◌<◌, ◌≤◌, Bool, true, false, cond, eqb, leb, eqb-true, List, [], ◌∷◌, map, length, get_or, replicate, take, drop, ◌++◌, Option, Some, None, refl, sym, ap, ◌∙◌, arith, bit_or, append_assoc, w8, Fits}
use Rattle.std.specs.Prelude.{nat_lt, ◌==◌, ◌&&◌, option_map, option_and_then, if◌then◌else◌}
use Rattle.std.proofs.lemmas.Bool.Decides.{nat_tests}
use Rattle.std.proofs.lemmas.List.{drop_all, take_all, take-append-drop, drop-drop, length-map, length-take-le, length-drop}
use Rattle.std.proofs.lemmas.Nat.{le_or_l, le_or_r, or_lt}
use Rattle.std.proofs.lemmas.Simd.{mask_l-mod, length-zip2}
use lib.Lanes.{zip2, chunk, pick_l, mask_l, top}
use Rattle.words.specs.Lines.{Word}
use Rattle.words.specs.Bytes.{byte_of, bytes_word}
use Rattle.words.specs.Numbers.{digit_of}
use Rattle.words.specs.Packets.{packet_bytes}
use Rattle.words.specs.inner.Lanes.{lane_value}
use Rattle.words.proofs.Filling.{packet_whole}
use Rattle.words.proofs.Pairing.{bytes_end, bytes_step}
use Rattle.words.proofs.Splitting.{left_at}
use Rattle.words.proofs.Tables.{both, same, same_is, told}

-- ---- one digit: what its lane has

-- the bytes below a number have their digits' values
abbrev are_told : ℕ → Bool
are_told zero = true
are_told (suc byte) = same (told (lane_value byte)) (digit_of byte) && are_told byte

told_at : (count byte : ℕ) → are_told (suc count) ≡ true → byte < suc count → (are_told count ≡ true → byte < count → told (lane_value byte) ≡ digit_of byte) →
    (b : Bool) → (byte == count) ≡ b → told (lane_value byte) ≡ digit_of byte
told_at count byte all lt before true is =
    let at : byte ≡ count = grind (arith, nat_tests, is) in
    let here = both (same (told (lane_value count)) (digit_of count)) (are_told count) all in
    ap (λ n. told (lane_value n)) at ∙ same_is (told (lane_value count)) (digit_of count) here.0 ∙ sym (ap digit_of at)
told_at count byte all lt before false is =
    let less : byte < count = grind (arith, nat_tests, is, lt) in
    let here = both (same (told (lane_value count)) (digit_of count)) (are_told count) all in before here.1 less

told_below : (count byte : ℕ) → are_told count ≡ true → byte < count → told (lane_value byte) ≡ digit_of byte
told_below zero byte all lt = absurd (omega (arith, lt))
told_below (suc count) byte all lt = told_at count byte all lt (λ rest less. told_below count byte rest less) (byte == count) refl

value_told : (byte : ℕ) → byte < 256 → told (lane_value byte) ≡ digit_of byte
value_told byte lt = told_below 256 byte refl lt

-- ---- a pair of digits

-- the byte of two values, if both are those of digits
abbrev byte_at : ℕ → ℕ → Option ℕ
byte_at high low = if nat_lt (bit_or high low) 16 then Some (high * 16 + low) else None

pair_at_values : (h l : ℕ) (a b c : Bool) → nat_lt h 16 ≡ a → nat_lt l 16 ≡ b → nat_lt (bit_or h l) 16 ≡ c →
    option_and_then (λ x. option_map (λ y. 16 * x + y) (cond b (Some l) None)) (cond a (Some h) None) ≡ cond c (Some (h * 16 + l)) None
pair_at_values h l true true true p q r = let same_number : 16 * h + l ≡ h * 16 + l = omega arith in ap Some same_number
pair_at_values h l true true false p q r =
    let few : h < 16 = grind (arith, nat_tests, p) in
    let fewer : l < 16 = grind (arith, nat_tests, q) in
    let many : 16 ≤ bit_or h l = grind (arith, nat_tests, r) in
    let less : bit_or h l < 16 = or_lt 4 h l few fewer in absurd (omega (arith, many, less))
pair_at_values h l false b true p q r =
    let many : 16 ≤ h = grind (arith, nat_tests, p) in
    let less : bit_or h l < 16 = grind (arith, nat_tests, r) in absurd (omega (arith, many, less, le_or_l h l))
pair_at_values h l false b false p q r = refl
pair_at_values h l true false true p q r =
    let many : 16 ≤ l = grind (arith, nat_tests, q) in
    let less : bit_or h l < 16 = grind (arith, nat_tests, r) in absurd (omega (arith, many, less, le_or_r h l))
pair_at_values h l true false false p q r = refl

pair_value : (high low : ℕ) → high < 256 → low < 256 → byte_of high low ≡ byte_at (lane_value high) (lane_value low)
pair_value high low less fewer =
    ap (λ o. option_and_then (λ x. option_map (λ y. 16 * x + y) (digit_of low)) o) (sym (value_told high less))
    ∙ ap (λ o. option_and_then (λ x. option_map (λ y. 16 * x + y) o) (told (lane_value high))) (sym (value_told low fewer))
    ∙ pair_at_values (lane_value high) (lane_value low) (nat_lt (lane_value high) 16) (nat_lt (lane_value low) 16) (nat_lt (bit_or (lane_value high) (lane_value low)) 16) refl refl refl

-- ---- many pairs, by their digits' values

-- the bytes of values
read : List ℕ → List ℕ → Option (List ℕ)
read [] lows = Some []
read (high ∷ highs) [] = Some []
read (high ∷ highs) (low ∷ lows) = option_and_then (λ byte. option_map (λ bytes. byte ∷ bytes) (read highs lows)) (byte_at high low)

-- each second place from one on
abbrev seconds : ℕ → ℕ → List ℕ
seconds place zero = []
seconds place (suc count) = place ∷ seconds (place + 2) count

pairs_read : (digits : List ℕ) (count place : ℕ) → place + 2 * count ≡ length digits → ((k : ℕ) → get_or digits k 0 < 256) →
    bytes_word (drop place digits) ≡ read (map lane_value (pick_l 0 digits (seconds place count))) (map lane_value (pick_l 0 digits (seconds (place + 1) count)))
unfolding read
pairs_read digits zero place long fits = ap bytes_word (drop_all place digits (omega (arith, long))) ∙ bytes_end
pairs_read digits (suc count) place long fits =
    let second : place + 1 + 1 ≡ place + 2 = omega arith in
    let further : place + 2 + 1 ≡ place + 1 + 2 = omega arith in
    let split : drop place digits ≡ get_or digits place 0 ∷ get_or digits (place + 1) 0 ∷ drop (place + 2) digits =
    left_at digits place (omega (arith, long))
    ∙ ap (λ rest. get_or digits place 0 ∷ rest) (left_at digits (place + 1) (omega (arith, long)) ∙ ap (λ i. get_or digits (place + 1) 0 ∷ drop i digits) second) in
    ap bytes_word split
    ∙ bytes_step (get_or digits place 0) (get_or digits (place + 1) 0) (drop (place + 2) digits)
    ∙ ap (λ rest. option_and_then (λ byte. option_map (λ bytes. byte ∷ bytes) rest) (byte_of (get_or digits place 0) (get_or digits (place + 1) 0)))
    (pairs_read digits count (place + 2) (omega (arith, long)) fits
    ∙ ap (λ i. read (map lane_value (pick_l 0 digits (seconds (place + 2) count))) (map lane_value (pick_l 0 digits (seconds i count)))) further)
    ∙ ap (option_and_then (λ byte. option_map (λ bytes. byte ∷ bytes) (read (map lane_value (pick_l 0 digits (seconds (place + 2) count))) (map lane_value (pick_l 0 digits (seconds (place + 1 + 2) count))))))
    (pair_value (get_or digits place 0) (get_or digits (place + 1) 0) (fits place) (fits (place + 1)))

-- ---- what lanes tell of them

-- which lanes are above 15
abbrev above : ℕ → List ℕ → List ℕ → List Bool
above lanes highs lows = map (top 7) (zip2 (λ a b. cond (leb a b) 255 0) (replicate lanes 16) (zip2 bit_or highs lows))

abbrev others : ℕ → List ℕ → List ℕ → ℕ
others lanes highs lows = mask_l (above lanes highs lows)

-- the bytes, where no lane is
abbrev byte_in : ℕ → ℕ → ℕ
byte_in high low = ((high * 16) % 2 ^ 8 + low) % 2 ^ 8

abbrev bytes_in : ℕ → List ℕ → List ℕ → List ℕ
bytes_in lanes highs lows = zip2 (λ a b. (a + b) % 2 ^ 8) (zip2 (λ a b. (a * b) % 2 ^ 8) highs (replicate lanes 16)) lows

byte_in_is : (high low : ℕ) → bit_or high low < 16 → high * 16 + low ≡ byte_in high low
byte_in_is high low less = omega (arith, less, le_or_l high low, le_or_r high low)

one_more : (high low left : ℕ) (bytes : List ℕ) (rest : Option (List ℕ)) (none : Bool) → eqb left 0 ≡ none → rest ≡ cond none (Some bytes) None →
    bit_or high low < 16 → option_map (λ further. (high * 16 + low) ∷ further) rest ≡ cond none (Some (byte_in high low ∷ bytes)) None
one_more high low left bytes rest true is e less = ap (option_map (λ further. (high * 16 + low) ∷ further)) e ∙ ap (λ byte. Some (byte ∷ bytes)) (byte_in_is high low less)
one_more high low left bytes rest false is e less = ap (option_map (λ further. (high * 16 + low) ∷ further)) e

doubled : (left : ℕ) (none : Bool) → eqb left 0 ≡ none → eqb (0 + 2 * left) 0 ≡ none
doubled left true is = let zero_left : left ≡ 0 = grind (arith, nat_tests, is) in ap (λ n. eqb (0 + 2 * n) 0) zero_left
doubled left false is = let more : 0 < left = grind (arith, nat_tests, is) in grind (arith, nat_tests, more)

lane_more : (high low left : ℕ) (bytes : List ℕ) (rest : Option (List ℕ)) (few many : Bool) → nat_lt (bit_or high low) 16 ≡ few → leb 16 (bit_or high low) ≡ many →
    rest ≡ cond (eqb left 0) (Some bytes) None →
    option_and_then (λ byte. option_map (λ further. byte ∷ further) rest) (cond few (Some (high * 16 + low)) None)
    ≡ cond (eqb (cond (top 7 (cond many 255 0)) 1 0 + 2 * left) 0) (Some (byte_in high low ∷ bytes)) None
lane_more high low left bytes rest true true p q e = absurd (grind (arith, nat_tests, p, q))
lane_more high low left bytes rest true false p q e =
    let less : bit_or high low < 16 = grind (arith, nat_tests, p) in
    one_more high low left bytes rest (eqb left 0) refl e less
    ∙ ap (λ b. cond b (Some (byte_in high low ∷ bytes)) None) (sym (doubled left (eqb left 0) refl))
lane_more high low left bytes rest false true p q e =
    let some : eqb (1 + 2 * left) 0 ≡ false = grind (arith, nat_tests) in ap (λ b. cond b (Some (byte_in high low ∷ bytes)) None) (sym some)
lane_more high low left bytes rest false false p q e = absurd (grind (arith, nat_tests, p, q))

lanes_read : (highs lows : List ℕ) → length highs ≡ length lows → read highs lows ≡ cond (eqb (others (length highs) highs lows) 0) (Some (bytes_in (length highs) highs lows)) None
unfolding read
lanes_read [] [] e = refl
lanes_read [] (low ∷ lows) e = absurd (omega (arith, e))
lanes_read (high ∷ highs) [] e = absurd (omega (arith, e))
lanes_read (high ∷ highs) (low ∷ lows) e =
    lane_more high low (others (length highs) highs lows) (bytes_in (length highs) highs lows) (read highs lows) (nat_lt (bit_or high low) 16) (leb 16 (bit_or high low)) refl refl
    (lanes_read highs lows (omega (arith, e)))

-- ---- 32 digits in their lanes

-- both halves
halves : (digits : List ℕ) → length digits ≡ 32 → chunk 0 16 digits ++ chunk 16 16 digits ≡ digits
halves digits long =
    ap (λ rest. take 16 digits ++ rest) (take_all 16 (drop 16 digits) (omega (arith, length-drop 16 digits, long))) ∙ take-append-drop 16 digits

sixteen_read : (digits highs lows : List ℕ) → length digits ≡ 32 → ((k : ℕ) → get_or digits k 0 < 256) → highs ≡ map lane_value (pick_l 0 digits (seconds 0 16)) →
    lows ≡ map lane_value (pick_l 0 digits (seconds 1 16)) →
    bytes_word digits ≡ cond (eqb (others 16 highs lows % 2 ^ 64) 0) (Some (bytes_in 16 highs lows)) None
sixteen_read digits highs lows long fits high low =
    let many : length highs ≡ 16 = ap length high in
    let more : length lows ≡ 16 = ap length low in
    let masks : length (above 16 highs lows) ≤ 64 = masked many more in
    pairs_read digits 16 0 (sym long) fits
    ∙ ap (λ l. read l (map lane_value (pick_l 0 digits (seconds 1 16)))) (sym high) ∙ ap (read highs) (sym low)
    ∙ lanes_read highs lows (many ∙ sym more)
    ∙ ap (λ n. cond (eqb (others n highs lows) 0) (Some (bytes_in n highs lows)) None) many
    ∙ ap (λ n. cond (eqb n 0) (Some (bytes_in 16 highs lows)) None) (sym (mask_l-mod (above 16 highs lows) 64 masks))
  where
    masked : length highs ≡ 16 → length lows ≡ 16 → length (above 16 highs lows) ≤ 64
    masked many more =
        omega (
          arith,
          length-map (zip2 {C = ℕ} (λ a b. cond (leb a b) 255 0) (replicate 16 16) (zip2 bit_or highs lows)) (top 7),
          length-zip2 {C = ℕ} (λ a b. cond (leb a b) 255 0) (replicate 16 16) (zip2 bit_or highs lows) (sym (length-zip2 bit_or highs lows (many ∙ sym more) ∙ many)),
          length-zip2 bit_or highs lows (many ∙ sym more),
          many,
        )

abbrev both_halves : List ℕ → List ℕ
both_halves digits = chunk 0 16 digits ++ chunk 16 16 digits

sixteen_told : (digits highs lows : List ℕ) → length digits ≡ 32 → ((k : ℕ) → Fits w8 (get_or digits k 0)) →
    highs ≡ map lane_value (pick_l 0 (both_halves digits) (seconds 0 16)) → lows ≡ map lane_value (pick_l 0 (both_halves digits) (seconds 1 16)) →
    bytes_word digits ≡ cond (eqb (others 16 highs lows % 2 ^ 64) 0) (Some (bytes_in 16 highs lows)) None
sixteen_told digits highs lows long fits high low =
    let whole = halves digits long in
    sixteen_read digits highs lows long (λ k. (fits k).fits)
    (high ∙ ap (λ l. map lane_value (pick_l 0 l (seconds 0 16))) whole) (low ∙ ap (λ l. map lane_value (pick_l 0 l (seconds 1 16))) whole)

-- where no lane is above 15, and where one is
pub sixteen_some : (digits highs lows : List ℕ) → length digits ≡ 32 → ((k : ℕ) → Fits w8 (get_or digits k 0)) →
    highs ≡ map lane_value (pick_l 0 (both_halves digits) (seconds 0 16)) → lows ≡ map lane_value (pick_l 0 (both_halves digits) (seconds 1 16)) →
    others 16 highs lows % 2 ^ 64 ≡ 0 → Some (bytes_in 16 highs lows) ≡ bytes_word digits
sixteen_some digits highs lows long fits high low none =
    sym (sixteen_told digits highs lows long fits high low ∙ ap (λ n. cond (eqb n 0) (Some (bytes_in 16 highs lows)) None) none)

pub sixteen_none : (digits highs lows : List ℕ) → length digits ≡ 32 → ((k : ℕ) → Fits w8 (get_or digits k 0)) →
    highs ≡ map lane_value (pick_l 0 (both_halves digits) (seconds 0 16)) → lows ≡ map lane_value (pick_l 0 (both_halves digits) (seconds 1 16)) →
    (others 16 highs lows % 2 ^ 64 ≡ 0 → ⊥) → None ≡ bytes_word digits
sixteen_none digits highs lows long fits high low some =
    sym (sixteen_told digits highs lows long fits high low
    ∙ ap (λ b. cond b (Some (bytes_in 16 highs lows)) None) (by_mask (others 16 highs lows % 2 ^ 64) some))
  where
    by_mask : (n : ℕ) → (n ≡ 0 → ⊥) → eqb n 0 ≡ false
    by_mask n other = by_test (eqb n 0) refl
      where
        by_test : (b : Bool) → eqb n 0 ≡ b → b ≡ false
        by_test true is = absurd (other (eqb-true n 0 is))
        by_test false is = refl

-- ---- a part of the digits, and those behind it

without_bytes : (bytes : Option (List ℕ)) → bytes ≡ option_map (λ further. [] ++ further) bytes
without_bytes None = refl
without_bytes (Some bytes) = refl

joined_behind : (byte : Option ℕ) (front back : Option (List ℕ)) →
    option_and_then (λ byte. option_map (λ bytes. byte ∷ bytes) (option_and_then (λ bytes. option_map (λ further. bytes ++ further) back) front)) byte
    ≡ option_and_then (λ bytes. option_map (λ further. bytes ++ further) back) (option_and_then (λ byte. option_map (λ bytes. byte ∷ bytes) front) byte)
joined_behind None front back = refl
joined_behind (Some byte) None back = refl
joined_behind (Some byte) (Some bytes) None = refl
joined_behind (Some byte) (Some bytes) (Some further) = refl

bytes_parted : (count : ℕ) (front back : Word) → length front ≡ 2 * count →
    bytes_word (front ++ back) ≡ option_and_then (λ bytes. option_map (λ further. bytes ++ further) (bytes_word back)) (bytes_word front)
bytes_parted zero [] back long =
    without_bytes (bytes_word back) ∙ ap (option_and_then (λ bytes. option_map (λ further. bytes ++ further) (bytes_word back))) (sym bytes_end)
bytes_parted zero (byte ∷ front) back long = absurd (omega (arith, long))
bytes_parted (suc count) [] back long = absurd (omega (arith, long))
bytes_parted (suc count) (high ∷ []) back long = absurd (omega (arith, long))
bytes_parted (suc count) (high ∷ low ∷ front) back long =
    bytes_step high low (front ++ back)
    ∙ ap (λ rest. option_and_then (λ byte. option_map (λ bytes. byte ∷ bytes) rest) (byte_of high low)) (bytes_parted count front back (omega (arith, long)))
    ∙ joined_behind (byte_of high low) (bytes_word front) (bytes_word back)
    ∙ ap (option_and_then (λ bytes. option_map (λ further. bytes ++ further) (bytes_word back))) (sym (bytes_step high low front))

-- what the digits up to a part's tell of all
abbrev pub AreRead : Word → List ℕ → ℕ → Type 0
AreRead word bytes part = bytes_word word ≡ option_map (λ further. take (16 * part) bytes ++ further) (bytes_word (drop (32 * part) word))

pub none_read : (word bytes : List ℕ) → AreRead word bytes 0
none_read word bytes = without_bytes (bytes_word word)

part_of : (word : Word) (part : ℕ) → length word ≡ 128 → part < 4 → drop (32 * part) word ≡ take 32 (drop (32 * part) word) ++ drop (32 * (part + 1)) word
part_of word part long less =
    sym (take-append-drop 32 (drop (32 * part) word))
    ∙ ap (λ rest. take 32 (drop (32 * part) word) ++ rest) (drop-drop 32 (32 * part) word ∙ ap (λ n. drop n word) (omega arith))

long_part : (word : Word) (part : ℕ) → length word ≡ 128 → part < 4 → length (take 32 (drop (32 * part) word)) ≡ 2 * 16
long_part word part long less = length-take-le 32 (drop (32 * part) word) (omega (arith, length-drop (32 * part) word, long, less))

behind_part : (word : Word) (part : ℕ) → length word ≡ 128 → part < 4 → (read : Option (List ℕ)) → read ≡ bytes_word (take 32 (drop (32 * part) word)) →
    bytes_word (drop (32 * part) word) ≡ option_and_then (λ bytes. option_map (λ further. bytes ++ further) (bytes_word (drop (32 * (part + 1)) word))) read
behind_part word part long less read is =
    ap bytes_word (part_of word part long less)
    ∙ bytes_parted 16 (take 32 (drop (32 * part) word)) (drop (32 * (part + 1)) word) (long_part word part long less)
    ∙ ap (option_and_then (λ bytes. option_map (λ further. bytes ++ further) (bytes_word (drop (32 * (part + 1)) word)))) (sym is)

as_many : (word : Word) (part : ℕ) → bytes_word (take (32 * part + 32 - 32 * part) (drop (32 * part) word)) ≡ bytes_word (take 32 (drop (32 * part) word))
as_many word part = let count : 32 * part + 32 - 32 * part ≡ 32 = omega arith in ap (λ n. bytes_word (take n (drop (32 * part) word))) count

appended : (before here after : List ℕ) (back : Option (List ℕ)) → after ≡ before ++ here →
    option_map (λ further. before ++ further) (option_map (λ further. here ++ further) back) ≡ option_map (λ further. after ++ further) back
appended before here after None e = refl
appended before here after (Some further) e = rw e (ap Some (sym (append_assoc before here further)))

-- sixteen bytes more
pub read_more : (word bytes fuller read : List ℕ) (part : ℕ) → AreRead word bytes part → length word ≡ 128 → part < 4 →
    Some read ≡ bytes_word (take (32 * part + 32 - 32 * part) (drop (32 * part) word)) → take (16 * (part + 1)) fuller ≡ take (16 * part) bytes ++ read → AreRead word fuller (part + 1)
read_more word bytes fuller read part so long less is put =
    so
    ∙ ap (option_map (λ further. take (16 * part) bytes ++ further)) (behind_part word part long less (Some read) (is ∙ as_many word part))
    ∙ appended (take (16 * part) bytes) read (take (16 * (part + 1)) fuller) (bytes_word (drop (32 * (part + 1)) word)) put

-- digits among which one is none
pub none_more : (word bytes : List ℕ) (part : ℕ) → AreRead word bytes part → length word ≡ 128 → part < 4 →
    None ≡ bytes_word (take (32 * part + 32 - 32 * part) (drop (32 * part) word)) → packet_bytes word ≡ None
none_more word bytes part so long less is =
    ap (option_and_then (λ read. if length read == 64 then Some read else None))
    (so ∙ ap (option_map (λ further. take (16 * part) bytes ++ further)) (behind_part word part long less None (is ∙ as_many word part)))

-- all
pub packet_read : (word bytes : List ℕ) (part : ℕ) → AreRead word bytes part → part ≡ 4 → length word ≡ 128 → length bytes ≡ 64 → packet_bytes word ≡ Some bytes
packet_read word bytes part so done long full =
    packet_whole word bytes 64 refl long
    (so ∙ ap (λ n. option_map (λ further. take (16 * n) bytes ++ further) (bytes_word (drop (32 * n) word))) done) full
