-- Words that fit are read as what they tell, and have no blank.
use Rattle.std.proofs.Common.{◌≡◌, ℕ, suc, ◌+◌, ◌-◌, ◌*◌, ◌/◌, ◌%◌, ◌<◌, Bool, true, false, List, [], ◌∷◌, ◌++◌, length, map, Option, Some, None, refl, sym, ap, ◌∙◌, arith, append_assoc, append-nil}
use Rattle.std.specs.Prelude.{◌^◌, nat_lt, nat_le, ◌==◌, ◌&&◌, not, ℤ, pos, negsuc, decimal, option_and_then}
use Rattle.std.specs.List.{list_all}
use Rattle.std.specs.Fmt.{signed_decimal}
use Rattle.std.proofs.lemmas.Bool.Decides.{nat_tests}
use Rattle.std.proofs.lemmas.Fmt.{decimal_by_steps, decimal_nonempty}
use Rattle.journal.specs.Words.{Text, Word, Name, Number, Signed, Bytes, Packet, Flags, text_of, text_of_bytes, hex_digit, flag_digit, behind_blanks, fits, are_bytes, is_blank, has_no_blank, is_signed, words_from, digit_of, with_digit, number_from, decimal_word, number_word, signed_word, hex_digit_of, byte_of, bytes_word, packet_word, flag_of, flags_word}
use Rattle.journal.proofs.WordSteps.{number_end, number_step, bytes_end, bytes_step, words_end, at_blank, past_blank}

-- ---- booleans

pub both_first : (a b : Bool) → (a && b) ≡ true → a ≡ true
both_first true b h = refl
both_first false b h = cc

pub both_second : (a b : Bool) → (a && b) ≡ true → b ≡ true
both_second true b h = h
both_second false b h = cc

pub both : (a b : Bool) → a ≡ true → b ≡ true → (a && b) ≡ true
both true true g h = refl
both true false g h = cc
both false b g h = cc

-- ---- decimal numbers

pub digit_is : (d : ℕ) → d < 10 → digit_of (48 + d) ≡ Some d
digit_is d h =
    let low : nat_le 48 (48 + d) ≡ true = grind (arith, nat_tests) in
    let high : nat_lt (48 + d) 58 ≡ true = grind (arith, nat_tests) in
    let back : 48 + d - 48 ≡ d = omega arith in
    rw (low, high, back) refl

with_digit_is : (m d r : ℕ) → m * 10 + d ≡ r → r < 2 ^ 64 → with_digit m d ≡ Some r
with_digit_is m d r e h =
    let small : nat_lt r (2 ^ 64) ≡ true = grind (arith, nat_tests) in
    rw (e, small) refl

carried : (f g : ℕ → Option ℕ) (m r : ℕ) → ((k : ℕ) → f k ≡ Some m → g k ≡ Some r) → (found : Option ℕ) → option_and_then f found ≡ Some m → option_and_then g found ≡ Some r
carried f g m r h None so = cc
carried f g m r h (Some k) so = h k so

same_found : (k m : ℕ) → Some k ≡ Some m → k ≡ m
same_found k m e = cc

-- a digit behind a number
number_last : (ds : Text) (k m d r : ℕ) → number_from k ds ≡ Some m → d < 10 → m * 10 + d ≡ r → r < 2 ^ 64 → number_from k (ds ++ (48 + d) ∷ []) ≡ Some r
number_last [] k m d r so small e h =
    let same : k ≡ m = same_found k m (sym (number_end k) ∙ so) in
    let next : with_digit k d ≡ Some r = with_digit_is k d r (rw same e) h in
    number_step k (48 + d) [] ∙ rw (digit_is d small) (rw next (number_end r))
number_last (b ∷ ds) k m d r so small e h =
    number_step k b (ds ++ (48 + d) ∷ [])
    ∙ carried (λ next. number_from next ds) (λ next. number_from next (ds ++ (48 + d) ∷ [])) m r (λ next found. number_last ds next m d r found small e h)
    (option_and_then (with_digit k) (digit_of b)) (sym (number_step k b ds) ∙ so)

pub decimal_read : (n : ℕ) → n < 2 ^ 64 → number_from 0 (decimal n) ≡ Some n
decimal_read n h =
    decimal_by_steps (λ m ds. m < 2 ^ 64 → number_from 0 ds ≡ Some m)
    (λ m small fits. number_last [] 0 0 m m (number_end 0) small (omega arith) fits)
    (λ m ds large so fits. number_last ds 0 (m / 10) (m % 10) m (so (omega arith)) (omega arith) (omega arith) fits)
    n h h

whole_word : (t : Text) → 0 < length t → decimal_word t ≡ number_from 0 t
whole_word [] h = absurd (omega arith)
whole_word (b ∷ ds) h = refl

pub decimal_word_read : (n : ℕ) → n < 2 ^ 64 → decimal_word (decimal n) ≡ Some n
decimal_word_read n h = whole_word (decimal n) (decimal_nonempty n h) ∙ decimal_read n h

is_less : (a b : ℕ) → nat_lt a b ≡ true → a < b
is_less a b h = grind (arith, nat_tests)

pub number_read : (bits n : ℕ) → fits (Number bits n) ≡ true → number_word bits (decimal n) ≡ Some n
number_read bits n h =
    let within_bits : nat_lt n (2 ^ bits) ≡ true = both_first (nat_lt n (2 ^ bits)) (nat_lt n (2 ^ 64)) h in
    let less : n < 2 ^ 64 = is_less n (2 ^ 64) (both_second (nat_lt n (2 ^ bits)) (nat_lt n (2 ^ 64)) h) in
    rw (decimal_word_read n less) (rw within_bits refl)

-- ---- signed numbers

pos_by_first : (b : ℕ) (ds : Text) (n : ℕ) (minus : Bool) → (b == 45) ≡ minus → number_from 0 (b ∷ ds) ≡ Some n → n < 2 ^ 63 → signed_word (b ∷ ds) ≡ Some (pos n)
pos_by_first b ds n true e so h =
    let is : b ≡ 45 = grind (arith, nat_tests) in
    let none : number_from 0 (b ∷ ds) ≡ None = rw is (number_step 0 45 ds) in
    cc
pos_by_first b ds n false e so h =
    let small : nat_lt n (2 ^ 63) ≡ true = grind (arith, nat_tests) in
    rw (e, so, small) refl

pos_read : (t : Text) (n : ℕ) → 0 < length t → number_from 0 t ≡ Some n → n < 2 ^ 63 → signed_word t ≡ Some (pos n)
pos_read [] n some so h = absurd (omega arith)
pos_read (b ∷ ds) n some so h = pos_by_first b ds n (b == 45) refl so h

pub signed_read : (z : ℤ) → is_signed z ≡ true → signed_word (signed_decimal z) ≡ Some z
signed_read (pos n) h =
    let less : n < 2 ^ 63 = is_less n (2 ^ 63) h in
    let wide : n < 2 ^ 64 = omega arith in
    pos_read (decimal n) n (decimal_nonempty n wide) (decimal_read n wide) less
signed_read (negsuc n) h =
    let less : n < 2 ^ 63 = is_less n (2 ^ 63) h in
    let wide : suc n < 2 ^ 64 = omega arith in
    let most : nat_le (suc n) (2 ^ 63) ≡ true = grind (arith, nat_tests) in
    rw (decimal_word_read (suc n) wide) (rw most refl)

-- ---- bytes

pub hex_digit_is : (n : ℕ) → n < 16 → hex_digit_of (hex_digit n) ≡ Some n
hex_digit_is n h = by_size n h (nat_lt n 10) refl
  where
    by_size : (n : ℕ) → n < 16 → (low : Bool) → nat_lt n 10 ≡ low → hex_digit_of (hex_digit n) ≡ Some n
    by_size n h true e =
        let from : nat_le 48 (48 + n) ≡ true = grind (arith, nat_tests) in
        let to : nat_lt (48 + n) 58 ≡ true = grind (arith, nat_tests) in
        let back : 48 + n - 48 ≡ n = omega arith in
        rw e (rw (from, to, back) refl)
    by_size n h false e =
        let over : nat_lt (87 + n) 58 ≡ false = grind (arith, nat_tests) in
        let past : nat_le 48 (87 + n) ≡ true = grind (arith, nat_tests) in
        let from : nat_le 97 (87 + n) ≡ true = grind (arith, nat_tests) in
        let to : nat_lt (87 + n) 103 ≡ true = grind (arith, nat_tests) in
        let back : 87 + n - 87 ≡ n = omega arith in
        rw e (rw (past, over, from, to, back) refl)

pub byte_read : (b : ℕ) → b < 256 → byte_of (hex_digit (b / 16)) (hex_digit (b % 16)) ≡ Some b
byte_read b h =
    let high : b / 16 < 16 = omega arith in
    let low : b % 16 < 16 = omega arith in
    let whole : 16 * (b / 16) + b % 16 ≡ b = omega arith in
    rw (hex_digit_is (b / 16) high, hex_digit_is (b % 16) low) (ap Some whole)

pub bytes_read : (bs : List ℕ) → are_bytes bs ≡ true → bytes_word (text_of_bytes bs) ≡ Some bs
bytes_read [] h = bytes_end
bytes_read (b ∷ bs) h =
    let first : b < 256 = is_less b 256 (both_first (nat_lt b 256) (are_bytes bs) h) in
    bytes_step (hex_digit (b / 16)) (hex_digit (b % 16)) (text_of_bytes bs)
    ∙ rw (byte_read b first, bytes_read bs (both_second (nat_lt b 256) (are_bytes bs) h)) refl

pub packet_read : (bs : List ℕ) → fits (Packet bs) ≡ true → packet_word (text_of_bytes bs) ≡ Some bs
packet_read bs h =
    let long : (length bs == 64) ≡ true = both_first (length bs == 64) (are_bytes bs) h in
    rw (bytes_read bs (both_second (length bs == 64) (are_bytes bs) h)) (rw long refl)

-- ---- flags

pub flag_is : (set : Bool) → flag_of (flag_digit set) ≡ Some set
flag_is true = refl
flag_is false = refl

pub flags_read : (fs : List Bool) → fits (Flags fs) ≡ true → flags_word (map flag_digit fs) ≡ Some fs
flags_read [] h = cc
flags_read (a ∷ []) h = cc
flags_read (a ∷ b ∷ []) h = cc
flags_read (a ∷ b ∷ c ∷ []) h = cc
flags_read (a ∷ b ∷ c ∷ d ∷ []) h = cc
flags_read (a ∷ b ∷ c ∷ d ∷ e ∷ []) h = rw (flag_is a) (rw (flag_is b) (rw (flag_is c) (rw (flag_is d) (rw (flag_is e) refl))))
flags_read (a ∷ b ∷ c ∷ d ∷ e ∷ f ∷ fs) h =
    let long : (length (a ∷ b ∷ c ∷ d ∷ e ∷ f ∷ fs) == 5) ≡ false = grind (arith, nat_tests) in cc

-- ---- no blank

is_plain : (b : ℕ) → (b == 32) ≡ false → (b == 10) ≡ false → not (is_blank b) ≡ true
is_plain b h g = rw (h, g) refl

digit_no_blank : (b d : ℕ) → digit_of b ≡ Some d → not (is_blank b) ≡ true
digit_no_blank b d h = is_plain b (blank (b == 32) refl) (feed (b == 10) refl)
  where
    blank : (test : Bool) → (b == 32) ≡ test → (b == 32) ≡ false
    blank true e =
        let is : b ≡ 32 = grind (arith, nat_tests) in
        let none : digit_of b ≡ None = rw is refl in
        cc
    blank false e = e

    feed : (test : Bool) → (b == 10) ≡ test → (b == 10) ≡ false
    feed true e =
        let is : b ≡ 10 = grind (arith, nat_tests) in
        let none : digit_of b ≡ None = rw is refl in
        cc
    feed false e = e

found_digit : (f : ℕ → Option ℕ) (m : ℕ) (found : Option ℕ) → option_and_then f found ≡ Some m → (d : ℕ) × (found ≡ Some d) × (f d ≡ Some m)
found_digit f m None h = cc
found_digit f m (Some d) h = (d, refl, h)

pub digits_no_blank : (t : Text) (k m : ℕ) → number_from k t ≡ Some m → has_no_blank t ≡ true
digits_no_blank [] k m h = refl
digits_no_blank (b ∷ t) k m h =
    let next : (n : ℕ) × (option_and_then (with_digit k) (digit_of b) ≡ Some n) × (number_from n t ≡ Some m) = found_digit (λ n. number_from n t) m (option_and_then (with_digit k) (digit_of b)) (sym (number_step k b t) ∙ h) in
    let digit : (d : ℕ) × (digit_of b ≡ Some d) × (with_digit k d ≡ Some next.0) = found_digit (with_digit k) next.0 (digit_of b) next.1 in
    both (not (is_blank b)) (has_no_blank t) (digit_no_blank b digit.0 digit.1) (digits_no_blank t next.0 m next.2)

pub decimal_no_blank : (n : ℕ) → n < 2 ^ 64 → has_no_blank (decimal n) ≡ true
decimal_no_blank n h = digits_no_blank (decimal n) 0 n (decimal_read n h)

hex_no_blank : (n : ℕ) → not (is_blank (hex_digit n)) ≡ true
hex_no_blank n = by_size (nat_lt n 10) refl
  where
    by_size : (low : Bool) → nat_lt n 10 ≡ low → not (is_blank (hex_digit n)) ≡ true
    by_size true e =
        let blank : (48 + n == 32) ≡ false = grind (arith, nat_tests) in
        let feed : (48 + n == 10) ≡ false = grind (arith, nat_tests) in
        rw e (is_plain (48 + n) blank feed)
    by_size false e =
        let blank : (87 + n == 32) ≡ false = grind (arith, nat_tests) in
        let feed : (87 + n == 10) ≡ false = grind (arith, nat_tests) in
        rw e (is_plain (87 + n) blank feed)

pub bytes_no_blank : (bs : List ℕ) → has_no_blank (text_of_bytes bs) ≡ true
bytes_no_blank [] = refl
bytes_no_blank (b ∷ bs) =
    both (not (is_blank (hex_digit (b / 16)))) (not (is_blank (hex_digit (b % 16))) && has_no_blank (text_of_bytes bs)) (hex_no_blank (b / 16))
    (both (not (is_blank (hex_digit (b % 16)))) (has_no_blank (text_of_bytes bs)) (hex_no_blank (b % 16)) (bytes_no_blank bs))

flags_no_blank : (fs : List Bool) → has_no_blank (map flag_digit fs) ≡ true
flags_no_blank [] = refl
flags_no_blank (true ∷ fs) = flags_no_blank fs
flags_no_blank (false ∷ fs) = flags_no_blank fs

pub word_no_blank : (w : Word) → fits w ≡ true → has_no_blank (text_of w) ≡ true
word_no_blank (Name t) h = h
word_no_blank (Number bits n) h = decimal_no_blank n (is_less n (2 ^ 64) (both_second (nat_lt n (2 ^ bits)) (nat_lt n (2 ^ 64)) h))
word_no_blank (Signed (pos n)) h = let less : n < 2 ^ 63 = is_less n (2 ^ 63) h in decimal_no_blank n (omega arith)
word_no_blank (Signed (negsuc n)) h = let less : n < 2 ^ 63 = is_less n (2 ^ 63) h in decimal_no_blank (suc n) (omega arith)
word_no_blank (Bytes bs) h = bytes_no_blank bs
word_no_blank (Packet bs) h = bytes_no_blank bs
word_no_blank (Flags fs) h = flags_no_blank fs

-- ---- words between blanks

turned : (a : Bool) → not a ≡ true → a ≡ false
turned true h = cc
turned false h = refl

-- bytes that are no blank belong to the word
pub past_word : (word t rest : Text) → has_no_blank t ≡ true → words_from word (t ++ rest) ≡ words_from (word ++ t) rest
past_word word [] rest h = ap (λ front. words_from front rest) (sym (append-nil word))
past_word word (b ∷ t) rest h =
    let plain : is_blank b ≡ false = turned (is_blank b) (both_first (not (is_blank b)) (has_no_blank t) h) in
    let behind : has_no_blank t ≡ true = both_second (not (is_blank b)) (has_no_blank t) h in
    past_blank word b (t ++ rest) plain ∙ past_word (word ++ b ∷ []) t rest behind
    ∙ ap (λ front. words_from front rest) (append_assoc word (b ∷ []) t)

-- a text, and behind it words behind blanks, is split into just these
pub split_as_written : (t : Text) (ws : List Word) → has_no_blank t ≡ true → list_all fits ws ≡ true → words_from [] (t ++ behind_blanks ws) ≡ t ∷ map text_of ws
split_as_written t [] h all = past_word [] t [] h ∙ words_end t
split_as_written t (w ∷ ws) h all =
    let first : fits w ≡ true = both_first (fits w) (list_all fits ws) all in
    past_word [] t (32 ∷ text_of w ++ behind_blanks ws) h ∙ at_blank t 32 (text_of w ++ behind_blanks ws) refl
    ∙ ap (λ words. t ∷ words) (split_as_written (text_of w) ws (word_no_blank w first) (both_second (fits w) (list_all fits ws) all))
