-- A number is read by all digits that stand there: one law for decimal and hexadecimal tells which they are, what
-- they spell, and that nothing is read where that passes 64 bits.
use Rattle.std.proofs.Common.{◌≡◌, ℕ, ◌+◌, ◌*◌, ◌^◌, ◌<◌, ◌≤◌, ◌⊎◌, inl, inr, ⊎_elim, List, [], ◌∷◌, ◌++◌, length, Bool, true, false, ◌==◌, not, if◌then◌else◌, Option, Some, None, refl, sym, ap, subst, ◌∙◌, codes, nat_lt, append_assoc, append-nil, arith}
use Rattle.std.proofs.lemmas.Bool.{cases_Bool, lt-ltb, ltb-true}
use Rattle.std.proofs.lemmas.Bool.Decides.{eqb_tells}
use Rattle.std.proofs.Math.Nat.{le-mul_of_pos_right}
use Rattle.std.specs.Char.{is_digit, digit_value}
use Rattle.std.specs.Str.Parse.{digits_value, digits_value_after}
use Rattle.hsail_reader.specs.Bytes.{behind, digits_at, decimal_at, numeral_at, numeral_behind, spelled}
use Rattle.hsail_reader.specs.Spelling.{AllPass, IsDecimal, IsHexadecimal, first_passes}
use Rattle.hsail_reader.specs.WordSpelling.{SpellsDecimal, SpellsHexadecimal, SpellsNumber}
use Rattle.hsail_reader.specs.Nouns.{Prefix}
use Rattle.hsail_reader.proofs.Options.{nothing, same_some, true_is_not_false}
use Rattle.hsail_reader.proofs.Runs.{heads, tails, differs, run_of, pass_append, pass_inside, behind_parts}

-- the numeral, if its value has at most 64 bits
abbrev pub fitting : ℕ → ℕ → Option (Prefix ℕ)
fitting value length = if nat_lt value (2 ^ 64) then Some (spelled value length) else None

pub fitted : (value length : ℕ) →
    ((value < 2 ^ 64) × (fitting value length ≡ Some (spelled value length)))
    ⊎ ((value < 2 ^ 64 → ⊥) × (fitting value length ≡ None))
fitted value length =
    ⊎_elim
    (λ small. inl (ltb-true value (2 ^ 64) small, rw small refl))
    (λ large. inr (λ lt. true_is_not_false (nat_lt value (2 ^ 64)) (lt-ltb value (2 ^ 64) lt) large, rw large refl))
    (cases_Bool (nat_lt value (2 ^ 64)))

-- the value of digits is at least that of the digits before them
value_grows : (radix value : ℕ) (digits : List ℕ) → 1 ≤ radix → value ≤ digits_value_after radix value digits
value_grows radix value [] some = omega arith
value_grows radix value (d ∷ digits) some =
    let rest = value_grows radix (value * radix + digit_value d) digits some in
    omega (arith, le-mul_of_pos_right {m = radix} value some, rest)

-- what passes 64 bits passes them with more digits
over : (less more length : ℕ) → nat_lt less (2 ^ 64) ≡ false → less ≤ more → fitting more length ≡ None
over less more length large le =
    ⊎_elim
    (λ small. let lt : less < 2 ^ 64 = omega (arith, ltb-true more (2 ^ 64) small, le) in
    true_is_not_false (nat_lt less (2 ^ 64)) (lt-ltb less (2 ^ 64) lt) large)
    (λ other. rw other refl)
    (cases_Bool (nat_lt more (2 ^ 64)))

-- the digits at the front are all read, where no other stands behind them
digits_are_read : (radix value before : ℕ) (digits more : List ℕ) → AllPass (λ d. is_digit d radix) digits →
    first_passes (λ d. is_digit d radix) more ≡ false → value < 2 ^ 64 → 1 ≤ radix →
    digits_at radix value before (digits ++ more)
    ≡ fitting (digits_value_after radix value digits) (before + length digits)
digits_are_read radix value before [] [] pass ends small some =
    rw (lt-ltb value (2 ^ 64) small) (ap (λ k. Some (spelled value k)) (omega arith))
digits_are_read radix value before [] (b ∷ more) pass ends small some =
    rw (ends, lt-ltb value (2 ^ 64) small) (ap (λ k. Some (spelled value k)) (omega arith))
digits_are_read radix value before (d ∷ digits) more pass ends small some =
    let next = value * radix + digit_value d in
    let total = digits_value_after radix next digits in
    let count : before + 1 + length digits ≡ before + length (d ∷ digits) = omega arith in
    ⊎_elim
    (λ (fit : nat_lt (value * radix + digit_value d) (2 ^ 64) ≡ true). rw (pass.0, fit)
    (digits_are_read radix next (before + 1) digits more pass.1 ends (ltb-true next (2 ^ 64) fit) some ∙ ap (fitting total) count))
    (λ (large : nat_lt (value * radix + digit_value d) (2 ^ 64) ≡ false). rw (pass.0, large)
    (sym (over next total (before + length (d ∷ digits)) large (value_grows radix next digits some))))
    (cases_Bool (nat_lt next (2 ^ 64)))

-- where a text is spelled, all that is spelled with it is read: text and extra, which spell n
abbrev pub Told : (List ℕ → Option (Prefix ℕ)) → (ℕ → List ℕ → Type 0) → List ℕ → List ℕ → Type 0
Told at Spells text more =
    (n : ℕ) × (extra : List ℕ) × (rest : List ℕ) × (more ≡ extra ++ rest) × Spells n (text ++ extra)
    × (at (text ++ more) ≡ fitting n (length (text ++ extra)))

-- the value of some decimal digits goes on from that of the first
first_value : (b : ℕ) (digits : List ℕ) → digits_value 10 (b ∷ digits) ≡ digits_value_after 10 (digit_value b) digits
first_value b digits = ap (λ v. digits_value_after 10 v digits) (omega arith)

-- the same bytes, in other parts
parts : (digits run rest more : List ℕ) → more ≡ run ++ rest → digits ++ more ≡ (digits ++ run) ++ rest
parts digits run rest more e = ap (λ xs. digits ++ xs) e ∙ sym (append_assoc digits run rest)

pub decimal_told : (text more : List ℕ) → IsDecimal text → Told decimal_at SpellsDecimal text more
decimal_told [] more is = absurd is
decimal_told (b ∷ digits) more is =
    ⊎_elim
    (λ w. let alone : b ∷ digits ≡ 48 ∷ [] = ap (λ x. x ∷ digits) w.1 ∙ ap (λ xs. 48 ∷ xs) (is.2 w.1) in
    subst (λ xs. Told decimal_at SpellsDecimal xs more) (sym alone) (0, [], more, refl, ((refl, tt, λ z. refl), refl), refl))
    (λ w. let r = run_of (λ d. is_digit d 10) more in
    let ds = digits ++ r.0 in
    let pass = pass_append (λ d. is_digit d 10) digits r.0 is.1 r.3 in
    let small : digit_value b < 10 = ltb-true (digit_value b) 10 is.0 in
    let count : 1 + length ds ≡ length (b ∷ ds) = omega arith in (
      digits_value 10 (b ∷ ds),
      r.0,
      r.1,
      r.2,
      ((is.0, pass, λ z. absurd (w.1 z)), refl),
      rw (is.0, w.0)
          (ap (digits_at 10 (digit_value b) 1) (parts digits r.0 r.1 more r.2)
          ∙ digits_are_read 10 (digit_value b) 1 ds r.1 pass r.4 (omega (arith, small)) (omega arith)
          ∙ ap (λ v. fitting v (1 + length ds)) (sym (first_value b ds)) ∙ ap (fitting (digits_value 10 (b ∷ ds))) count),
    ))
    (eqb_tells b 48)

-- a number of any size, decimal or hexadecimal
abbrev pub SpellsAny : ℕ → List ℕ → Type 0
SpellsAny n text = SpellsDecimal n text ⊎ SpellsHexadecimal n text

hexadecimal_told : (d : ℕ) (digits more : List ℕ) → is_digit d 16 ≡ true → AllPass (λ d. is_digit d 16) digits →
    Told numeral_at SpellsAny (48 ∷ 120 ∷ d ∷ digits) more
hexadecimal_told d digits more first all =
    let r = run_of (λ d. is_digit d 16) more in
    let ds = digits ++ r.0 in
    let pass = pass_append (λ d. is_digit d 16) digits r.0 all r.3 in
    let count : 2 + length (d ∷ ds) ≡ length (48 ∷ 120 ∷ d ∷ ds) = omega arith in (
      digits_value 16 (d ∷ ds),
      r.0,
      r.1,
      r.2,
      inr ((d, ds, refl, first, pass), (d ∷ ds, refl, refl)),
      ap (λ b. if b then digits_at 16 0 2 (d ∷ digits ++ more) else decimal_at (48 ∷ 120 ∷ d ∷ digits ++ more)) first
          ∙ ap (λ xs. digits_at 16 0 2 (d ∷ xs)) (parts digits r.0 r.1 more r.2)
          ∙ digits_are_read 16 0 2 (d ∷ ds) r.1 (first, pass) r.4 (omega arith) (omega arith)
          ∙ ap (fitting (digits_value 16 (d ∷ ds))) count,
    )

-- a decimal number before which `0x` is looked for
decimal_number_told : (text more : List ℕ) → IsDecimal text → Told numeral_at SpellsAny text more
decimal_number_told text more is = by (behind (codes "0x") (text ++ more)) refl
  where
    plain : numeral_at (text ++ more) ≡ decimal_at (text ++ more) → Told numeral_at SpellsAny text more
    plain e = let t = decimal_told text more is in (t.0, t.1, t.2, t.3, inl t.4, e ∙ t.5)

    -- a text that begins as `0x` is 0
    zero_alone : (text : List ℕ) (rest : List ℕ) → IsDecimal text → text ++ more ≡ 48 ∷ rest →
        (text ≡ 48 ∷ []) × (more ≡ rest)
    zero_alone [] rest is e = absurd is
    zero_alone (b ∷ digits) rest is e =
        let zero' = heads b 48 (digits ++ more) rest e in
        let none = is.2 zero' in
        (ap (λ x. x ∷ digits) zero' ∙ ap (λ xs. 48 ∷ xs) none, sym (ap (λ xs. xs ++ more) none) ∙ tails b 48 (digits ++ more) rest e)

    by : (o : Option (List ℕ)) → behind (codes "0x") (text ++ more) ≡ o → Told numeral_at SpellsAny text more
    by None e = plain (ap (λ o. numeral_behind o (text ++ more)) e)
    by (Some []) e = plain (ap (λ o. numeral_behind o (text ++ more)) e)
    by (Some (d ∷ rest)) e =
        ⊎_elim
        (λ digit. let z = zero_alone text (120 ∷ d ∷ rest) is (behind_parts (codes "0x") (text ++ more) (d ∷ rest) e) in
        let t = hexadecimal_told d [] rest digit tt in
        subst (λ ts. Told numeral_at SpellsAny ts more) (sym z.0)
        (subst (λ ms. Told numeral_at SpellsAny (48 ∷ []) ms) (sym z.1)
        (t.0, 120 ∷ d ∷ t.1, t.2, ap (λ xs. 120 ∷ d ∷ xs) t.3, t.4, t.5)))
        (λ other. plain (ap (λ o. numeral_behind o (text ++ more)) e ∙ rw other refl))
        (cases_Bool (is_digit d 16))

-- where a number stands, all that stands there is read
pub number_told : (m : ℕ) (text more : List ℕ) → SpellsAny m text → Told numeral_at SpellsAny text more
number_told m text more (inl is) = decimal_number_told text more is.0
number_told m text more (inr ((d, digits, e, first, pass), value)) =
    subst (λ xs. Told numeral_at SpellsAny xs more) (sym e) (hexadecimal_told d digits more first pass)

-- a text is not both decimal and hexadecimal
not_both : {A : Type 0} (text : List ℕ) → IsDecimal text → IsHexadecimal text → A
not_both [] decimal hexadecimal = absurd decimal
not_both (b ∷ rest) decimal (d, digits, e, first, pass) =
    let none = decimal.2 (heads b 48 rest (120 ∷ d ∷ digits) e) in
    absurd (omega (arith, ap length e, ap length none))

-- a text spells one number
pub same_number : (n m : ℕ) (text : List ℕ) → SpellsAny n text → SpellsAny m text → n ≡ m
same_number n m text (inl a) (inl b) = a.1 ∙ sym b.1
same_number n m text (inl a) (inr b) = not_both text a.0 b.0
same_number n m text (inr a) (inl b) = not_both text b.0 a.0
same_number n m text (inr (h, (ds, e, v))) (inr (k, (es, f, w))) =
    v ∙ ap (digits_value 16) (tails 120 120 ds es (tails 48 48 (120 ∷ ds) (120 ∷ es) (sym e ∙ f))) ∙ sym w

-- a number has no bracket
no_bracket : (n : ℕ) (xs ys : List ℕ) → SpellsAny n (xs ++ 41 ∷ ys) → ⊥
no_bracket n xs ys (inl is) = decimal xs is.0
  where
    decimal : (xs : List ℕ) → IsDecimal (xs ++ 41 ∷ ys) → ⊥
    decimal [] is = true_is_not_false (is_digit 41 10) is.0 refl
    decimal (x ∷ xs) is = true_is_not_false (is_digit 41 10) (pass_inside (λ d. is_digit d 10) xs ys 41 is.1) refl
no_bracket n xs ys (inr ((d, digits, e, first, pass), value)) =
    let no : ℕ → Bool = λ b. not (b == 41) in
    let each = all_pass digits pass in
    let all : AllPass no (48 ∷ 120 ∷ d ∷ digits) = (refl, (refl, (ap not (differs (λ d. is_digit d 16) d 41 first refl), each))) in
    true_is_not_false (no 41) (pass_inside no xs ys 41 (subst (AllPass no) (sym e) all)) refl
  where
    all_pass : (ds : List ℕ) → AllPass (λ d. is_digit d 16) ds → AllPass (λ b. not (b == 41)) ds
    all_pass [] p = tt
    all_pass (d ∷ ds) p = (ap not (differs (λ d. is_digit d 16) d 41 p.0 refl), all_pass ds p.1)

-- a number is read where a bracket stands behind it
pub number_before_bracket_is_read : (n : ℕ) (text more : List ℕ) → SpellsNumber n text →
    numeral_at (text ++ 41 ∷ more) ≡ Some (spelled n (length text))
number_before_bracket_is_read n text more (small, number) =
    let t = number_told n text (41 ∷ more) number in by t.0 t.1 t.2 t.3 t.4 t.5
  where
    by : (m : ℕ) (extra rest : List ℕ) → 41 ∷ more ≡ extra ++ rest → SpellsAny m (text ++ extra) →
        numeral_at (text ++ 41 ∷ more) ≡ fitting m (length (text ++ extra)) →
        numeral_at (text ++ 41 ∷ more) ≡ Some (spelled n (length text))
    by m [] rest e whole is =
        let all = append-nil text in
        let same = same_number n m text number (subst (SpellsAny m) all whole) in
        is ∙ ap (λ xs. fitting m (length xs)) all ∙ ap (λ v. fitting v (length text)) (sym same) ∙ ap (λ b. if b then Some (spelled n (length text)) else None) (lt-ltb n (2 ^ 64) small)
    by m (c ∷ extra) rest e whole is =
        let P : ℕ → Type 0 = λ x. SpellsAny m (text ++ x ∷ extra) in
        absurd (no_bracket m text extra (subst P (sym (heads 41 c more (extra ++ rest) e)) whole))

-- a number at the front of some bytes, which spells what was read
abbrev NumberSpelled : List ℕ → Prefix ℕ → Type 0
NumberSpelled bytes m =
    (text : List ℕ) × (more : List ℕ) × (bytes ≡ text ++ more) × (length text ≡ m.length) × SpellsNumber m.value text

-- where a number is read, a digit stands in front
pub number_begins : (b : ℕ) (bytes : List ℕ) (m : Prefix ℕ) → numeral_at (b ∷ bytes) ≡ Some m → is_digit b 10 ≡ true
number_begins b bytes m is =
    ⊎_elim
    (λ w. subst (λ x. is_digit x 10 ≡ true) (sym w.1) refl)
    (λ w. let decimal : decimal_at (b ∷ bytes) ≡ Some m = rw w.0 at is in
    ⊎_elim (λ digit. digit) (λ other. nothing m (rw other at decimal)) (cases_Bool (is_digit b 10)))
    (eqb_tells b 48)

-- a number begins with a digit
pub first_digit : (n : ℕ) (text more : List ℕ) → SpellsNumber n text →
    first_passes (λ d. is_digit d 10) (text ++ 41 ∷ more) ≡ true
first_digit n text more (small, inl is) = decimal text is.0
  where
    decimal : (text : List ℕ) → IsDecimal text → first_passes (λ d. is_digit d 10) (text ++ 41 ∷ more) ≡ true
    decimal [] is = absurd is
    decimal (b ∷ digits) is = is.0
first_digit n text more (small, inr is) =
    subst (λ xs. first_passes (λ d. is_digit d 10) (xs ++ 41 ∷ more) ≡ true) (sym is.0.2) refl

-- one digit is a decimal number
pub digit_is_decimal : (b : ℕ) → is_digit b 10 ≡ true → SpellsDecimal (digits_value 10 (b ∷ [])) (b ∷ [])
digit_is_decimal b digit = ((digit, tt, λ z. refl), refl)

-- the number that is read is spelled at the front
pub number_is_spelled : (bytes : List ℕ) (m : Prefix ℕ) → numeral_at bytes ≡ Some m → NumberSpelled bytes m
number_is_spelled [] m is = nothing m is
number_is_spelled (b ∷ bytes) m is =
    let t = number_told _ (b ∷ []) bytes (inl (digit_is_decimal b (number_begins b bytes m is))) in
    ⊎_elim
    (λ w. let same : spelled t.0 (length (b ∷ t.1)) ≡ m = same_some (spelled t.0 (length (b ∷ t.1))) m (sym w.1 ∙ sym t.5 ∙ is) in (
      b ∷ t.1,
      t.2,
      ap (λ xs. b ∷ xs) t.3,
      ap (λ (n : Prefix ℕ). n.length) same,
      subst (λ v. SpellsNumber v (b ∷ t.1)) (ap (λ (n : Prefix ℕ). n.value) same) (w.0, t.4),
    ))
    (λ w. nothing m (sym w.1 ∙ sym t.5 ∙ is))
    (fitted t.0 (length (b ∷ t.1)))
