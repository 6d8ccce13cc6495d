-- Numbers are read as they were written, and written as they were read.
use Rattle.std.proofs.Common.{◌≡◌, ℕ, zero, suc, ◌+◌, ◌-◌, ◌*◌, ◌/◌, ◌%◌, ◌<◌, ◌≤◌, Bool, true, false, List, [], ◌∷◌, ◌++◌, Some, refl, sym, ap, ◌∙◌, arith}
use Rattle.std.specs.Prelude.{◌^◌, ◌≢◌, nat_lt, ◌==◌, ◌&&◌, ℤ, pos, negsuc}
use Rattle.std.proofs.lemmas.Bool.Decides.{nat_tests}
use Rattle.packed_journal.specs.Words.{Number, Signed, where_some, number_within, packed_number, zigzag, is_signed, fits, with_low, number_in, within, number_at, signed_of, signed_at}
use Rattle.packed_journal.proofs.Steps.{within_last, within_more, in_none, in_end, in_last, in_more}
use Rattle.packed_journal.proofs.Tells.{Tells, tells_then, tells_where}

-- ---- tests

pub both_first : (a b : Bool) → (a && b) ≡ true → a ≡ true
both_first true b h = refl
both_first false b h = cc

pub both_second : (a b : Bool) → (a && b) ≡ true → b ≡ true
both_second true b h = h
both_second false b h = cc

pub is_less : (a b : ℕ) → nat_lt a b ≡ true → a < b
is_less a b h = grind (arith, nat_tests)

pub less_is : (a b : ℕ) → a < b → nat_lt a b ≡ true
less_is a b h = grind (arith, nat_tests)

pub not_less : (a b : ℕ) → nat_lt a b ≡ false → b ≤ a
not_less a b h = grind (arith, nat_tests)

pub not_less_is : (a b : ℕ) → b ≤ a → nat_lt a b ≡ false
not_less_is a b h = grind (arith, nat_tests)

pub is_same : (a b : ℕ) → (a == b) ≡ true → a ≡ b
is_same a b h = grind (arith, nat_tests)

pub same_is : (a b : ℕ) → a ≡ b → (a == b) ≡ true
same_is a b h = grind (arith, nat_tests)

pub apart_is : (a b : ℕ) → a ≢ b → (a == b) ≡ false
apart_is a b h = grind (arith, nat_tests)

-- ---- numbers

-- how many numbers have a form of at most so many bytes
abbrev room : ℕ → ℕ
room zero = 1
room (suc more) = 128 * room more

low_and_high : (n : ℕ) → 128 ≤ n → n < 2 ^ 64 → with_low (128 + n % 128) (n / 128) ≡ Some n
low_and_high n large small =
    let low : nat_lt (128 + n % 128) 256 ≡ true = less_is _ _ (omega arith) in
    let some : nat_lt 0 (n / 128) ≡ true = less_is _ _ (omega arith) in
    let high : nat_lt (n / 128) (2 ^ 57) ≡ true = less_is _ _ (omega arith) in
    let whole : 128 + n % 128 - 128 + 128 * (n / 128) ≡ n = omega arith in
    rw (low, some, high, whole) refl

pub number_in_read : (more n : ℕ) (rest : List ℕ) → n < 128 * room more → n < 2 ^ 64 → number_in (suc more) (number_within (suc more) n ++ rest) ≡ Some (n, rest)
number_in_read more n rest few small = by_size more n rest few small (nat_lt n 128) refl
  where
    by_size : (more n : ℕ) (rest : List ℕ) → n < 128 * room more → n < 2 ^ 64 → (low : Bool) → nat_lt n 128 ≡ low →
        number_in (suc more) (number_within (suc more) n ++ rest) ≡ Some (n, rest)
    by_size more n rest few small true h = ap (λ front. number_in (suc more) (front ++ rest)) (within_last more n h) ∙ in_last more n rest h
    by_size zero n rest few small false h = absurd (omega (arith, not_less n 128 h))
    by_size (suc more) n rest few small false h =
        let large : 128 ≤ n = not_less n 128 h in
        let high : nat_lt (128 + n % 128) 128 ≡ false = not_less_is _ _ (omega arith) in
        let behind : number_in (suc more) (number_within (suc more) (n / 128) ++ rest) ≡ Some (n / 128, rest) =
        by_size more (n / 128) rest (omega arith) (omega arith) (nat_lt (n / 128) 128) refl in
        ap (λ front. number_in (suc (suc more)) (front ++ rest)) (within_more (suc more) n h)
        ∙ in_more (suc more) (128 + n % 128) (number_within (suc more) (n / 128) ++ rest) high
        ∙ rw (behind, low_and_high n large small) refl

pub number_read : (bits n : ℕ) (rest : List ℕ) → fits (Number bits n) ≡ true → number_at bits (packed_number n ++ rest) ≡ Some (n, rest)
number_read bits n rest f =
    let in_bits : nat_lt n (2 ^ bits) ≡ true = both_first (nat_lt n (2 ^ bits)) (nat_lt n (2 ^ 64)) f in
    let small : n < 2 ^ 64 = is_less n (2 ^ 64) (both_second (nat_lt n (2 ^ bits)) (nat_lt n (2 ^ 64)) f) in
    rw (number_in_read 9 n rest (omega arith) small, in_bits) refl

low_and_high_tell : (more low high : ℕ) (rest : List ℕ) → nat_lt low 128 ≡ false → Tells (number_within (suc more)) (low ∷ number_within more high ++ rest) (where_some (with_low low high) rest)
low_and_high_tell more low high rest h =
    tells_where (number_within (suc more)) (low ∷ number_within more high ++ rest) (nat_lt low 256 && (nat_lt 0 high && nat_lt high (2 ^ 57))) (low - 128 + 128 * high) rest so
  where
    so : (nat_lt low 256 && (nat_lt 0 high && nat_lt high (2 ^ 57))) ≡ true → low ∷ number_within more high ++ rest ≡ number_within (suc more) (low - 128 + 128 * high) ++ rest
    so g =
        let few : low < 256 = is_less low 256 (both_first (nat_lt low 256) (nat_lt 0 high && nat_lt high (2 ^ 57)) g) in
        let some : 0 < high = is_less 0 high (both_first (nat_lt 0 high) (nat_lt high (2 ^ 57)) (both_second (nat_lt low 256) (nat_lt 0 high && nat_lt high (2 ^ 57)) g)) in
        let least : 128 ≤ low = not_less low 128 h in
        let large : nat_lt (low - 128 + 128 * high) 128 ≡ false = not_less_is _ _ (omega arith) in
        let low_is : 128 + (low - 128 + 128 * high) % 128 ≡ low = omega arith in
        let high_is : (low - 128 + 128 * high) / 128 ≡ high = omega arith in
        rw (within_more more (low - 128 + 128 * high) large, low_is, high_is) refl

pub number_in_tells : (more : ℕ) (bytes : List ℕ) → Tells (number_within more) bytes (number_in more bytes)
number_in_tells zero bytes = rw (in_none bytes) tt
number_in_tells (suc more) [] = rw (in_end more) tt
number_in_tells (suc more) (byte ∷ bytes) = by_size (nat_lt byte 128) refl (number_in_tells more bytes)
  where
    by_size : (low : Bool) → nat_lt byte 128 ≡ low → Tells (number_within more) bytes (number_in more bytes) → Tells (number_within (suc more)) (byte ∷ bytes) (number_in (suc more) (byte ∷ bytes))
    by_size true h t = rw (in_last more byte bytes h, within_last more byte h) refl
    by_size false h t =
        rw (in_more more byte bytes h)
        (tells_then (number_within more) (number_within (suc more)) (byte ∷ []) bytes (number_in more bytes) (λ high rest. where_some (with_low byte high) rest) t
        (λ high rest. low_and_high_tell more byte high rest h))

pub number_tells : (bits : ℕ) (bytes : List ℕ) → Tells packed_number bytes (number_at bits bytes)
number_tells bits bytes =
    tells_then packed_number packed_number [] bytes (number_in 10 bytes) (λ n rest. where_some (within bits n) rest) (number_in_tells 10 bytes)
    (λ n rest. tells_where packed_number (packed_number n ++ rest) (nat_lt n (2 ^ bits)) n rest (λ h. refl))

-- ---- signed numbers

pub signed_back : (z : ℤ) → signed_of (zigzag z) ≡ z
signed_back (pos n) =
    let even : (2 * n % 2 == 0) ≡ true = same_is _ _ (omega arith) in
    let half : 2 * n / 2 ≡ n = omega arith in
    rw (even, half) refl
signed_back (negsuc n) =
    let odd : ((2 * n + 1) % 2 == 0) ≡ false = grind (arith, nat_tests) in
    let half : (2 * n + 1) / 2 ≡ n = omega arith in
    rw (odd, half) refl

pub zigzag_back : (n : ℕ) → zigzag (signed_of n) ≡ n
zigzag_back n = by_rest (n % 2 == 0) refl
  where
    by_rest : (even : Bool) → (n % 2 == 0) ≡ even → zigzag (signed_of n) ≡ n
    by_rest true h =
        let none : n % 2 ≡ 0 = is_same _ _ h in
        let whole : 2 * (n / 2) ≡ n = omega arith in
        rw h whole
    by_rest false h =
        let one : n % 2 ≡ 1 = grind (arith, nat_tests) in
        let whole : 2 * (n / 2) + 1 ≡ n = omega arith in
        rw h whole

zigzag_fits : (z : ℤ) → is_signed z ≡ true → zigzag z < 2 ^ 64
zigzag_fits (pos n) f = omega (arith, is_less n (2 ^ 63) f)
zigzag_fits (negsuc n) f = omega (arith, is_less n (2 ^ 63) f)

pub signed_read : (z : ℤ) (rest : List ℕ) → fits (Signed z) ≡ true → signed_at (packed_number (zigzag z) ++ rest) ≡ Some (z, rest)
signed_read z rest f =
    let small : nat_lt (zigzag z) (2 ^ 64) ≡ true = less_is _ _ (zigzag_fits z f) in
    let read : number_at 64 (packed_number (zigzag z) ++ rest) ≡ Some (zigzag z, rest) = number_read 64 (zigzag z) rest (rw small refl) in
    rw (read, signed_back z) refl

pub signed_tells : (bytes : List ℕ) → Tells (λ z. packed_number (zigzag z)) bytes (signed_at bytes)
signed_tells bytes =
    tells_then packed_number (λ z. packed_number (zigzag z)) [] bytes (number_at 64 bytes) (λ n rest. Some (signed_of n, rest)) (number_tells 64 bytes)
    (λ n rest. ap (λ k. packed_number k ++ rest) (sym (zigzag_back n)))
