-- Which rights are in the sets that the operations of a flags type make.
use Rattle.std.proofs.Common.{◌≡◌, ℕ, zero, suc, ◌*◌, ◌<◌, max, Bool, true, false, not, ◌&&◌, ◌||◌, ◌==◌, refl, sym, ap, ◌∙◌, arith, true≢false, bit_or}
use Rattle.std.specs.Int.{bit_at}
use Rattle.std.proofs.lemmas.Bool.Decides.{nat_tests}
use Rattle.std.proofs.lemmas.Nat.Bits.{and_pow, bit_at_or, bit_at-lt}
use Rattle.policy.specs.declared.rights.Right.{Right}
use Rattle.policy.specs.declared.rights.Right.TheVariants.{Use, Read, Write, Wait, Change, Launch}
use Rattle.policy.specs.declared.rights.Rights.{Rights}
use Rattle.policy.specs.Rights.{has, rights_that, by_right}

-- the place of a right's bit
abbrev pub place_of : Right → ℕ
place_of Use = 0
place_of Read = 1
place_of Write = 2
place_of Wait = 3
place_of Change = 4
place_of Launch = 5

scaled : (b m : ℕ) → b < 2 → 0 < m → (b * m == m) ≡ (b == 1)
scaled zero m h p = grind (arith, nat_tests)
scaled (suc zero) m h p = grind (arith, nat_tests)
scaled (suc (suc b)) m h p = absurd (omega arith)

one_of_max : (a b : ℕ) → a < 2 → b < 2 → (max a b == 1) ≡ ((a == 1) || (b == 1))
one_of_max zero zero h k = refl
one_of_max zero (suc zero) h k = refl
one_of_max zero (suc (suc b)) h k = absurd (omega arith)
one_of_max (suc zero) zero h k = refl
one_of_max (suc zero) (suc zero) h k = refl
one_of_max (suc zero) (suc (suc b)) h k = absurd (omega arith)
one_of_max (suc (suc a)) b h k = absurd (omega arith)

-- a right is in a set where its bit is 1
pub has-bit : (n : ℕ) (right : Right) → has (record { 0 = n }) right ≡ (bit_at n (place_of right) == 1)
has-bit n Use = rw (and_pow n 0) (scaled (bit_at n 0) 1 (bit_at-lt n 0) (omega arith))
has-bit n Read = rw (and_pow n 1) (scaled (bit_at n 1) 2 (bit_at-lt n 1) (omega arith))
has-bit n Write = rw (and_pow n 2) (scaled (bit_at n 2) 4 (bit_at-lt n 2) (omega arith))
has-bit n Wait = rw (and_pow n 3) (scaled (bit_at n 3) 8 (bit_at-lt n 3) (omega arith))
has-bit n Change = rw (and_pow n 4) (scaled (bit_at n 4) 16 (bit_at-lt n 4) (omega arith))
has-bit n Launch = rw (and_pow n 5) (scaled (bit_at n 5) 32 (bit_at-lt n 5) (omega arith))

-- a right is in the union of two sets where it is in one of them
pub has-or : (a b : Rights) (right : Right) → has (record { 0 = bit_or a.0 b.0 }) right ≡ (has a right || has b right)
has-or a b right =
    has-bit (bit_or a.0 b.0) right ∙ ap (λ n. n == 1) (bit_at_or a.0 b.0 (place_of right))
    ∙ one_of_max (bit_at a.0 (place_of right)) (bit_at b.0 (place_of right)) (bit_at-lt a.0 (place_of right)) (bit_at-lt b.0 (place_of right))
    ∙ sym (ap (λ x. x || has b right) (has-bit a.0 right) ∙ ap (λ x. (bit_at a.0 (place_of right) == 1) || x) (has-bit b.0 right))

pub has-none : (right : Right) → has (record { 0 = 0 }) right ≡ false
has-none Use = refl
has-none Read = refl
has-none Write = refl
has-none Wait = refl
has-none Change = refl
has-none Launch = refl

-- ---- the set of the rights that pass a test

abbrev same : Bool → Bool → Bool
same true b = b
same false b = not b

same_is : (a b : Bool) → same a b ≡ true → a ≡ b
same_is true b h = sym h
same_is false true h = h
same_is false false h = refl

abbrev either_way : (Bool → Bool) → Bool
either_way p = p true && p false

halves : (a b : Bool) → (a && b) ≡ true → (a ≡ true) × (b ≡ true)
halves true b h = (refl, h)
halves false b h = absurd (true≢false (sym h))

in_each : (p : Bool → Bool) → either_way p ≡ true → (b : Bool) → p b ≡ true
in_each p h true = (halves (p true) (p false) h).0
in_each p h false = (halves (p true) (p false) h).1

abbrev agrees : Right → Bool → Bool → Bool → Bool → Bool → Bool → Bool
agrees right a b c d e f = same (has (rights_that (by_right a b c d e f)) right) (by_right a b c d e f right)

abbrev agrees_each : Right → Bool
agrees_each right = either_way (λ a. either_way (λ b. either_way (λ c. either_way (λ d. either_way (λ e. either_way (λ f. agrees right a b c d e f))))))

agreed : (right : Right) → agrees_each right ≡ true
agreed Use = refl
agreed Read = refl
agreed Write = refl
agreed Wait = refl
agreed Change = refl
agreed Launch = refl

has-by_right : (a b c d e f : Bool) (right : Right) → has (rights_that (by_right a b c d e f)) right ≡ by_right a b c d e f right
has-by_right a b c d e f right =
    same_is (has (rights_that (by_right a b c d e f)) right) (by_right a b c d e f right)
    (in_each (λ f. agrees right a b c d e f)
    (in_each (λ e. either_way (λ f. agrees right a b c d e f))
    (in_each (λ d. either_way (λ e. either_way (λ f. agrees right a b c d e f)))
    (in_each (λ c. either_way (λ d. either_way (λ e. either_way (λ f. agrees right a b c d e f))))
    (in_each (λ b. either_way (λ c. either_way (λ d. either_way (λ e. either_way (λ f. agrees right a b c d e f)))))
    (in_each (λ a. either_way (λ b. either_way (λ c. either_way (λ d. either_way (λ e. either_way (λ f. agrees right a b c d e f)))))) (agreed right) a) b) c) d) e) f)

by_six : (test : Right → Bool) (right : Right) → by_right (test Use) (test Read) (test Write) (test Wait) (test Change) (test Launch) right ≡ test right
by_six test Use = refl
by_six test Read = refl
by_six test Write = refl
by_six test Wait = refl
by_six test Change = refl
by_six test Launch = refl

-- the set of the rights that pass a test has just these
pub has-rights_that : (test : Right → Bool) (right : Right) → has (rights_that test) right ≡ test right
has-rights_that test right =
    has-by_right (test Use) (test Read) (test Write) (test Wait) (test Change) (test Launch) right ∙ by_six test right
