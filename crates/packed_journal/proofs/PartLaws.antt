-- Bytes, flags and digests are read as they were written, and written as they were read.
use Rattle.std.proofs.Common.{◌≡◌, ℕ, zero, suc, ◌+◌, ◌*◌, ◌/◌, ◌%◌, ◌<◌, Bool, true, false, List, [], ◌∷◌, ◌++◌, length, take, drop, Some, None, refl, sym, ap, ◌∙◌, arith, length-append}
use Rattle.std.specs.Prelude.{◌^◌, nat_lt, nat_le, ◌==◌, if◌then◌else◌}
use Rattle.std.proofs.lemmas.Bool.Decides.{nat_tests}
use Rattle.std.proofs.lemmas.List.{take-append-drop, take_at, drop_at}
use Rattle.packed_journal.specs.Words.{Flags, Digest, packed, fits, bits_of, split_at, flags_in, flags_at, digest_at}
use Rattle.packed_journal.proofs.Steps.{no_bits, bits_step, no_flags, flags_step}
use Rattle.packed_journal.proofs.Tells.{Tells, told, tells_if, tells_where}
use Rattle.packed_journal.proofs.NumberLaws.{is_less, less_is, is_same, same_is}

-- ---- so many bytes

pub split_read : (bytes rest : List ℕ) (n : ℕ) → length bytes ≡ n → split_at n (bytes ++ rest) ≡ Some (bytes, rest)
split_read bytes rest n e =
    let both : length (bytes ++ rest) ≡ length bytes + length rest = length-append bytes rest in
    let few : nat_le n (length (bytes ++ rest)) ≡ true = grind (arith, nat_tests) in
    rw (few, take_at bytes rest n e, drop_at bytes rest n e) refl

pub split_tells : (n : ℕ) (bytes : List ℕ) → Tells (λ word. word) bytes (split_at n bytes)
split_tells n bytes = tells_if (λ word. word) bytes (nat_le n (length bytes)) (Some (take n bytes, drop n bytes)) None (λ h. sym (take-append-drop n bytes)) (λ h. tt)

-- ---- flags

flags_back : (more : ℕ) (flags : List Bool) → length flags ≡ more → (flags_in more (bits_of flags) ≡ flags) × (bits_of flags < 2 ^ more)
flags_back zero [] e = (no_flags (bits_of []), rw no_bits (omega arith))
flags_back zero (set ∷ flags) e = absurd (omega (arith, e))
flags_back (suc more) [] e = absurd (omega (arith, e))
flags_back (suc more) (set ∷ flags) e = by_flag set (flags_back more flags (omega (arith, e)))
  where
    by_flag : (set : Bool) → (flags_in more (bits_of flags) ≡ flags) × (bits_of flags < 2 ^ more) → (flags_in (suc more) (bits_of (set ∷ flags)) ≡ set ∷ flags) × (bits_of (set ∷ flags) < 2 ^ suc more)
    by_flag true back =
        let is : bits_of (true ∷ flags) ≡ 1 + 2 * bits_of flags = bits_step true flags in
        let bit : ((1 + 2 * bits_of flags) % 2 == 1) ≡ true = same_is _ _ (omega arith) in
        let above : (1 + 2 * bits_of flags) / 2 ≡ bits_of flags = omega arith in
        (ap (flags_in (suc more)) is ∙ flags_step more (1 + 2 * bits_of flags) ∙ rw (bit, above, back.0) refl, rw is (omega (arith, back.1)))
    by_flag false back =
        let is : bits_of (false ∷ flags) ≡ 0 + 2 * bits_of flags = bits_step false flags in
        let bit : ((0 + 2 * bits_of flags) % 2 == 1) ≡ false = grind (arith, nat_tests) in
        let above : (0 + 2 * bits_of flags) / 2 ≡ bits_of flags = omega arith in
        (ap (flags_in (suc more)) is ∙ flags_step more (0 + 2 * bits_of flags) ∙ rw (bit, above, back.0) refl, rw is (omega (arith, back.1)))

pub flags_read : (flags : List Bool) (rest : List ℕ) → fits (Flags flags) ≡ true → flags_at (packed (Flags flags) ++ rest) ≡ Some (flags, rest)
flags_read flags rest f =
    let back : (flags_in 5 (bits_of flags) ≡ flags) × (bits_of flags < 2 ^ 5) = flags_back 5 flags (is_same (length flags) 5 f) in
    let few : nat_lt (bits_of flags) 32 ≡ true = less_is _ _ (omega (arith, back.1)) in
    rw (few, back.0) refl

bits_back : (more bits : ℕ) → bits < 2 ^ more → bits_of (flags_in more bits) ≡ bits
bits_back zero bits h = rw (no_flags bits, no_bits) (omega (arith, h))
bits_back (suc more) bits h =
    let above : bits_of (flags_in more (bits / 2)) ≡ bits / 2 = bits_back more (bits / 2) (omega (arith, h)) in
    rw (flags_step more bits) (bits_step (bits % 2 == 1) (flags_in more (bits / 2)) ∙ rw above (by_bit (bits % 2 == 1) refl))
  where
    by_bit : (set : Bool) → (bits % 2 == 1) ≡ set → (if set then 1 else 0) + 2 * (bits / 2) ≡ bits
    by_bit true e = omega (arith, is_same _ _ e)
    by_bit false e =
        let none : bits % 2 ≡ 0 = grind (arith, nat_tests) in
        omega arith

pub flags_tells : (bytes : List ℕ) → Tells (λ flags. packed (Flags flags)) bytes (flags_at bytes)
flags_tells [] = tt
flags_tells (bits ∷ bytes) =
    tells_where (λ flags. packed (Flags flags)) (bits ∷ bytes) (nat_lt bits 32) (flags_in 5 bits) bytes
    (λ h. ap (λ k. k ∷ bytes) (sym (bits_back 5 bits (is_less bits 32 h))))

-- ---- digests

pub digest_read : (bytes rest : List ℕ) → fits (Digest bytes) ≡ true → digest_at (packed (Digest bytes) ++ rest) ≡ Some (bytes, rest)
digest_read bytes rest f = split_read bytes rest 32 (is_same (length bytes) 32 f)

pub digest_told : (bytes read rest : List ℕ) → digest_at bytes ≡ Some (read, rest) → bytes ≡ read ++ rest
digest_told bytes read rest e = told (λ word. word) bytes (digest_at bytes) read rest (split_tells 32 bytes) e
