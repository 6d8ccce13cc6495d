-- What the first byte tells of what stands at the front.
use Rattle.std.proofs.Common.{◌≡◌, ℕ, ◌≤◌, List, [], ◌∷◌, length, None, false, refl, arith}
use Rattle.std.specs.Prelude.{◌==◌, slice_index, if◌then◌else◌}
use Rattle.std.proofs.lemmas.Bool.Decides.{nat_tests}
use Rattle.hsail_reader.specs.Bytes.{behind}
use Rattle.hsail_reader.specs.Lexemes.{modifier_length, piece_length}
use Rattle.hsail_reader.specs.Spelling.{is_name_byte}

-- a text that begins with another byte has not this front
pub other_begin : (front text : List ℕ) → 1 ≤ length front → 1 ≤ length text → (slice_index text 0 ≡ slice_index front 0 → ⊥) → behind front text ≡ None
other_begin [] text some begins other = absurd (omega (arith, some))
other_begin (f ∷ front) [] some begins other = absurd (omega (arith, begins))
other_begin (f ∷ front) (b ∷ text) some begins other = let differs : (b == f) ≡ false = grind (arith, nat_tests, other) in rw differs refl

-- no modifier begins with another byte than a bar
no_bar : (b : ℕ) (bytes : List ℕ) → (b == 95) ≡ false → modifier_length (b ∷ bytes) ≡ 0
no_bar b bytes other = rw other refl

-- so a piece that begins with one is a byte of a name, or none
pub plain_byte : (bytes : List ℕ) → 1 ≤ length bytes → (slice_index bytes 0 ≡ 95 → ⊥) → piece_length bytes ≡ (if is_name_byte (slice_index bytes 0) then 1 else 0)
plain_byte [] some other = absurd (omega (arith, some))
plain_byte (b ∷ bytes) some other = let differs : (b == 95) ≡ false = grind (arith, nat_tests, other) in rw (no_bar b bytes differs) refl
