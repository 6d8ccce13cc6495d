-- Accesses of a few bytes at once (own).
use Rattle.std.specs.Prelude.{◌≡◌, ℕ, Bool, if◌then◌else◌, List, length, Option}
use Rattle.std.specs.Option.{unwrap_or}
use Rattle.byteorder.specs.Endian.{little_number}
use Rattle.executor.specs.Written.{laid, seen}

-- the number that an access sees, the lowest byte first: at each address the written byte, else the one below
abbrev pub seen_number : (ℕ → Option ℕ) → ℕ → List ℕ → ℕ
seen_number at address below = little_number (length below) (seen at address below)

-- a number that was read, or the one in the bytes below
abbrev pub or_below : Option ℕ → List ℕ → ℕ
or_below read below = unwrap_or read (little_number (length below) below)

-- that a number is what an access of so many bytes sees, whatever lies below
abbrev pub IsWhole : (ℕ → Option ℕ) → ℕ → ℕ → ℕ → Type 0
IsWhole at address size number = (below : List ℕ) → length below ≡ size → number ≡ seen_number at address below

-- a map with bytes laid over it from an address on, or the map as it was, where they weren't laid
abbrev pub laid_if : Bool → (ℕ → Option ℕ) → ℕ → List ℕ → ℕ → Option ℕ
laid_if done at address bytes x = if done then laid at address bytes x else at x
