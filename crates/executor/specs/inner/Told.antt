-- How the code gathers runs, a part of the map after another (own).
use Rattle.std.specs.Prelude.{◌≡◌, ℕ, ◌+◌, ◌<◌, ◌≤◌, ◌==◌, nat_lt, ◌⊎◌, if◌then◌else◌, Bool, false, List, [], ◌∷◌, ◌++◌, length, Option, None}
use Rattle.std.specs.Int.{bit_at}
use Rattle.executor.specs.declared.written_range.WrittenRange.{WrittenRange}
use Rattle.executor.specs.Written.{end_of, all_laid}

-- whether an address adjoins the last of some runs
abbrev pub adjoins_last : List WrittenRange → ℕ → Bool
adjoins_last [] address = false
adjoins_last (run ∷ []) address = end_of run == address
adjoins_last (run ∷ (next ∷ rest)) address = adjoins_last (next ∷ rest) address

-- runs with bytes behind all of them: in the last run where they adjoin it, else as a run of their own
abbrev pub noted_all : List WrittenRange → ℕ → List ℕ → List WrittenRange
noted_all [] address bytes = record { address = address; bytes = bytes } ∷ []
noted_all (run ∷ []) address bytes =
    if end_of run == address
    then record { address = run.address; bytes = run.bytes ++ bytes } ∷ []
    else run ∷ record { address = address; bytes = bytes } ∷ []
noted_all (run ∷ (next ∷ rest)) address bytes = run ∷ noted_all (next ∷ rest) address bytes

-- where the next bits of a page's mask begin that are set, from a place on, and where they end
pub record NextRun (mask place first end : ℕ) : Type 0 where
  pub begins : place ≤ first
  pub ends : end ≤ 64
  pub clear : (x : ℕ) → place ≤ x → x < first → bit_at mask x ≡ 0
  pub set : (x : ℕ) → first ≤ x → x < end → bit_at mask x ≡ 1
  pub some : (first < end) ⊎ (first ≡ 64)

-- that the first of some runs begins behind an address, with a gap between
abbrev pub Follows : ℕ → List WrittenRange → Type 0
Follows end [] = Unit
Follows end (run ∷ runs) = end < run.address

-- that runs have bytes, that each ends before the next begins with a gap between, and at a limit or before
abbrev pub Ascends : ℕ → List WrittenRange → Type 0
Ascends limit [] = Unit
Ascends limit (run ∷ runs) = (0 < length run.bytes) × ((end_of run ≤ limit) × (Follows (end_of run) runs × Ascends limit runs))

-- the runs of what a map has below a limit
pub record Told (at : ℕ → Option ℕ) (limit : ℕ) (runs : List WrittenRange) : Type 0 where
  pub ascends : Ascends limit runs
  pub exact : (x : ℕ) → all_laid runs x ≡ (if nat_lt x limit then at x else None)

-- a map has as many places from a base on as a part says
abbrev pub Agrees : (ℕ → Option ℕ) → ℕ → ℕ → (ℕ → Option ℕ) → Type 0
Agrees at base size part = (x : ℕ) → x < size → at (base + x) ≡ part x

-- of any map that has a part from a base on: runs that told it below the base now tell it for so many places more
abbrev pub Gathers : ℕ → ℕ → (ℕ → Option ℕ) → ℕ → List WrittenRange → List WrittenRange → Type 0
Gathers base size part count before after =
    (at : ℕ → Option ℕ) → Told at base before → Agrees at base size part → Told at (base + count) after
