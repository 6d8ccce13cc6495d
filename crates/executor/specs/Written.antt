-- The bytes that a work-group has written: a finite map from address to byte, over memory that stays
-- as it is. All of it is this project's own.
use Rattle.std.specs.Prelude.{◌≡◌, ℕ, ◌+◌, ◌-◌, ◌<◌, if◌then◌else◌, List, [], ◌∷◌, length, slice_get, Option, None, All}
use Rattle.std.specs.List.{AllPairs}
use Rattle.std.specs.Option.{unwrap_or}
use Rattle.aql_packet.specs.Memory.{covers}
use Rattle.executor.specs.declared.written_range.WrittenRange.{WrittenRange}

-- ---- maps from address to byte

-- a map with bytes laid over it from an address on
abbrev pub laid : (ℕ → Option ℕ) → ℕ → List ℕ → ℕ → Option ℕ
laid at address bytes x = if covers address (length bytes) x then slice_get bytes (x - address) else at x

-- what an access from an address on sees: at each address the written byte, else the one below
abbrev pub seen : (ℕ → Option ℕ) → ℕ → List ℕ → List ℕ
seen at address [] = []
seen at address (below ∷ rest) = unwrap_or (at address) below ∷ seen at (address + 1) rest

-- the map that has nothing
abbrev pub nothing : ℕ → Option ℕ
nothing x = None

-- ---- runs

-- the address behind a run's last byte
abbrev pub end_of : WrittenRange → ℕ
end_of run = run.address + length run.bytes

-- the map of some runs
abbrev pub all_laid : List WrittenRange → ℕ → Option ℕ
all_laid [] = nothing
all_laid (run ∷ runs) = laid (all_laid runs) run.address run.bytes

-- the maximal runs of a map, ascending: each has a byte, behind each is a gap before the next, and
-- together they are the map
pub record AreRuns (at : ℕ → Option ℕ) (runs : List WrittenRange) : Type 0 where
  pub filled : All (λ run. 0 < length run.bytes) runs
  pub apart : AllPairs (λ run later. end_of run < later.address) runs
  pub exact : all_laid runs ≡ at
