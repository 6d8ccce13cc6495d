-- How runs are gathered: by ascending address, one byte after another. All of it is this project's own.
use Rattle.std.specs.Prelude.{ℕ, zero, suc, ◌^◌, ◌+◌, ◌==◌, if◌then◌else◌, List, [], ◌∷◌, ◌++◌, Option, Some, None}
use Rattle.executor.specs.declared.written_range.WrittenRange.{WrittenRange}
use Rattle.executor.specs.Written.{end_of}

-- runs with one more byte, behind all of them: in the last run where it adjoins it, else as a run of its own
abbrev pub noted : List WrittenRange → ℕ → ℕ → List WrittenRange
noted [] address byte = record { address = address; bytes = byte ∷ [] } ∷ []
noted (run ∷ []) address byte =
    if end_of run == address
    then record { address = run.address; bytes = run.bytes ++ byte ∷ [] } ∷ []
    else run ∷ record { address = address; bytes = byte ∷ [] } ∷ []
noted (run ∷ (next ∷ rest)) address byte = run ∷ noted (next ∷ rest) address byte

-- runs with the byte of an address behind them, if it has one
abbrev pub with_byte : List WrittenRange → ℕ → Option ℕ → List WrittenRange
with_byte runs address None = runs
with_byte runs address (Some byte) = noted runs address byte

-- the maximal runs of a map below a limit, ascending
unfoldable pub runs_below : (ℕ → Option ℕ) → ℕ → List WrittenRange
runs_below at zero = []
runs_below at (suc limit) = with_byte (runs_below at limit) limit (at limit)

-- the maximal runs of a map from address to byte, ascending
abbrev pub runs_of : (ℕ → Option ℕ) → List WrittenRange
runs_of at = runs_below at (2 ^ 64)
