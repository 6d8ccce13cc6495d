-- The byte at each address, and the value of each signal: where they begin, with all changes laid over in order.
use Rattle.std.specs.Prelude.{ℕ, ℤ, ◌+◌, ◌-◌, List, fold, map, length, slice_index, slice_set, ◌&&◌, nat_le, nat_lt, if◌then◌else◌}
use Rattle.std.specs.List.{range_with_len}
use Rattle.core_model.specs.declared.entry.Entry.{Entry}
use Rattle.core_model.specs.declared.entry.Effect.{Effect}
use Rattle.core_model.specs.declared.entry.Effect.TheVariants.{Write, Signal}
use Rattle.core_model.specs.History.{Start, effects_of}

-- the byte at an address after a change, by the byte before it (own)
abbrev pub byte_after : ℕ → ℕ → Effect → ℕ
byte_after x before (Write address bytes) =
    if nat_le address.0 x && nat_lt x (address.0 + length bytes) then slice_index bytes (x - address.0) else before
byte_after x before _ = before

-- the byte at an address: the start's, then what was last written there (own)
unfoldable pub memory_at : Start → List Entry → ℕ → ℕ
memory_at start entries x = fold (byte_after x) (start.memory x) (effects_of entries)

-- `size` bytes of memory from an address on (own)
abbrev pub memory_from : Start → List Entry → ℕ → ℕ → List ℕ
memory_from start entries address size = map (memory_at start entries) (range_with_len address size)

-- the values of the signals after a change, by those before it (own)
abbrev pub signals_after : List ℤ → Effect → List ℤ
signals_after before (Signal signal old new) = slice_set before (signal.0 - 1) new
signals_after before _ = before

-- the values of all signals in order: the start's, then what each was last changed to (own)
unfoldable pub signals : Start → List Entry → List ℤ
signals start entries = fold signals_after start.signals (effects_of entries)
