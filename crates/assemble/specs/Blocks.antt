-- The argument block of a kernel, as its own layout has it (PRM, Kernarg Segment).
use Rattle.std.specs.Prelude.{ℕ, zero, suc, ◌-◌, ◌/◌, ◌%◌, List, [], ◌∷◌, ◌++◌, length}
use Rattle.hsail_reader.specs.declared.module.Argument.{Argument}
use Rattle.kernel_check.specs.Layout.{boundary_of, end_behind, kind_bytes, next_multiple}
use Rattle.assemble.specs.declared.layout.ArgumentPlace.{ArgumentPlace}

-- the place of an argument behind these many bytes: where the check of the kernel lays it
abbrev pub place_of : ℕ → Argument → ArgumentPlace
place_of end a = record { kind = a.kind; offset = next_multiple end (boundary_of a.kind a.align) }

-- the places of arguments in order, behind these many bytes
abbrev pub places_from : ℕ → List Argument → List ArgumentPlace
places_from end [] = []
places_from end (a ∷ later) = place_of end a ∷ places_from (end_behind end a) later

-- so many zeros
unfoldable pub zeros : ℕ → List ℕ
zeros zero = []
zeros (suc count) = zeros count ++ 0 ∷ []

-- the lowest bytes of a number, the lowest first
unfoldable pub low_bytes : ℕ → ℕ → List ℕ
low_bytes zero number = []
low_bytes (suc count) number = number % 256 ∷ low_bytes count (number / 256)

-- bytes, and zeros behind them up to an offset
abbrev pub padded : List ℕ → ℕ → List ℕ
padded bytes offset = bytes ++ zeros (offset - length bytes)

-- bytes, and an argument at its place behind them
abbrev pub with_argument : List ℕ → ArgumentPlace → ℕ → List ℕ
with_argument bytes place value = padded bytes place.offset ++ low_bytes (kind_bytes place.kind) value

-- bytes, and values at their places behind them
unfoldable pub block_from : List ℕ → List ArgumentPlace → List ℕ → List ℕ
block_from bytes [] values = bytes
block_from bytes (place ∷ places) [] = bytes
block_from bytes (place ∷ places) (value ∷ values) = block_from (with_argument bytes place value) places values
