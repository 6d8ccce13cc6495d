-- Where the arguments of a kernel lie in its block (PRM, Kernarg Segment), and its group variables in group memory
-- (PRM, Group Segment).
use Rattle.std.specs.Prelude.{ℕ, ◌+◌, ◌-◌, ◌*◌, ◌/◌, max, Bool, ◌==◌, if◌then◌else◌, List, [], ◌∷◌, ◌++◌, Option, Some, None}
use Rattle.kernel_check.specs.Names.{Known}
use Rattle.kernel_check.specs.declared.layout.Placed.{Placed}
use Rattle.hsail_reader.specs.Types.{type_bits, alignment_bytes}
use Rattle.hsail_reader.specs.declared.module.Argument.{Argument}
use Rattle.hsail_reader.specs.declared.module.GroupVariable.{GroupVariable}
use Rattle.hsail_reader.specs.declared.types.Alignment.{Alignment}
use Rattle.hsail_reader.specs.declared.types.DataType.{DataType}
use Rattle.hsail_reader.specs.declared.types.Segment.TheVariants as segment

-- the bytes of a value, as many as its bits fill
abbrev pub kind_bytes : DataType → ℕ
kind_bytes kind = (type_bits kind + 7) / 8

abbrev pub is_wide : DataType → Bool
is_wide kind = type_bits kind == 64

-- the larger of the natural alignment and the align
abbrev pub boundary_of : DataType → Option Alignment → ℕ
boundary_of kind None = kind_bytes kind
boundary_of kind (Some align) = max (kind_bytes kind) (alignment_bytes align)

-- the next multiple of n
abbrev pub next_multiple : ℕ → ℕ → ℕ
next_multiple end n = (end + (n - 1)) / n * n

-- an argument behind these many bytes
abbrev pub placed_at : ℕ → Argument → Placed
placed_at end a = record { segment = segment.Kernarg; kind = a.kind; offset = next_multiple end (boundary_of a.kind a.align) }

abbrev pub end_behind : ℕ → Argument → ℕ
end_behind end a = next_multiple end (boundary_of a.kind a.align) + kind_bytes a.kind

-- arguments in order behind these many bytes, by name
abbrev pub placed_from : ℕ → List Argument → Known Placed
placed_from end [] = []
placed_from end (a ∷ later) = (a.name, placed_at end a) ∷ placed_from (end_behind end a) later

-- where the last of them ends
abbrev pub end_from : ℕ → List Argument → ℕ
end_from end [] = end
end_from end (a ∷ later) = end_from (end_behind end a) later

-- the offset of an argument of 64 bits
abbrev pub wide_at : ℕ → Argument → List ℕ
wide_at end a = if is_wide a.kind then (placed_at end a).offset ∷ [] else []

-- the offsets of those of 64 bits
abbrev pub wide_from : ℕ → List Argument → List ℕ
wide_from end [] = []
wide_from end (a ∷ later) = wide_at end a ++ wide_from (end_behind end a) later

-- how many values a group variable has: as many as its brackets say, or one
abbrev pub values_of : Option ℕ → ℕ
values_of None = 1
values_of (Some n) = n

-- a group variable behind these many bytes
abbrev pub group_placed : ℕ → GroupVariable → Placed
group_placed end v =
    record { segment = segment.Group; kind = v.kind; offset = next_multiple end (boundary_of v.kind v.align) }

abbrev pub group_end_behind : ℕ → GroupVariable → ℕ
group_end_behind end v = next_multiple end (boundary_of v.kind v.align) + kind_bytes v.kind * values_of v.length
