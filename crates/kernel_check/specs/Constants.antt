-- Constants at the types of their places (PRM, Constants; the ranges are (own)).
use Rattle.std.specs.Prelude.{ℕ, ◌-◌, ◌^◌, Bool, ◌==◌, nat_le, if◌then◌else◌}
use Rattle.hsail_reader.specs.Types.{type_bits}
use Rattle.hsail_reader.specs.declared.types.Constant.{Constant}
use Rattle.hsail_reader.specs.declared.types.DataType.{DataType}

-- the greatest number of n bits
abbrev pub most : DataType → ℕ
most kind = 2 ^ type_bits kind - 1

-- the number whose negative is the least of n bits; b1 has no negative numbers
abbrev pub deepest : DataType → ℕ
deepest kind = if type_bits kind == 1 then 0 else 2 ^ (type_bits kind - 1)

-- from -2^(n-1) to 2^n - 1 for n bits; 0 and 1 for b1
abbrev pub is_in_range : DataType → Constant → Bool
is_in_range kind c = if c.negative then nat_le c.magnitude (deepest kind) else nat_le c.magnitude (most kind)

-- the bits of a constant in the range of a type of n bits: -m stands for 2^n - m
abbrev pub constant_bits : DataType → Constant → ℕ
constant_bits kind c =
    if c.negative then (if c.magnitude == 0 then 0 else 2 ^ type_bits kind - c.magnitude) else c.magnitude
