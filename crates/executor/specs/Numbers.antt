-- The meaning of integer and bit operations, once for all widths: bits are read as a number, the
-- operation is exact on whole numbers, and the low bits of its result stay.
use Rattle.std.specs.Prelude.{ℕ, ◌*◌, ◌^◌, ◌%◌, Bool, not, if◌then◌else◌, ℤ, pos, ◌+ℤ◌, ◌-ℤ◌, ◌*ℤ◌, int_lt, unsigned_abs}
use Rattle.std.specs.Ordering.{int_eq}
use Rattle.std.specs.Int.RustNames.{int_div, int_rem}
use mir.Val.{bits}
use Rattle.std.specs.Int.{Width, int_rem_euclid, int_shr, cast_signed}
use Rattle.hsail_reader.specs.declared.types.Comparison.{Comparison}
use Rattle.hsail_reader.specs.declared.types.Comparison.TheVariants.{Equal, NotEqual, Less, LessOrEqual, Greater, GreaterOrEqual}

-- how a type reads its bits: types `u` as they are, types `s` in two's complement (PRM, Base Data Types)
pub data Sign : Type 0 where
  unsigned : Sign
  signed : Sign

-- the number that bits mean
abbrev pub number : Sign → Width → ℕ → ℤ
number unsigned width value = pos value
number signed width value = cast_signed width value

-- the bits of a number: what is left of it modulo two to the power of the width
abbrev pub wrapped : Width → ℤ → ℕ
wrapped width n = unsigned_abs (int_rem_euclid n (pos (2 ^ bits width)))

-- an operation of two bit patterns: exact on the numbers that they mean, then wrapped (PRM, Integer Arithmetic Operations)
abbrev pub computed : (ℤ → ℤ → ℤ) → Sign → Width → ℕ → ℕ → ℕ
computed operation sign width a b = wrapped width (operation (number sign width a) (number sign width b))

-- add, sub, mul (PRM, Integer Arithmetic Operations)
abbrev pub sum : ℤ → ℤ → ℤ
sum a b = a +ℤ b

abbrev pub difference : ℤ → ℤ → ℤ
difference a b = a -ℤ b

abbrev pub product : ℤ → ℤ → ℤ
product a b = a *ℤ b

-- div: rounded toward zero (PRM, Integer Arithmetic Operations); by 0 it is 0 (own)
abbrev pub quotient : ℤ → ℤ → ℤ
quotient a b = if int_eq b (pos 0) then pos 0 else int_div a b

-- rem: with the sign of the first (PRM, Integer Arithmetic Operations); by 0 it is 0 (own)
abbrev pub remainder : ℤ → ℤ → ℤ
remainder a b = if int_eq b (pos 0) then pos 0 else int_rem a b

-- min, max (PRM, Integer Arithmetic Operations)
abbrev pub least : ℤ → ℤ → ℤ
least a b = if int_lt b a then b else a

abbrev pub greatest : ℤ → ℤ → ℤ
greatest a b = if int_lt b a then a else b

-- how far a shift goes: the count modulo the width, its low 5 or 6 bits (PRM, Integer Shift Operations)
abbrev pub shift_count : Width → ℕ → ℕ
shift_count width count = count % bits width

-- shl: the bits move up, and those past the width are lost (PRM, Integer Shift Operations)
abbrev pub shifted_left : Width → ℕ → ℕ → ℕ
shifted_left width a count = a * 2 ^ shift_count width count % 2 ^ bits width

-- shr: the number divided by a power of two and rounded down, so that s copies its sign (PRM, Integer Shift Operations)
abbrev pub shifted_right : Sign → Width → ℕ → ℕ → ℕ
shifted_right sign width a count = wrapped width (int_shr (number sign width a) (shift_count width count))

-- cmp (PRM, Compare Operation)
abbrev pub compared : Comparison → ℤ → ℤ → Bool
compared Equal a b = int_eq a b
compared NotEqual a b = not (int_eq a b)
compared Less a b = int_lt a b
compared LessOrEqual a b = not (int_lt b a)
compared Greater a b = int_lt b a
compared GreaterOrEqual a b = not (int_lt a b)
