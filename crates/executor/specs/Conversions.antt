-- What cvt and loads make of bits.
use Rattle.std.specs.Prelude.{ℕ, ◌-◌, ◌%◌, ◌^◌, if◌then◌else◌, ℤ, pos}
use Rattle.std.specs.Ordering.{int_eq}
use Rattle.std.specs.Int.{w8, w16, w32, w64}
use Rattle.kernel_check.specs.declared.step.NumberType.{NumberType}
use Rattle.kernel_check.specs.declared.step.NumberType.TheVariants.{B1, U8, U16, U32, U64, S8, S16, S32, S64}
use Rattle.executor.specs.Numbers.{unsigned, signed, number, wrapped}

-- the number that a register's low bits mean as a type (PRM, Base Data Types)
abbrev pub read_as : NumberType → ℕ → ℤ
read_as B1 value = pos (value % 2)
read_as U8 value = number unsigned w8 (value % 2 ^ 8)
read_as U16 value = number unsigned w16 (value % 2 ^ 16)
read_as U32 value = number unsigned w32 (value % 2 ^ 32)
read_as U64 value = number unsigned w64 value
read_as S8 value = number signed w8 (value % 2 ^ 8)
read_as S16 value = number signed w16 (value % 2 ^ 16)
read_as S32 value = number signed w32 (value % 2 ^ 32)
read_as S64 value = number signed w64 value

-- the register's bits after a number is written as a type: its low bits, extended to the register as
-- the type says; as b1 it is 1 where the number is not 0 (PRM, Conversion (cvt) Operation)
abbrev pub written_as : NumberType → ℤ → ℕ
written_as B1 n = if int_eq n (pos 0) then 0 else 1
written_as U8 n = wrapped w8 n
written_as U16 n = wrapped w16 n
written_as U32 n = wrapped w32 n
written_as U64 n = wrapped w64 n
written_as S8 n = wrapped w32 (number signed w8 (wrapped w8 n))
written_as S16 n = wrapped w32 (number signed w16 (wrapped w16 n))
written_as S32 n = wrapped w32 n
written_as S64 n = wrapped w64 n

-- cvt: the bits of a register of one type as the bits of a register of another (PRM, Conversion (cvt) Operation)
abbrev pub converted : NumberType → NumberType → ℕ → ℕ
converted from to value = written_as to (read_as from value)
