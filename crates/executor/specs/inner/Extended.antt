-- Numbers of fewer bits in a register of 64 (own).
use Rattle.std.specs.Prelude.{ℕ, ◌+◌, ◌-◌, ◌^◌, ◌<◌, if◌then◌else◌, nat_lt, ℤ, unsigned_abs}
use Rattle.executor.specs.Numbers.{number}

-- an extension to 64 bits of bits below twice a half: from the half on they mean negative numbers
abbrev pub extended_bits : ℕ → ℕ → ℕ
extended_bits value half = if nat_lt value half then value else value + (2 ^ 64 - (half + half))

-- a number in the ranges of the 64-bit types
abbrev pub IsShort : ℤ → Type 0
IsShort n = unsigned_abs n < 2 ^ 64
