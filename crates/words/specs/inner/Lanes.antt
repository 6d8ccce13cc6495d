-- Digits' values, as lanes of eight bits have them (own).
use Rattle.std.specs.Prelude.{ℕ, ◌+◌, ◌-◌, ◌%◌, min, bit_and}

-- the value of a byte from `0` to `9`; above 15 for another byte
abbrev pub figure_value : ℕ → ℕ
figure_value byte = ((byte + 198) % 256 - 6 + 16) % 256

-- the value of a byte from `A` to `F`, or from `a` to `f`; above 15 for another byte
abbrev pub letter_value : ℕ → ℕ
letter_value byte = (min ((bit_and byte 223 + 191) % 256) 245 + 10) % 256

-- the value of a digit, in either case; above 15 for a byte that is none
abbrev pub lane_value : ℕ → ℕ
lane_value byte = min (figure_value byte) (letter_value byte)
