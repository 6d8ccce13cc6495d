-- Numbers in a packet's bytes, and bits of a number.
use Rattle.std.specs.Prelude.{ℕ, zero, suc, ◌+◌, ◌-◌, ◌*◌, ◌/◌, ◌%◌, ◌^◌, List, ◌++◌, slice_index, take, drop, Bool, true, false}
use Rattle.byteorder.specs.Endian.{little_bytes}

-- The number of `size` bytes from a place on, the lowest byte first: the sum of the bytes by powers of 256
-- (PSA, Architected Queuing Language: packets are little-endian).
unfoldable pub number_at : List ℕ → ℕ → ℕ → ℕ
number_at bytes place zero = 0
number_at bytes place (suc size) = slice_index bytes place + 256 * number_at bytes (suc place) size

-- Bits high:low of a number, as a number.
abbrev pub bits : ℕ → ℕ → ℕ → ℕ
bits number high low = number / 2 ^ low % 2 ^ (high + 1 - low)

-- A flag as one bit.
abbrev pub bit_of : Bool → ℕ
bit_of false = 0
bit_of true = 1

-- The bytes after a write: from a place on, `size` bytes are those of a number, the lowest first.
unfoldable pub written : List ℕ → ℕ → ℕ → ℕ → List ℕ
written bytes place size number = take place bytes ++ (little_bytes size number ++ drop (place + size) bytes)
