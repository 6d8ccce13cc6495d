-- How numbers lie in bytes, and what a write does to them.
use Rattle.std.proofs.Common.{◌≡◌, ℕ, zero, suc, ◌+◌, ◌<◌, List, ◌++◌, take, drop, slice_index, refl, ◌∙◌, arith}
use Rattle.std.proofs.lemmas.List.{get_or-drop, drop-drop}
use Rattle.byteorder.specs.Endian.{little_from, little_bytes}
use Rattle.aql_packet.specs.Numbers.{number_at, bits, written}

-- A number from a place on is what the bytes from that place on begin with.
number_at-from : (bytes : List ℕ) (place at size : ℕ) → little_from at size (drop place bytes) ≡ number_at bytes (place + at) size
unfolding number_at
number_at-from bytes place at zero = refl
number_at-from bytes place at (suc size) =
    let next : place + suc at ≡ suc (place + at) = omega arith in
    rw (get_or-drop, number_at-from bytes place (suc at) size, next) refl

pub number_at-drop : (bytes : List ℕ) (place size : ℕ) → little_from 0 size (drop place bytes) ≡ number_at bytes place size
number_at-drop bytes place size =
    let here : place + 0 ≡ place = omega arith in
    number_at-from bytes place 0 size ∙ rw here refl

-- A write, as the halves of the bytes show it.
pub written-parts : (bytes : List ℕ) (place size number : ℕ) → take place bytes ++ (little_bytes size number ++ drop size (drop place bytes)) ≡ written bytes place size number
unfolding written
written-parts bytes place size number = rw (drop-drop size place bytes) refl

-- The header's bits stand in the first word too.
pub type_of_word : (bytes : List ℕ) → ((place : ℕ) → slice_index bytes place < 256) → bits (number_at bytes 0 8) 7 0 ≡ bits (number_at bytes 0 2) 7 0
unfolding number_at
type_of_word bytes below = omega (arith, below 0, below 1)

pub barrier_of_word : (bytes : List ℕ) → ((place : ℕ) → slice_index bytes place < 256) → bits (number_at bytes 0 8) 8 8 ≡ bits (number_at bytes 0 2) 8 8
unfolding number_at
barrier_of_word bytes below = omega (arith, below 0, below 1)
