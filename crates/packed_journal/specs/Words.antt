-- The words of a journal: how each is packed into bytes, which fit, and what bytes are read as (own).
use Rattle.std.specs.Prelude.{ℕ, zero, suc, ◌+◌, ◌-◌, ◌*◌, ◌/◌, ◌%◌, ◌^◌, nat_lt, nat_le, ◌==◌, ℤ, pos, negsuc, Bool, true, ◌&&◌, List, [], ◌∷◌, ◌++◌, length, take, drop, flat_map, Option, Some, None, option_map, Result, is_ok, if◌then◌else◌}
use denote.Ref.{Bor}
use Rattle.aql_packet.specs.Layout.{are_64_bytes}
use Rattle.aql_packet.specs.Words.{words_of}

-- what a word tells:
-- Tag t: which of several forms follows, a byte
-- Number b n: a number of b bits, at most 64
-- Signed z: a signed number of 64 bits
-- Bytes bs: bytes in order, behind their count
-- Packet bs: a packet's 64 bytes, as eight words of 64 bits
-- Flags fs: five flags, a byte
-- Digest bs: a digest's 32 bytes
pub data Word : Type 0 where
  Tag : ℕ → Word
  Number : ℕ → ℕ → Word
  Signed : ℤ → Word
  Bytes : List ℕ → Word
  Packet : List ℕ → Word
  Flags : List Bool → Word
  Digest : List ℕ → Word

-- ---- writing

-- a number in at most so many bytes (LEB128): seven bits a byte, the low ones first, and 128 more in each byte but the last
unfoldable pub number_within : ℕ → ℕ → List ℕ
number_within zero n = []
number_within (suc more) n = if nat_lt n 128 then n ∷ [] else (128 + n % 128) ∷ number_within more (n / 128)

-- a number of 64 bits, in as few bytes as it needs
abbrev pub packed_number : ℕ → List ℕ
packed_number n = number_within 10 n

-- a signed number as a number: 0, -1, 1, -2, 2 and so on
abbrev pub zigzag : ℤ → ℕ
zigzag (pos n) = 2 * n
zigzag (negsuc n) = 2 * n + 1

-- which of a packet's words aren't zero: a bit each, that of the first the lowest
unfoldable pub mask_of : List ℕ → ℕ
mask_of [] = 0
mask_of (word ∷ words) = (if word == 0 then 0 else 1) + 2 * mask_of words

-- a packet's word, unless it is zero
abbrev pub packed_full : ℕ → List ℕ
packed_full word = if word == 0 then [] else packed_number word

-- those of a packet's words that aren't zero
abbrev pub packed_words : List ℕ → List ℕ
packed_words words = flat_map packed_full words

-- flags as a number: a bit each, that of the first the lowest
unfoldable pub bits_of : List Bool → ℕ
bits_of [] = 0
bits_of (set ∷ flags) = (if set then 1 else 0) + 2 * bits_of flags

abbrev pub packed : Word → List ℕ
packed (Tag t) = t ∷ []
packed (Number bits n) = packed_number n
packed (Signed z) = packed_number (zigzag z)
packed (Bytes bs) = packed_number (length bs) ++ bs
packed (Packet bs) = mask_of (words_of bs) ∷ packed_words (words_of bs)
packed (Flags fs) = bits_of fs ∷ []
packed (Digest bs) = bs

-- what stands behind some bytes to which a form was to be added: nothing where memory was refused
abbrev pub appended : {A B : Type 0} → Result A B → List ℕ → List ℕ → List ℕ
appended made old form = if is_ok made then old ++ form else old

-- ---- what fits

-- a signed number has 64 bits
abbrev pub is_signed : ℤ → Bool
is_signed (pos n) = nat_lt n (2 ^ 63)
is_signed (negsuc n) = nat_lt n (2 ^ 63)

-- a word tells what it can tell
abbrev pub fits : Word → Bool
fits (Tag t) = true
fits (Number bits n) = nat_lt n (2 ^ bits) && nat_lt n (2 ^ 64)
fits (Signed z) = is_signed z
fits (Bytes bs) = nat_lt (length bs) (2 ^ 64)
fits (Packet bs) = are_64_bytes bs
fits (Flags fs) = length fs == 5
fits (Digest bs) = length bs == 32

-- ---- reading

-- what is read at the front of some bytes, with the bytes behind it
abbrev pub Reading : Type 0 → Type 0
Reading X = Option (X × List ℕ)

-- what is read, and behind it what its value asks for
abbrev pub and_then : {A B : Type 0} → Reading A → (A → List ℕ → Reading B) → Reading B
and_then None f = None
and_then (Some read) f = f read.0 read.1

-- what is read, where it is some
abbrev pub where_some : {X : Type 0} → Option X → List ℕ → Reading X
where_some found rest = option_map (λ x. (x, rest)) found

-- the first byte
abbrev pub byte_at : List ℕ → Reading ℕ
byte_at [] = None
byte_at (byte ∷ bytes) = Some (byte, bytes)

-- a number of 64 bits: the low seven in a byte with 128 more, and the number above them, which isn't zero
abbrev pub with_low : ℕ → ℕ → Option ℕ
with_low low high = if nat_lt low 256 && (nat_lt 0 high && nat_lt high (2 ^ 57)) then Some (low - 128 + 128 * high) else None

-- a number in at most so many bytes, in as few as it needs
unfoldable pub number_in : ℕ → List ℕ → Reading ℕ
number_in zero bytes = None
number_in (suc more) [] = None
number_in (suc more) (byte ∷ bytes) =
    if nat_lt byte 128 then Some (byte, bytes) else and_then (number_in more bytes) (λ high rest. where_some (with_low byte high) rest)

-- a number, if it has so many bits
abbrev pub within : ℕ → ℕ → Option ℕ
within bits n = if nat_lt n (2 ^ bits) then Some n else None

-- a number of so many bits
abbrev pub number_at : ℕ → List ℕ → Reading ℕ
number_at bits bytes = and_then (number_in 10 bytes) (λ n rest. where_some (within bits n) rest)

-- the signed number that a number stands for
abbrev pub signed_of : ℕ → ℤ
signed_of n = if n % 2 == 0 then pos (n / 2) else negsuc (n / 2)

abbrev pub signed_at : List ℕ → Reading ℤ
signed_at bytes = and_then (number_at 64 bytes) (λ n rest. Some (signed_of n, rest))

-- so many bytes
abbrev pub split_at : ℕ → List ℕ → Reading (List ℕ)
split_at n bytes = if nat_le n (length bytes) then Some (take n bytes, drop n bytes) else None

-- so many flags, of their bits
unfoldable pub flags_in : ℕ → ℕ → List Bool
flags_in zero bits = []
flags_in (suc more) bits = (bits % 2 == 1) ∷ flags_in more (bits / 2)

-- five flags
abbrev pub flags_of : ℕ → Option (List Bool)
flags_of bits = if nat_lt bits 32 then Some (flags_in 5 bits) else None

abbrev pub flags_at : List ℕ → Reading (List Bool)
flags_at bytes = and_then (byte_at bytes) (λ bits rest. where_some (flags_of bits) rest)

-- a digest's 32 bytes
abbrev pub digest_at : List ℕ → Reading (List ℕ)
digest_at bytes = split_at 32 bytes

-- what a function found, with the bytes behind it, as a reading
abbrev pub seen : {X : Type 0} → Option (X × Bor (List ℕ)) → Reading X
seen found = option_map (λ read. (read.0, read.1.now)) found
