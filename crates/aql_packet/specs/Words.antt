-- A packet's 64 bytes as eight words of 64 bits (PSA, Architected Queuing Language: packets are little-endian).
use Rattle.std.specs.Prelude.{◌≡◌, ℕ, ◌<◌, ◌^◌, ◌==◌, Bool, List, [], ◌∷◌, length, map, get_or}
use Rattle.std.specs.List.{flat_map}
use Rattle.byteorder.specs.Endian.{little_bytes}
use Rattle.aql_packet.specs.Kinds.{invalid_type}
use Rattle.aql_packet.specs.Numbers.{number_at, bits}

-- The words of 64 bytes: each is the number in eight of them, the lowest byte first.
abbrev pub words_of : List ℕ → List ℕ
words_of bytes =
    map (λ place. number_at bytes place 8) (0 ∷ 8 ∷ 16 ∷ 24 ∷ 32 ∷ 40 ∷ 48 ∷ 56 ∷ [])

-- The bytes of words: the words in order, the lowest byte of each first.
abbrev pub bytes_of : List ℕ → List ℕ
bytes_of words = flat_map (λ word. little_bytes 8 word) words

-- Eight numbers below 2^64.
pub record AreEightWords (words : List ℕ) : Type 0 where
  pub count : length words ≡ 8
  pub below : (place : ℕ) → get_or words place 0 < 2 ^ 64

-- Whether a packet's first word, which has its header, has the type INVALID (PSA, Architected Queuing Language).
abbrev pub is_invalid : ℕ → Bool
is_invalid word = bits word 7 0 == invalid_type
