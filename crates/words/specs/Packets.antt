-- Packets and their words, as bytes in hexadecimal digits (own).
use Rattle.std.specs.Prelude.{ℕ, ◌==◌, List, [], ◌∷◌, length, drop, Option, Some, None, option_and_then, if◌then◌else◌}
use Rattle.byteorder.specs.Endian.{little_number, little_bytes}
use Rattle.words.specs.Lines.{Word}
use Rattle.words.specs.Bytes.{bytes_word, text_of_bytes}

-- the word in the eight bytes from a place on, the lowest byte first (PSA, Architected Queuing Language)
abbrev pub word_at : List ℕ → ℕ → ℕ
word_at bytes place = little_number 8 (drop place bytes)

-- a packet's word: eight bytes
abbrev pub eight_bytes : Word → Option ℕ
eight_bytes word = option_and_then (λ bytes. if length bytes == 8 then Some (word_at bytes 0) else None) (bytes_word word)

-- the words of a packet's 64 bytes
abbrev pub words_of : List ℕ → List ℕ
words_of bytes =
    word_at bytes 0 ∷ word_at bytes 8 ∷ word_at bytes 16 ∷ word_at bytes 24 ∷ word_at bytes 32 ∷ word_at bytes 40 ∷ word_at bytes 48
    ∷ word_at bytes 56 ∷ []

-- a packet's bytes: just 64
abbrev pub packet_bytes : Word → Option (List ℕ)
packet_bytes word = option_and_then (λ bytes. if length bytes == 64 then Some bytes else None) (bytes_word word)

-- a packet: its eight words, of 64 bytes
abbrev pub packet_word : Word → Option (List ℕ)
packet_word word = option_and_then (λ bytes. if length bytes == 64 then Some (words_of bytes) else None) (bytes_word word)

-- a packet's word, as its eight bytes: the lowest first (PSA, Architected Queuing Language)
unfoldable pub text_of_word : ℕ → List ℕ
text_of_word word = text_of_bytes (little_bytes 8 word)
