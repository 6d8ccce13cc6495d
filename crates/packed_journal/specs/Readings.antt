-- What is read at the front of some bytes, or why nothing is; and the words of a journal, read so (own).
use Rattle.std.specs.Prelude.{ℕ, zero, suc, ◌/◌, ◌%◌, nat_lt, nat_le, ◌==◌, ℤ, Bool, ◌&&◌, List, [], ◌∷◌, length, flat_map, Some, None, Result, Ok, Err, if◌then◌else◌}
use Rattle.std.specs.List.{list_all}
use denote.Ref.{Bor}
use Rattle.aql_packet.specs.Words.{bytes_of as packet_of}
use Rattle.packed_journal.specs.declared.unread.Unread.{Unread}
use Rattle.packed_journal.specs.declared.unread.Unread.TheVariants.{Ended, Wrong}
use Rattle.packed_journal.specs.Words.{Word, Number, Reading, packed, fits, byte_at, number_at, signed_at, split_at, flags_at, digest_at}

-- the bytes of some words, one behind the other
abbrev pub bytes_of : List Word → List ℕ
bytes_of words = flat_map packed words

-- each of some words tells what it can tell
abbrev pub fit : List Word → Bool
fit words = list_all fits words

-- what is read at the front of some bytes, with the bytes behind it, or why nothing is
abbrev pub Read : Type 0 → Type 0
Read X = Result (X × List ℕ) Unread

-- no word that may stand there begins with the first of these bytes
abbrev pub wrong : List ℕ → Unread
wrong bytes = Wrong (length bytes)

-- what a function found, with the bytes behind it, as what is read
abbrev pub reads : {X : Type 0} → Result (X × Bor (List ℕ)) Unread → Read X
reads (Ok read) = Ok (read.0, read.1.now)
reads (Err why) = Err why

-- what a function found that stands in the bytes, likewise
abbrev pub reads_there : Result (Bor (List ℕ) × Bor (List ℕ)) Unread → Read (List ℕ)
reads_there (Ok read) = Ok (read.0.now, read.1.now)
reads_there (Err why) = Err why

-- ---- one behind the other

-- what is read, and behind it what its value asks for
abbrev pub and_read : {A B : Type 0} → Read A → (A → List ℕ → Read B) → Read B
and_read (Err why) next = Err why
and_read (Ok read) next = next read.0 read.1

-- what is made of what is read
abbrev pub made : {A B : Type 0} → (A → B) → Read A → Read B
made make (Err why) = Err why
made make (Ok read) = Ok (make read.0, read.1)

-- two, one behind the other
abbrev pub both : {A B : Type 0} → (List ℕ → Read A) → (List ℕ → Read B) → List ℕ → Read (A × B)
both first second bytes = and_read (first bytes) (λ x rest. and_read (second rest) (λ y end. Ok ((x, y), end)))

-- so many, one behind the other
unfoldable pub times : {X : Type 0} → (List ℕ → Read X) → ℕ → List ℕ → Read (List X)
times one zero bytes = Ok ([], bytes)
times one (suc n) bytes = and_read (one bytes) (λ x rest. and_read (times one n rest) (λ xs end. Ok (x ∷ xs, end)))

-- ---- words

-- a word that is read, or why it isn't
abbrev pub unless_read : {X : Type 0} → Unread → Reading X → Read X
unless_read why None = Err why
unless_read why (Some read) = Ok read

-- each byte of a number has another behind it
abbrev pub go_on : List ℕ → Bool
go_on bytes = list_all (λ byte. nat_le 128 byte) bytes

-- why no number is read: the bytes end within it, or it isn't in its least form or too large
abbrev pub unread_number : List ℕ → Unread
unread_number bytes = if nat_lt (length bytes) 10 && go_on bytes then Ended else wrong bytes

-- why no flags are read: the bytes end before them, or a sixth bit is set
abbrev pub unread_flags : List ℕ → Unread
unread_flags bytes = if length bytes == 0 then Ended else wrong bytes

abbrev pub read_tag : List ℕ → Read ℕ
read_tag bytes = unless_read Ended (byte_at bytes)

abbrev pub read_number : ℕ → List ℕ → Read ℕ
read_number bits bytes = unless_read (unread_number bytes) (number_at bits bytes)

abbrev pub read_signed : List ℕ → Read ℤ
read_signed bytes = unless_read (unread_number bytes) (signed_at bytes)

abbrev pub read_bytes : List ℕ → Read (List ℕ)
read_bytes bytes = and_read (read_number 64 bytes) (λ n rest. unless_read Ended (split_at n rest))

abbrev pub read_flags : List ℕ → Read (List Bool)
read_flags bytes = unless_read (unread_flags bytes) (flags_at bytes)

abbrev pub read_digest : List ℕ → Read (List ℕ)
read_digest bytes = unless_read Ended (digest_at bytes)

-- ---- packets

-- a number that isn't zero
abbrev pub read_full : List ℕ → Read ℕ
read_full bytes = and_read (read_number 64 bytes) (λ word rest. if word == 0 then Err (wrong bytes) else Ok (word, rest))

-- a word of a packet, of its bit
abbrev pub read_word : ℕ → List ℕ → Read ℕ
read_word bit bytes = if bit == 0 then Ok (0, bytes) else read_full bytes

-- so many words of a packet, of their bits, and no further bit
unfoldable pub read_words : ℕ → ℕ → List ℕ → Read (List ℕ)
read_words zero mask bytes = if mask == 0 then Ok ([], bytes) else Err (wrong bytes)
read_words (suc more) mask bytes =
    and_read (read_word (mask % 2) bytes) (λ word rest. and_read (read_words more (mask / 2) rest) (λ words end. Ok (word ∷ words, end)))

-- a packet's 64 bytes
abbrev pub read_packet : List ℕ → Read (List ℕ)
read_packet bytes = made packet_of (and_read (read_tag bytes) (read_words 8))

-- ---- lists

-- how many items a list has, and these in order
abbrev pub words_of_list : {X : Type 0} → (X → List Word) → List X → List Word
words_of_list words items = Number 64 (length items) ∷ flat_map words items

abbrev pub read_list : {X : Type 0} → (List ℕ → Read X) → List ℕ → Read (List X)
read_list one bytes = and_read (read_number 64 bytes) (λ n rest. times one n rest)
