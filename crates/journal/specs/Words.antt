-- The words of a journal's lines: how each is written, which fit, and what a word is read as (own).
use Rattle.std.specs.Prelude.{ℕ, zero, suc, ◌+◌, ◌-◌, ◌*◌, ◌/◌, ◌%◌, ◌^◌, nat_lt, nat_le, ◌==◌, ℤ, pos, negsuc, neg_ℤ, Bool, true, false, ◌&&◌, ◌||◌, not, List, [], ◌∷◌, ◌++◌, length, map, flat_map, decimal, Option, Some, None, option_map, option_and_then, if◌then◌else◌}
use Rattle.std.specs.List.{list_all}
use Rattle.std.specs.Fmt.{signed_decimal}
use denote.Ref.{Bor}

-- the bytes of a text
abbrev pub Text : Type 0
Text = List ℕ

-- what a word tells:
-- Name t: the text itself
-- Number b n: a number of b bits, at most 64, in decimal
-- Signed z: a signed number of 64 bits, in decimal
-- Bytes bs: bytes in order, two hexadecimal digits each
-- Packet bs: a packet's 64 bytes, written as bytes
-- Flags fs: five flags, a digit each, 1 where it is set
pub data Word : Type 0 where
  Name : Text → Word
  Number : ℕ → ℕ → Word
  Signed : ℤ → Word
  Bytes : List ℕ → Word
  Packet : List ℕ → Word
  Flags : List Bool → Word

-- ---- writing

-- a hexadecimal digit, in lower case
abbrev pub hex_digit : ℕ → ℕ
hex_digit n = if nat_lt n 10 then 48 + n else 87 + n

abbrev pub text_of_byte : ℕ → Text
text_of_byte byte = hex_digit (byte / 16) ∷ hex_digit (byte % 16) ∷ []

abbrev pub text_of_bytes : List ℕ → Text
text_of_bytes bytes = flat_map text_of_byte bytes

abbrev pub flag_digit : Bool → ℕ
flag_digit set = if set then 49 else 48

abbrev pub text_of : Word → Text
text_of (Name text) = text
text_of (Number bits n) = decimal n
text_of (Signed z) = signed_decimal z
text_of (Bytes bs) = text_of_bytes bs
text_of (Packet bs) = text_of_bytes bs
text_of (Flags fs) = map flag_digit fs

-- words, each behind a blank
abbrev pub behind_blanks : List Word → Text
behind_blanks words = flat_map (λ word. 32 ∷ text_of word) words

-- ---- what fits

-- a byte that stands between words: a blank, or a line feed
abbrev pub is_blank : ℕ → Bool
is_blank byte = byte == 32 || byte == 10

-- no byte of a text is a blank
abbrev pub has_no_blank : Text → Bool
has_no_blank text = list_all (λ byte. not (is_blank byte)) text

-- a signed number has 64 bits
abbrev pub is_signed : ℤ → Bool
is_signed (pos n) = nat_lt n (2 ^ 63)
is_signed (negsuc n) = nat_lt n (2 ^ 63)

-- each byte has 8 bits
abbrev pub are_bytes : List ℕ → Bool
are_bytes bs = list_all (λ byte. nat_lt byte 256) bs

-- a word tells what it can tell
abbrev pub fits : Word → Bool
fits (Name text) = has_no_blank text
fits (Number bits n) = nat_lt n (2 ^ bits) && nat_lt n (2 ^ 64)
fits (Signed z) = is_signed z
fits (Bytes bs) = are_bytes bs
fits (Packet bs) = (length bs == 64) && are_bytes bs
fits (Flags fs) = length fs == 5

-- ---- reading

-- what stands between blanks, of bytes that come behind the begin of a word
unfoldable pub words_from : Text → List ℕ → List Text
words_from word [] = word ∷ []
words_from word (byte ∷ bytes) = if is_blank byte then word ∷ words_from [] bytes else words_from (word ++ byte ∷ []) bytes

-- the words behind a blank, where there is one
abbrev pub words_behind : Option (Bor (List ℕ)) → List Text
words_behind None = []
words_behind (Some text) = words_from [] text.now

-- what is read at the front of some words, with the words behind it
abbrev pub Reading : Type 0 → Type 0
Reading X = Option (X × List Text)

-- what is read, and behind it what its value asks for
abbrev pub and_then : {A B : Type 0} → Reading A → (A → List Text → Reading B) → Reading B
and_then None f = None
and_then (Some read) f = f read.0 read.1

-- the first word
abbrev pub word_at : List Text → Reading Text
word_at [] = None
word_at (word ∷ words) = Some (word, words)

-- the first word, where it is read as something
abbrev pub as_word : {X : Type 0} → (Text → Option X) → List Text → Reading X
as_word read [] = None
as_word read (word ∷ words) = option_map (λ x. (x, words)) (read word)

-- the value of a decimal digit
abbrev pub digit_of : ℕ → Option ℕ
digit_of byte = if nat_le 48 byte && nat_lt byte 58 then Some (byte - 48) else None

-- a number with a further digit, if it has 64 bits
abbrev pub with_digit : ℕ → ℕ → Option ℕ
with_digit n digit = if nat_lt (n * 10 + digit) (2 ^ 64) then Some (n * 10 + digit) else None

-- a number with further digits
unfoldable pub number_from : ℕ → Text → Option ℕ
number_from n [] = Some n
number_from n (byte ∷ bytes) = option_and_then (λ next. number_from next bytes) (option_and_then (with_digit n) (digit_of byte))

-- a decimal number of 64 bits
abbrev pub decimal_word : Text → Option ℕ
decimal_word [] = None
decimal_word (byte ∷ bytes) = number_from 0 (byte ∷ bytes)

-- a number, if it has so many bits
abbrev pub within : ℕ → ℕ → Option ℕ
within bits n = if nat_lt n (2 ^ bits) then Some n else None

-- a decimal number of so many bits
abbrev pub number_word : ℕ → Text → Option ℕ
number_word bits word = option_and_then (within bits) (decimal_word word)

-- a number as a negative number, if it is not below the least of 64 bits
abbrev pub negative : ℕ → Option ℤ
negative n = if nat_le n (2 ^ 63) then Some (neg_ℤ (pos n)) else None

-- a number as a signed number, if it is not above the greatest of 64 bits
abbrev pub positive : ℕ → Option ℤ
positive n = if nat_lt n (2 ^ 63) then Some (pos n) else None

-- a signed decimal number of 64 bits
abbrev pub signed_word : Text → Option ℤ
signed_word [] = None
signed_word (byte ∷ digits) =
    if byte == 45 then option_and_then negative (decimal_word digits)
    else option_and_then positive (decimal_word (byte ∷ digits))

-- the value of a hexadecimal digit, in lower case
abbrev pub hex_digit_of : ℕ → Option ℕ
hex_digit_of byte =
    if nat_le 48 byte && nat_lt byte 58 then Some (byte - 48)
    else if nat_le 97 byte && nat_lt byte 103 then Some (byte - 87)
    else None

-- a byte: two hexadecimal digits
abbrev pub byte_of : ℕ → ℕ → Option ℕ
byte_of high low = option_and_then (λ h. option_map (λ l. 16 * h + l) (hex_digit_of low)) (hex_digit_of high)

-- bytes in order, two hexadecimal digits each
unfoldable pub bytes_word : Text → Option (List ℕ)
bytes_word [] = Some []
bytes_word (high ∷ []) = None
bytes_word (high ∷ low ∷ word) = option_and_then (λ byte. option_map (λ bytes. byte ∷ bytes) (bytes_word word)) (byte_of high low)

-- a packet's bytes: just 64
abbrev pub packet_word : Text → Option (List ℕ)
packet_word word = option_and_then (λ bytes. if length bytes == 64 then Some bytes else None) (bytes_word word)

-- a flag's digit
abbrev pub flag_of : ℕ → Option Bool
flag_of byte = if byte == 48 then Some false else if byte == 49 then Some true else None

-- the flag of the first digit, and the digits behind it
abbrev pub flag_at : Text → Option (Bool × Text)
flag_at [] = None
flag_at (byte ∷ bytes) = option_map (λ set. (set, bytes)) (flag_of byte)

-- what was read, if no bytes are left
abbrev pub no_more : {X : Type 0} → X → Text → Option X
no_more x [] = Some x
no_more x (byte ∷ bytes) = None

-- five flags, a digit each
abbrev pub flags_word : Text → Option (List Bool)
flags_word word =
    option_and_then (λ a. option_and_then (λ b. option_and_then (λ c. option_and_then (λ d. option_and_then (λ e. no_more (a.0 ∷ b.0 ∷ c.0 ∷ d.0 ∷ e.0 ∷ []) e.1)
    (flag_at d.1)) (flag_at c.1)) (flag_at b.1)) (flag_at a.1)) (flag_at word)

-- ---- words at the front of others

-- a number of so many bits
abbrev pub number_at : ℕ → List Text → Reading ℕ
number_at bits words = as_word (number_word bits) words

abbrev pub signed_at : List Text → Reading ℤ
signed_at words = as_word signed_word words

abbrev pub bytes_at : List Text → Reading (List ℕ)
bytes_at words = as_word bytes_word words

abbrev pub packet_at : List Text → Reading (List ℕ)
packet_at words = as_word packet_word words

abbrev pub flags_at : List Text → Reading (List Bool)
flags_at words = as_word flags_word words

-- so many, one after the other
unfoldable pub times : {X : Type 0} → (List Text → Reading X) → ℕ → List Text → Reading (List X)
times one zero words = Some ([], words)
times one (suc n) words = and_then (one words) (λ x behind. and_then (times one n behind) (λ xs last. Some (x ∷ xs, last)))

-- what a function found with words behind it, as a reading
abbrev pub seen : {X : Type 0} → Option (X × Option (Bor (List ℕ))) → Reading X
seen found = option_map (λ read. (read.0, words_behind read.1)) found
