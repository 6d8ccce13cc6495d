-- Lines of a file, their words, and numbers in these (own).
use Rattle.std.specs.Prelude.{ℕ, suc, ◌+◌, ◌-◌, ◌*◌, ◌^◌, ◌==◌, nat_lt, nat_le, Bool, ◌&&◌, ◌||◌, not, List, [], ◌∷◌, ◌++◌, take, drop, length, Option, Some, None, option_and_then, option_map, if◌then◌else◌}
use denote.Ref.{Bor}
use Rattle.session.specs.declared.lines.Word.{Word}
use Rattle.session.specs.declared.lines.Digest.{Digest}

-- what stands between line feeds, of bytes that come behind the begin of a line
unfoldable pub lines_from : List ℕ → List ℕ → List (List ℕ)
lines_from line [] = line ∷ []
lines_from line (byte ∷ bytes) = if byte == 10 then line ∷ lines_from [] bytes else lines_from (line ++ byte ∷ []) bytes

-- the lines of a text
abbrev pub lines : List ℕ → List (List ℕ)
lines text = lines_from [] text

-- the lines behind a line feed, where there is one
abbrev pub lines_behind : Option (Bor (List ℕ)) → List (List ℕ)
lines_behind None = []
lines_behind (Some text) = lines text.now

-- how many bytes come before the first that passes a test
unfoldable pub before : (ℕ → Bool) → List ℕ → ℕ
before ends [] = 0
before ends (byte ∷ bytes) = if ends byte then 0 else suc (before ends bytes)

-- a byte that stands between words: a space, a tab or a carriage return; and one that doesn't
abbrev pub is_blank : ℕ → Bool
is_blank byte = (byte == 32 || byte == 9) || byte == 13

abbrev pub is_letter : ℕ → Bool
is_letter byte = not (is_blank byte)

-- the first word of a line from a place on: where it begins, and how many bytes it has; none at the end
abbrev pub word_at : List ℕ → ℕ → Word
word_at line place = record { start = place; length = before is_blank (drop place line) }

abbrev pub word_from : List ℕ → ℕ → Word
word_from line place = word_at line (place + before is_letter (drop place line))

abbrev pub word_behind : List ℕ → Word → Word
word_behind line word = word_from line (word.start + word.length)

-- the bytes of a word
abbrev pub bytes_of_word : List ℕ → Word → List ℕ
bytes_of_word line word = take word.length (drop word.start line)

-- the value of a digit; hexadecimal ones are in lower case
abbrev pub digit_of : ℕ → Option ℕ
digit_of byte =
    if nat_le 48 byte && nat_le byte 57 then Some (byte - 48)
    else if nat_le 97 byte && nat_le byte 102 then Some (byte - 87)
    else None

-- a number with a further digit of a base, if it is one of 64 bits
abbrev pub with_digit : ℕ → ℕ → Option ℕ → Option ℕ
with_digit base number None = None
with_digit base number (Some digit) =
    if nat_lt digit base && nat_lt (number * base + digit) (2 ^ 64) then Some (number * base + digit) else None

-- the number that digits of a base stand for
unfoldable pub number_from : ℕ → ℕ → List ℕ → Option ℕ
number_from base number [] = Some number
number_from base number (byte ∷ bytes) = option_and_then (λ next. number_from base next bytes) (with_digit base number (digit_of byte))

-- a decimal number of 64 bits: at most 20 digits
abbrev pub decimal_of : List ℕ → Option ℕ
decimal_of word = if nat_lt 0 (length word) && nat_le (length word) 20 then number_from 10 0 word else None

-- 16 hexadecimal digits from a place on
abbrev pub quarter : List ℕ → ℕ → Option ℕ
quarter word place = number_from 16 0 (take 16 (drop place word))

-- a digest: 64 hexadecimal digits
abbrev pub digest_of : List ℕ → Option Digest
digest_of word =
    if length word == 64 then
    option_and_then (λ a. option_and_then (λ b. option_and_then (λ c. option_map (λ d. record { first = a; second = b; third = c; fourth = d }) (quarter word 48)) (quarter word 32)) (quarter word 16)) (quarter word 0)
    else None
