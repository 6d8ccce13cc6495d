-- Bytes and addresses in hexadecimal digits, as they are read and as they are written (own).
use Rattle.std.specs.Prelude.{ℕ, zero, suc, ◌+◌, ◌*◌, ◌/◌, ◌%◌, nat_lt, List, [], ◌∷◌, ◌++◌, flat_map, Option, Some, None, option_map, option_and_then, if◌then◌else◌}
use Rattle.words.specs.Lines.{Word}
use Rattle.words.specs.Numbers.{digit_of}

-- a byte: two hexadecimal digits
abbrev pub byte_of : ℕ → ℕ → Option ℕ
byte_of high low = option_and_then (λ h. option_map (λ l. 16 * h + l) (digit_of low)) (digit_of high)

-- bytes in order, two hexadecimal digits each
unfoldable pub bytes_word : Word → Option (List ℕ)
bytes_word [] = Some []
bytes_word (high ∷ []) = None
bytes_word (high ∷ low ∷ word) = option_and_then (λ byte. option_map (λ bytes. byte ∷ bytes) (bytes_word word)) (byte_of high low)

-- a hexadecimal digit, in lower case
abbrev pub hex_digit : ℕ → ℕ
hex_digit n = if nat_lt n 10 then 48 + n else 87 + n

-- the last `count` hexadecimal digits of a number
unfoldable pub hex_digits : ℕ → ℕ → List ℕ
hex_digits zero n = []
hex_digits (suc count) n = hex_digits count (n / 16) ++ hex_digit (n % 16) ∷ []

-- an address: 16 hexadecimal digits
abbrev pub text_of_address : ℕ → List ℕ
text_of_address address = hex_digits 16 address

-- a byte: two hexadecimal digits
abbrev pub text_of_byte : ℕ → List ℕ
text_of_byte byte = hex_digit (byte / 16) ∷ hex_digit (byte % 16) ∷ []

-- bytes in order
abbrev pub text_of_bytes : List ℕ → List ℕ
text_of_bytes bytes = flat_map text_of_byte bytes
