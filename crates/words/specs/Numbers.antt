-- The numbers that words stand for, decimal and hexadecimal (own).
use Rattle.std.specs.Prelude.{ℕ, ◌+◌, ◌-◌, ◌*◌, ◌^◌, nat_lt, nat_le, ◌==◌, ℤ, pos, neg_ℤ, ◌&&◌, List, [], ◌∷◌, length, map, unwrap_or, Option, Some, None, option_and_then, option_map, if◌then◌else◌}
use Rattle.words.specs.Lines.{Word}

-- the value of a digit, in either case
abbrev pub digit_of : ℕ → Option ℕ
digit_of byte =
    if nat_le 48 byte && nat_le byte 57 then Some (byte - 48)
    else if nat_le 65 byte && nat_le byte 70 then Some (byte - 55)
    else if nat_le 97 byte && nat_le byte 102 then Some (byte - 87)
    else None

-- a number with a further digit of a base, if it is one of 64 bits
abbrev pub with_digit : ℕ → ℕ → ℕ → Option ℕ
with_digit base number digit =
    if nat_lt digit base && nat_lt (number * base + digit) (2 ^ 64) then Some (number * base + digit) else None

-- a number with further digits
unfoldable pub number_from : ℕ → ℕ → List ℕ → Option ℕ
number_from base number [] = Some number
number_from base number (byte ∷ bytes) =
    option_and_then (λ next. number_from base next bytes) (option_and_then (with_digit base number) (digit_of byte))

-- a number of 64 bits by its digits of a base: at least one; zeros may lead it
abbrev pub digits_word : ℕ → Word → Option ℕ
digits_word base [] = None
digits_word base (byte ∷ bytes) = number_from base 0 (byte ∷ bytes)

-- a decimal number of 64 bits
abbrev pub decimal_word : Word → Option ℕ
decimal_word word = digits_word 10 word

-- the decimal number that the first of some words is, and the words behind it
abbrev pub first_decimal : List Word → Option (ℕ × List Word)
first_decimal [] = None
first_decimal (word ∷ further) = option_map (λ number. (number, further)) (decimal_word word)

-- a number of 64 bits: decimal, or hexadecimal after `0x`
abbrev pub number_word : Word → Option ℕ
number_word [] = None
number_word (first ∷ []) = digits_word 10 (first ∷ [])
number_word (first ∷ second ∷ digits) =
    if first == 48 && second == 120 then digits_word 16 digits else digits_word 10 (first ∷ second ∷ digits)

-- a number of 64 bits as a negative number, if it is not below the least
abbrev pub negative : ℕ → Option ℤ
negative number = if nat_le number (2 ^ 63) then Some (neg_ℤ (pos number)) else None

-- a number of 64 bits as a signed number, if it is not above the greatest
abbrev pub positive : ℕ → Option ℤ
positive number = if nat_lt number (2 ^ 63) then Some (pos number) else None

-- a signed decimal number of 64 bits
abbrev pub signed_word : Word → Option ℤ
signed_word [] = None
signed_word (byte ∷ digits) =
    if byte == 45 then option_and_then negative (decimal_word digits)
    else option_and_then positive (decimal_word (byte ∷ digits))

-- an address: 16 hexadecimal digits
abbrev pub address_word : Word → Option ℕ
address_word word = if length word == 16 then number_from 16 0 word else None

-- the digits of a word
abbrev pub digits_of : List ℕ → List ℕ
digits_of word = map (λ byte. unwrap_or (digit_of byte) 0) word

-- the sum of digits, each times the power of the base that its place stands for
abbrev pub sum_of_digits : ℕ → List ℕ → ℕ
sum_of_digits base [] = 0
sum_of_digits base (digit ∷ digits) = digit * base ^ length digits + sum_of_digits base digits
