-- What is read at the front of some bytes (PRM, Source Text Format).
use Rattle.std.specs.Prelude.{ℕ, ◌+◌, ◌*◌, ◌^◌, List, [], ◌∷◌, ◌&&◌, ◌==◌, nat_lt, if◌then◌else◌, Option, Some, None, codes, length, drop}
use Rattle.std.specs.Char.{is_digit, digit_value}
use Rattle.hsail_reader.specs.Spelling.{first_passes}
use Rattle.hsail_reader.specs.Nouns.{Prefix}

-- the bytes behind this front, where it is their front
abbrev pub behind : List ℕ → List ℕ → Option (List ℕ)
behind [] bytes = Some bytes
behind (f ∷ front) [] = None
behind (f ∷ front) (b ∷ bytes) = if b == f then behind front bytes else None

-- how many bytes there are up to the first `*/` and with it, behind `before` others
abbrev pub closing_at : ℕ → List ℕ → Option ℕ
closing_at before [] = None
closing_at before (b ∷ bytes) =
    if b == 42 && first_passes (λ c. c == 47) bytes then Some (before + 2) else closing_at (before + 1) bytes

-- what is read at the front, and how many bytes spell it
abbrev pub spelled : {X : Type 0} → X → ℕ → Prefix X
spelled x length = record { value = x; length = length }

-- the number that the digits at the front spell, behind `length` digits that spell `value`;
-- nothing where it passes 64 bits
abbrev pub digits_at : ℕ → ℕ → ℕ → List ℕ → Option (Prefix ℕ)
digits_at radix value length [] = Some (spelled value length)
digits_at radix value length (b ∷ bytes) =
    if is_digit b radix
    then (if nat_lt (value * radix + digit_value b) (2 ^ 64)
    then digits_at radix (value * radix + digit_value b) (length + 1) bytes
    else None)
    else Some (spelled value length)

-- the decimal number at the front: 0, or digits without a leading zero
abbrev pub decimal_at : List ℕ → Option (Prefix ℕ)
decimal_at [] = None
decimal_at (b ∷ bytes) =
    if is_digit b 10 then
    (if b == 48 then Some (spelled 0 1) else digits_at 10 (digit_value b) 1 bytes)
    else None

-- where `0x` stands before these bytes, and otherwise
abbrev pub numeral_behind : Option (List ℕ) → List ℕ → Option (Prefix ℕ)
numeral_behind None bytes = decimal_at bytes
numeral_behind (Some rest) bytes = if first_passes (λ d. is_digit d 16) rest then digits_at 16 0 2 rest else decimal_at bytes

-- the number at the front: `0x` and hexadecimal digits, or decimal
abbrev pub numeral_at : List ℕ → Option (Prefix ℕ)
numeral_at bytes = numeral_behind (behind (codes "0x") bytes) bytes

infixl 10 ◌>>=◌
abbrev pub ◌>>=◌ : {A B : Type 0} → Option A → (A → Option B) → Option B
None >>= f = None
(Some x) >>= f = f x

abbrev pub or_else : {A : Type 0} → Option A → Option A → Option A
or_else None other = other
or_else (Some found) other = Some found

-- what the first of some reads
abbrev pub first_of : {A B : Type 0} → (A → List ℕ → Option B) → List A → List ℕ → Option B
first_of read [] text = None
first_of read (x ∷ others) text = or_else (read x text) (first_of read others text)

-- align(n)
abbrev pub align_at : List ℕ → Option (Prefix ℕ)
align_at bytes = do
  inside ← behind (codes "align(") bytes
  n ← numeral_at inside
  rest ← behind (codes ")") (drop n.length inside)
  Some (spelled n.value (n.length + 7))
