-- What lexemes are made of: bytes of each sort, names, digits, comments (PRM, Source Text Format).
use Rattle.std.specs.Prelude.{◌≡◌, ℕ, ◌⊎◌, List, [], ◌∷◌, Bool, true, false, ◌&&◌, ◌||◌, not, ◌==◌, codes}
use Rattle.std.specs.Char.{is_ascii_alphabetic, is_ascii_alphanumeric, is_digit}
use Rattle.std.specs.List.{list_any}

-- a space, a tab, a line feed or a carriage return
abbrev pub is_blank : ℕ → Bool
is_blank b = b == 32 || b == 9 || b == 10 || b == 13

-- one of ( ) { } [ ] , ; : + -
abbrev pub is_mark : ℕ → Bool
is_mark b = list_any (λ m. m == b) (codes "(){}[],;:+-")

-- a letter or `_`
abbrev pub is_name_start : ℕ → Bool
is_name_start b = is_ascii_alphabetic b || b == 95

-- a letter, a digit or `_`
abbrev pub is_name_byte : ℕ → Bool
is_name_byte b = is_ascii_alphanumeric b || b == 95

-- any byte but the line feed
abbrev pub is_not_line_feed : ℕ → Bool
is_not_line_feed b = not (b == 10)

-- the first byte passes the test
abbrev pub first_passes : (ℕ → Bool) → List ℕ → Bool
first_passes test [] = false
first_passes test (b ∷ bytes) = test b

-- each byte passes the test
abbrev pub AllPass : (ℕ → Bool) → List ℕ → Type 0
AllPass test [] = Unit {0}
AllPass test (b ∷ bytes) = (test b ≡ true) × AllPass test bytes

-- a name: a letter or `_`, and letters, digits and `_`
abbrev pub IsName : List ℕ → Type 0
IsName [] = ⊥
IsName (b ∷ bytes) = (is_name_start b ≡ true) × AllPass is_name_byte bytes

-- decimal digits: 0 alone, or no leading zero
abbrev pub IsDecimal : List ℕ → Type 0
IsDecimal [] = ⊥
IsDecimal (b ∷ digits) =
    (is_digit b 10 ≡ true) × AllPass (λ d. is_digit d 10) digits × (b ≡ 48 → digits ≡ [])

-- 0x and a hexadecimal digit at least
abbrev pub IsHexadecimal : List ℕ → Type 0
IsHexadecimal text =
    (digit : ℕ) × (digits : List ℕ) × (text ≡ 48 ∷ 120 ∷ digit ∷ digits)
    × (is_digit digit 16 ≡ true) × AllPass (λ d. is_digit d 16) digits

-- behind the first slash of a comment: another, and no line feed
abbrev pub IsRestOfLineComment : List ℕ → Type 0
IsRestOfLineComment text = (line : List ℕ) × (text ≡ 47 ∷ line) × AllPass is_not_line_feed line

-- `*/` stands at the end, and nowhere before
abbrev pub IsClosed : List ℕ → Type 0
IsClosed [] = ⊥
IsClosed (b ∷ bytes) =
    ((b ∷ bytes) ≡ 42 ∷ 47 ∷ []) ⊎ (((b == 42 && first_passes (λ c. c == 47) bytes) ≡ false) × IsClosed bytes)

-- behind the first slash of a comment: a star, and all up to the first `*/` behind it
abbrev pub IsRestOfBlockComment : List ℕ → Type 0
IsRestOfBlockComment text = (inside : List ℕ) × (text ≡ 42 ∷ inside) × IsClosed inside

-- behind the first slash of a comment: the rest of it
abbrev pub IsRestOfComment : List ℕ → Type 0
IsRestOfComment text = IsRestOfLineComment text ⊎ IsRestOfBlockComment text
