-- Which tokens a text has: it is lexemes from its first byte to its last, each the longest at its place
-- (PRM, Source Text Format).
use Rattle.std.specs.Prelude.{◌≡◌, ℕ, ◌+◌, ◌^◌, ◌<◌, ◌≤◌, ◌⊎◌, List, [], ◌∷◌, ◌++◌, true, ◌==◌, if◌then◌else◌, codes, length}
use Rattle.hsail_reader.specs.Spelling.{IsRestOfComment, IsName, is_blank, is_mark}
use Rattle.hsail_reader.specs.WordLexemes.{IsWord}
use Rattle.hsail_reader.specs.WordSpelling.{SpellsDecimal, SpellsHexadecimal}
use Rattle.hsail_reader.specs.Nouns.{Header, LexemeKind, RegisterClass, TokenKind, Base, Blank, Comment, Control, Default, Double, Full, Large, Near, Single, Token, Zero}
use Rattle.hsail_reader.specs.declared.token.TokenKind.TheVariants as token

-- a token with its text, how many bytes stand before it, and its line
pub record PlacedToken : Type 0 where
  pub kind : TokenKind
  pub text : List ℕ
  pub place : ℕ
  pub line : ℕ

abbrev pub placed : TokenKind → List ℕ → ℕ → ℕ → PlacedToken
placed kind text place line = record { kind = kind; text = text; place = place; line = line }

-- the line behind a byte
abbrev pub line_behind : ℕ → ℕ → ℕ
line_behind line b = if b == 10 then line + 1 else line

-- the line behind some bytes
abbrev pub line_after : ℕ → List ℕ → ℕ
line_after line [] = line
line_after line (b ∷ bytes) = line_after (line_behind line b) bytes

-- the tokens that a lexeme is: one, or none for a blank or a comment
abbrev pub kept : LexemeKind → List ℕ → ℕ → ℕ → List PlacedToken
kept Blank text place line = []
kept Comment text place line = []
kept (Token kind) text place line = placed kind text place line ∷ []

-- behind this byte stands what is spelled so
abbrev pub Behind : ℕ → (List ℕ → Type 0) → List ℕ → Type 0
Behind b IsSpelled text = (rest : List ℕ) × (text ≡ b ∷ rest) × IsSpelled rest

-- $c, $s or $d
abbrev pub class_name : RegisterClass → List ℕ
class_name Control = codes "$c"
class_name Single = codes "$s"
class_name Double = codes "$d"

abbrev pub header_name : Header → List ℕ
header_name Base = codes "$base"
header_name Full = codes "$full"
header_name Large = codes "$large"
header_name Default = codes "$default"
header_name Zero = codes "$zero"
header_name Near = codes "$near"

-- the text is a token of this kind; a number may be of any size here, since the limit is asked of the
-- longest alone
abbrev pub IsToken : TokenKind → List ℕ → Type 0
IsToken token.Global text = Behind 38 IsName text
IsToken token.Variable text = Behind 37 IsName text
IsToken token.Label text = Behind 64 IsName text
IsToken (token.Register r) text =
    (digits : List ℕ) × (text ≡ class_name r.class ++ digits) × SpellsDecimal r.number digits
IsToken (token.Header h) text = text ≡ header_name h
IsToken (token.Number n) text = SpellsDecimal n text ⊎ SpellsHexadecimal n text
IsToken (token.Mark b) text = (text ≡ b ∷ []) × (is_mark b ≡ true)
IsToken token.Word text = IsWord text

-- the text is a lexeme of this kind
abbrev pub IsLexeme : LexemeKind → List ℕ → Type 0
IsLexeme Blank text = (b : ℕ) × (text ≡ b ∷ []) × (is_blank b ≡ true)
IsLexeme Comment text = Behind 47 IsRestOfComment text
IsLexeme (Token kind) text = IsToken kind text

-- a number or a register's number has at most 64 bits
abbrev pub IsWithin64Bits : LexemeKind → Type 0
IsWithin64Bits (Token (token.Register r)) = r.number < 2 ^ 64
IsWithin64Bits (Token (token.Number n)) = n < 2 ^ 64
IsWithin64Bits _ = Unit {0}

-- no front of these bytes that is a lexeme is longer than this one
abbrev pub IsLongestFront : List ℕ → List ℕ → Type 0
IsLongestFront front bytes =
    (kind : LexemeKind) (text more : List ℕ) → bytes ≡ text ++ more → IsLexeme kind text →
    length text ≤ length front

-- the tokens of bytes of which the first stands at this place, on this line: blanks and comments are none
pub data AreTokens : ℕ → ℕ → List ℕ → List PlacedToken → Type 0 where
  none : (place line : ℕ) → AreTokens place line [] []
  lexeme : (place line : ℕ) (kind : LexemeKind) (bytes front behind : List ℕ) (tokens : List PlacedToken) →
      bytes ≡ front ++ behind → IsLexeme kind front → IsWithin64Bits kind → IsLongestFront front bytes →
      AreTokens (place + length front) (line_after line front) behind tokens →
      AreTokens place line bytes (kept kind front place line ++ tokens)
