-- How the lexeme at the front of some bytes is found (PRM, Source Text Format; that modifiers
-- belong to a word is (own)). What spells each stands in `TextTokens`.
use Rattle.std.specs.Prelude.{ℕ, zero, suc, ◌+◌, ◌-◌, List, [], ◌∷◌, ◌==◌, if◌then◌else◌, Option, Some, None, codes, length, drop}
use Rattle.std.specs.List.{prefix_len}
use Rattle.std.specs.Option.{is_some, option_map}
use Rattle.hsail_reader.specs.Bytes.{behind, closing_at, decimal_at, numeral_at, align_at, or_else, ◌>>=◌}
use Rattle.hsail_reader.specs.Rows.{bracketed_rows}
use Rattle.hsail_reader.specs.Words.{modifier_among}
use Rattle.hsail_reader.specs.Spelling.{first_passes, is_blank, is_mark, is_name_byte, is_name_start, is_not_line_feed}
use Rattle.hsail_reader.specs.Nouns.{Header, HeaderName, Lexeme, LexemeKind, Modifier, RegisterClass, Prefix, TokenKind, Base, Blank, Comment, Control, Default, Double, Full, Large, Near, Single, Token, Zero}
use Rattle.hsail_reader.specs.declared.token.TokenKind.TheVariants as token

abbrev pub lexed : LexemeKind → ℕ → Lexeme
lexed kind length = record { kind = kind; length = length }

-- a comment, behind its first slash: another and the rest of the line, or a star and all up to `*/`
abbrev pub comment_at : List ℕ → Option Lexeme
comment_at [] = None
comment_at (b ∷ bytes) =
    if b == 47 then Some (lexed Comment (prefix_len is_not_line_feed bytes + 2))
    else if b == 42 then option_map (λ length. lexed Comment (length + 2)) (closing_at 0 bytes)
    else None

-- a name behind its first byte `&`, `%` or `@`
abbrev pub name_at : TokenKind → List ℕ → Option Lexeme
name_at kind bytes =
    if first_passes is_name_start bytes then Some (lexed (Token kind) (prefix_len is_name_byte bytes + 1)) else None

-- the letter of a register's class
abbrev pub class_at : List ℕ → Option RegisterClass
class_at [] = None
class_at (b ∷ bytes) =
    if b == 99 then Some Control else if b == 115 then Some Single else if b == 100 then Some Double else None

abbrev pub register : RegisterClass → Prefix ℕ → Lexeme
register class n =
    lexed (Token (token.Register (record { class = class; number = n.value }))) (n.length + 2)

-- a register behind its dollar: the letter of its class, and a decimal number
abbrev pub register_at : List ℕ → Option Lexeme
register_at bytes = do
  class ← class_at bytes
  n ← decimal_at (drop 1 bytes)
  Some (register class n)

-- a word of the header, with its spelling
pub record HeaderWord : Type 0 where
  pub name : List ℕ
  pub header : Header

abbrev pub word : List ℕ → Header → HeaderWord
word name header = record { name = name; header = header }

-- the words of the header (PRM, Module Header)
abbrev pub header_words : List HeaderWord
header_words =
    word (codes "base") Base ∷ word (codes "full") Full ∷ word (codes "large") Large
    ∷ word (codes "default") Default ∷ word (codes "zero") Zero ∷ word (codes "near") Near ∷ []

-- a word of the code's table
abbrev pub header_view : HeaderName → HeaderWord
header_view h = word h.0.now h.1

-- the first of these words of the header that stands behind the dollar
abbrev pub header_among : List HeaderWord → List ℕ → Option Lexeme
header_among [] bytes = None
header_among (h ∷ words) bytes =
    if is_some (behind h.name bytes)
    then Some (lexed (Token (token.Header h.header)) (length h.name + 1))
    else header_among words bytes

-- behind a dollar: a register, or a word of the header
abbrev pub dollar_at : List ℕ → Option Lexeme
dollar_at bytes = or_else (register_at bytes) (header_among header_words bytes)

abbrev pub number_at : List ℕ → Option Lexeme
number_at bytes = option_map (λ (n : Prefix ℕ). lexed (Token (token.Number n.value)) n.length) (numeral_at bytes)

abbrev pub length_of : ℕ → Option (Modifier × List ℕ) → ℕ
length_of whole None = 0
length_of whole (Some m) = whole - length m.1

-- how many bytes a modifier with brackets takes; 0 where none stands at the front
abbrev pub modifier_length : List ℕ → ℕ
modifier_length bytes = length_of (length bytes) (modifier_among bracketed_rows bytes)

-- how many bytes the next piece of a word takes: a modifier, or one byte of a name; 0 at its end
abbrev pub piece_length : List ℕ → ℕ
piece_length [] = 0
piece_length (b ∷ bytes) =
    if 0 == modifier_length (b ∷ bytes)
    then (if is_name_byte b then 1 else 0)
    else modifier_length (b ∷ bytes)

-- how many bytes the pieces of a word take, `skip` bytes on, with `before` bytes before them
abbrev pub pieces_length : ℕ → ℕ → List ℕ → ℕ
pieces_length skip before [] = before
pieces_length (suc skip) before (b ∷ bytes) = pieces_length skip before bytes
pieces_length zero before (b ∷ bytes) =
    if 0 == piece_length (b ∷ bytes) then before
    else pieces_length (piece_length (b ∷ bytes) - 1) (before + piece_length (b ∷ bytes)) bytes

abbrev pub word_of : Option (Prefix ℕ) → List ℕ → Lexeme
word_of (Some n) bytes = lexed (Token token.Word) n.length
word_of None bytes = lexed (Token token.Word) (pieces_length 0 1 (drop 1 bytes))

-- a word: align(n), or the first byte of a name and all pieces behind it
abbrev pub word_at : List ℕ → Lexeme
word_at bytes = word_of (align_at bytes) bytes

-- the lexeme at the front, by its first byte
abbrev pub lexeme_at : List ℕ → Option Lexeme
lexeme_at [] = None
lexeme_at (b ∷ bytes) =
    if is_blank b then Some (lexed Blank 1)
    else if b == 47 then comment_at bytes
    else if b == 38 then name_at token.Global bytes
    else if b == 37 then name_at token.Variable bytes
    else if b == 64 then name_at token.Label bytes
    else if b == 36 then dollar_at bytes
    else if is_mark b then Some (lexed (Token (token.Mark b)) 1)
    else if is_name_start b then Some (word_at (b ∷ bytes))
    else number_at (b ∷ bytes)
