-- How a text is cut into tokens: its lexemes from the first byte on, without blanks and comments.
-- Which tokens a text has stands in `TextTokens` (PRM, Source Text Format).
use Rattle.std.specs.Prelude.{ℕ, zero, suc, ◌+◌, ◌-◌, List, [], ◌∷◌, Option, Some, None, Result, Ok, Err, take, map}
use Rattle.hsail_reader.specs.Faults.{placed_flaw, with_front}
use Rattle.hsail_reader.specs.Lexemes.{lexeme_at}
use Rattle.hsail_reader.specs.TextTokens.{PlacedToken, placed, kept, line_behind}
use Rattle.hsail_reader.specs.declared.fault.Flaw.TheVariants as flaw
use Rattle.hsail_reader.specs.Nouns.{Lexeme, PlacedFlaw}
use Rattle.hsail_reader.specs.declared.token.Token.{Token}

-- a token of the code
abbrev pub token_view : Token → PlacedToken
token_view t = placed t.kind t.text.now t.place t.line

abbrev pub token_views : List Token → List PlacedToken
token_views ts = map token_view ts

-- how many bytes of a lexeme stand behind its first
abbrev pub further : Option Lexeme → ℕ
further None = 0
further (Some found) = found.length - 1

-- the lexeme at this place, before the tokens behind it
abbrev pub before_rest : Option Lexeme → List ℕ → ℕ → ℕ → Result (List PlacedToken) PlacedFlaw → Result (List PlacedToken) PlacedFlaw
before_rest None bytes place line rest = Err (placed_flaw (Some place) flaw.Lexeme)
before_rest (Some found) bytes place line rest =
    with_front (kept found.kind (take found.length bytes) place line) rest

-- the tokens of the bytes, of which the first `skip` belong to a lexeme that began before
abbrev pub tokens_from : ℕ → ℕ → ℕ → List ℕ → Result (List PlacedToken) PlacedFlaw
tokens_from skip place line [] = Ok []
tokens_from (suc skip) place line (b ∷ bytes) = tokens_from skip (place + 1) (line_behind line b) bytes
tokens_from zero place line (b ∷ bytes) =
    before_rest (lexeme_at (b ∷ bytes)) (b ∷ bytes) place line
    (tokens_from (further (lexeme_at (b ∷ bytes))) (place + 1) (line_behind line b) bytes)

-- the tokens of a text
abbrev pub tokens_of : List ℕ → Result (List PlacedToken) PlacedFlaw
tokens_of text = tokens_from 0 0 1 text
