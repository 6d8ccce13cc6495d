-- Which whole texts are words: names with modifiers inside or at their end, and align(n)
-- (PRM, Source Text Format; that modifiers belong to a word is (own)).
use Rattle.std.specs.Prelude.{◌≡◌, ℕ, ◌⊎◌, List, [], ◌∷◌, ◌++◌, true}
use Rattle.hsail_reader.specs.Spelling.{is_name_byte, is_name_start}
use Rattle.hsail_reader.specs.Rows.{bracketed_rows}
use Rattle.hsail_reader.specs.WordSpelling.{SpellsAlign, SpellsModifier}
use Rattle.hsail_reader.specs.Nouns.{Modifier}

abbrev pub IsAlign : List ℕ → Type 0
IsAlign text = (n : ℕ) × SpellsAlign n text

-- a modifier with brackets
abbrev pub IsModifier : List ℕ → Type 0
IsModifier text = (m : Modifier) × SpellsModifier bracketed_rows m text

-- the parts of a name behind its first byte: its bytes, and modifiers between them
pub data ArePieces : List ℕ → Type 0 where
  none : ArePieces []
  byte : (b : ℕ) (rest : List ℕ) → is_name_byte b ≡ true → ArePieces rest → ArePieces (b ∷ rest)
  modifier : (m rest text : List ℕ) → IsModifier m → text ≡ m ++ rest → ArePieces rest → ArePieces text

-- a name, with modifiers inside or at its end
abbrev pub IsModifiedName : List ℕ → Type 0
IsModifiedName [] = ⊥
IsModifiedName (b ∷ rest) = (is_name_start b ≡ true) × ArePieces rest

abbrev pub IsWord : List ℕ → Type 0
IsWord text = IsModifiedName text ⊎ IsAlign text
