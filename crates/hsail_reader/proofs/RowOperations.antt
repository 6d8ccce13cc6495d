-- The word of an instruction is of a row of the table.
use Rattle.std.proofs.Common.{◌≡◌, List, [], ◌∷◌, ℕ, Some, ap}
use Rattle.hsail_reader.specs.RowOperations.{HasType, IsRowWord}
use Rattle.hsail_reader.specs.Terminals.{first_word, opcode_of, picked, word_kind}
use Rattle.hsail_reader.specs.TextTokens.{PlacedToken}
use Rattle.hsail_reader.specs.WordSpelling.{SpellsOpcode, SpellsType}
use Rattle.hsail_reader.specs.Nouns.{DataType, Opcode, TokenKind, TypeSet, Untyped}
use Rattle.hsail_reader.specs.declared.words.Word.TheVariants as words
use Rattle.hsail_reader.proofs.Terminals.{opcodes}

-- a type that is spelled is one of the set
has_type : (set : TypeSet) (t : DataType) (text : List ℕ) → SpellsType set t text → HasType set t
has_type Untyped t text s = s.1
has_type set t text s = s.1

-- a word that is spelled is of the row that spells it
pub row_word : (code : Opcode) (text : List ℕ) → SpellsOpcode code text → IsRowWord code
row_word code text (row, rest, listed, whole, (modifiers, type, parts, spelled, allowed, typed, form, operands)) = record {
  row = row;
  listed = listed;
  form = form;
  modifiers = allowed;
  type = has_type row.types code.kind type typed;
  operands = operands;
}

-- so the word that a token is read as is of a row
word_of_row : (kind : TokenKind) (text : List ℕ) (code : Opcode) → word_kind kind text ≡ Some (words.Instruction code) →
    IsRowWord code
word_of_row kind text code is = row_word code text ((opcodes code token).1 (ap (picked opcode_of) is)).1
  where
    token : PlacedToken
    token = record { kind = kind; text = text; place = 0; line = 0 }

-- so is the word of the first token
pub first_of_row : (tokens : List PlacedToken) (code : Opcode) → first_word tokens ≡ Some (words.Instruction code) → IsRowWord code
first_of_row [] code is = cc
first_of_row (t ∷ tokens) code is = word_of_row t.kind t.text code is
