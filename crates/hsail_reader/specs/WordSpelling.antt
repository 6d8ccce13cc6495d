-- How words are spelled: `module`, `prog` and `kernel`, align(n), `kernarg_` or `group_` and a type; and of an
-- instruction the stem of its row, the modifiers that its row allows, and a type of its row's where it has
-- any (PRM, HSAIL Syntax and Semantics; the places of the modifiers are (own)).
use Rattle.std.specs.Prelude.{◌≡◌, ℕ, ◌^◌, ◌<◌, ◌⊎◌, List, [], ◌++◌, Bool, true, false, codes}
use Rattle.std.specs.List.{Contains}
use Rattle.std.specs.Str.Parse.{digits_value}
use Rattle.hsail_reader.specs.Rows.{InstructionRow, ModifierSpelling, allows, modifier_rows, rows, types_of, type_name, with_number}
use Rattle.hsail_reader.specs.Spelling.{IsDecimal, IsHexadecimal}
use Rattle.hsail_reader.specs.Nouns.{DataType, Modifier, ModifierEnd, Modifiers, Opcode, TypeSet, Word, B1, Memory, Untyped}
use Rattle.hsail_reader.specs.declared.rows.ModifierEnd.TheVariants as end
use Rattle.hsail_reader.specs.declared.types.Modifiers.TheVariants as modifiers
use Rattle.hsail_reader.specs.declared.words.Word.TheVariants as word

-- a decimal number that is n
abbrev pub SpellsDecimal : ℕ → List ℕ → Type 0
SpellsDecimal n text = IsDecimal text × (n ≡ digits_value 10 text)

-- 0x and a hexadecimal number that is n
abbrev pub SpellsHexadecimal : ℕ → List ℕ → Type 0
SpellsHexadecimal n text =
    IsHexadecimal text × ((digits : List ℕ) × (text ≡ codes "0x" ++ digits) × (n ≡ digits_value 16 digits))

-- a whole number of at most 64 bits, decimal or hexadecimal
abbrev pub SpellsNumber : ℕ → List ℕ → Type 0
SpellsNumber n text = (n < 2 ^ 64) × (SpellsDecimal n text ⊎ SpellsHexadecimal n text)

-- align(n)
abbrev pub SpellsAlign : ℕ → List ℕ → Type 0
SpellsAlign n text = (inside : List ℕ) × (text ≡ codes "align(" ++ (inside ++ codes ")")) × SpellsNumber n inside

-- behind the text of a modifier's row: nothing, or a number and the other bracket
abbrev pub SpellsEnd : ModifierEnd → Modifier → List ℕ → Type 0
SpellsEnd (end.Whole m) x text = (text ≡ []) × (x ≡ m)
SpellsEnd (end.Number k) x text =
    (n : ℕ) × (number : List ℕ) × (text ≡ number ++ codes ")") × SpellsNumber n number × (x ≡ with_number k n)

-- a modifier, as one of some rows spells it
abbrev pub SpellsModifier : List ModifierSpelling → Modifier → List ℕ → Type 0
SpellsModifier rows m text =
    (row : ModifierSpelling) × (rest : List ℕ) × Contains rows row × (text ≡ row.text ++ rest) × SpellsEnd row.end m rest

-- modifiers, one behind the other
abbrev pub SpellsModifiers : Modifiers → List ℕ → Type 0
SpellsModifiers modifiers.Plain text = text ≡ []
SpellsModifiers (modifiers.One m) text = SpellsModifier modifier_rows m text
SpellsModifiers (modifiers.Two m n) text =
    (first : List ℕ) × (second : List ℕ) × (text ≡ first ++ second)
    × SpellsModifier modifier_rows m first × SpellsModifier modifier_rows n second

-- `_` and a type of the set; or nothing, where there are no types, and b1 for it
abbrev pub SpellsType : TypeSet → DataType → List ℕ → Type 0
SpellsType Untyped t text = (text ≡ []) × (t ≡ B1)
SpellsType set t text = (text ≡ codes "_" ++ type_name t) × Contains (types_of set) t

-- what stands behind the stem of a row: modifiers that it allows, and a type that it has; the row says what it
-- does and which operands it has
abbrev pub SpellsBehindStem : InstructionRow → Opcode → List ℕ → Type 0
SpellsBehindStem row code text =
    (modifiers : List ℕ) × (type : List ℕ) × (text ≡ modifiers ++ type)
    × SpellsModifiers code.modifiers modifiers × (allows row.modifiers code.modifiers ≡ true)
    × SpellsType row.types code.kind type × (row.form ≡ code.form) × (row.operands ≡ code.operands)

-- the word of an instruction: a row of the table spells it
abbrev pub SpellsOpcode : Opcode → List ℕ → Type 0
SpellsOpcode code text =
    (row : InstructionRow) × (rest : List ℕ) × Contains rows row × (text ≡ row.stem ++ rest)
    × SpellsBehindStem row code rest

-- the word that a text spells, of those that stand in a module
abbrev pub SpellsWord : Word → List ℕ → Type 0
SpellsWord word.Module text = text ≡ codes "module"
SpellsWord word.Prog text = text ≡ codes "prog"
SpellsWord word.Kernel text = text ≡ codes "kernel"
SpellsWord (word.Align n) text = SpellsAlign n text
SpellsWord (word.Argument t) text = (text ≡ codes "kernarg_" ++ type_name t) × Contains (types_of Memory) t
SpellsWord (word.GroupVariable t) text = (text ≡ codes "group_" ++ type_name t) × Contains (types_of Memory) t
SpellsWord (word.Instruction code) text = SpellsOpcode code text
SpellsWord word.Outside text = ⊥
SpellsWord word.Unknown text = ⊥

-- the words that stand somewhere in a module
abbrev pub stands_in_modules : Word → Bool
stands_in_modules word.Outside = false
stands_in_modules word.Unknown = false
stands_in_modules _ = true
