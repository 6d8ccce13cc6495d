-- How a text is read as a word (PRM, the chapters on instructions; the places of the modifiers are (own)).
-- What spells each word stands in `WordSpelling`.
use Rattle.std.specs.Prelude.{ℕ, List, [], ◌∷◌, Bool, true, false, ◌==◌, if◌then◌else◌, Option, Some, None, codes, drop, length}
use Rattle.std.specs.Option.{option_map}
use Rattle.hsail_reader.specs.Bytes.{behind, first_of, align_at, numeral_at, ◌>>=◌}
use Rattle.hsail_reader.specs.Rows.{InstructionRow, ModifierSpelling, allows, modifier_rows, rows, types_of, type_name, with_number}
use Rattle.hsail_reader.specs.Nouns.{Alignment, DataType, Form, Modifier, ModifierEnd, Modifiers, Opcode, Prefix, Shapes, TypeSet, Word, B1, Eight, Four, Memory, One, Sixteen, Two, Untyped}
use Rattle.hsail_reader.specs.declared.rows.ModifierEnd.TheVariants as end
use Rattle.hsail_reader.specs.declared.types.Modifiers.TheVariants as modifiers
use Rattle.hsail_reader.specs.declared.words.Word.TheVariants as word

-- nothing stands behind
abbrev pub is_end : Option (List ℕ) → Bool
is_end None = false
is_end (Some []) = true
is_end (Some (b ∷ bytes)) = false

abbrev pub is_spelled : List ℕ → List ℕ → Bool
is_spelled spelling text = is_end (behind spelling text)

-- the first of some types that is spelled so
abbrev pub type_among : List DataType → List ℕ → Option DataType
type_among types text = first_of (λ t text. if is_spelled (type_name t) text then Some t else None) types text

-- `_` and a type of the set, to the end of the word; or nothing, where there are no types, and b1 for it
abbrev pub type_at : TypeSet → List ℕ → Option DataType
type_at Untyped [] = Some B1
type_at set bytes = behind (codes "_") bytes >>= type_among (types_of set)

-- the bracket behind a number, and the modifier with that number
abbrev pub closed_at : Modifier → List ℕ → Prefix ℕ → Option (Modifier × List ℕ)
closed_at k rest n = option_map (λ after. (with_number k n.value, after)) (behind (codes ")") (drop n.length rest))

-- what stands behind the text of a modifier's row, and what stands behind the modifier
abbrev pub ended_at : ModifierEnd → List ℕ → Option (Modifier × List ℕ)
ended_at (end.Whole m) rest = Some (m, rest)
ended_at (end.Number k) rest = numeral_at rest >>= closed_at k rest

-- a modifier at the front as a row of the table spells it
abbrev pub modifier_by : ModifierSpelling → List ℕ → Option (Modifier × List ℕ)
modifier_by row bytes = behind row.text bytes >>= ended_at row.end

abbrev pub modifier_among : List ModifierSpelling → List ℕ → Option (Modifier × List ℕ)
modifier_among spellings bytes = first_of modifier_by spellings bytes

-- a modifier at the front, if one stands there, and what stands behind it
abbrev pub modifier_at : List ℕ → Option (Modifier × List ℕ)
modifier_at bytes = modifier_among modifier_rows bytes

abbrev pub second_behind : Modifier → Option (Modifier × List ℕ) → List ℕ → Modifiers × List ℕ
second_behind first None rest = (modifiers.One first, rest)
second_behind first (Some second) rest = (modifiers.Two first second.0, second.1)

abbrev pub first_behind : Option (Modifier × List ℕ) → List ℕ → Modifiers × List ℕ
first_behind None bytes = (modifiers.Plain, bytes)
first_behind (Some first) bytes = second_behind first.0 (modifier_at first.1) first.1

-- the modifiers at the front, two at most, and what stands behind them
abbrev pub modifiers_at : List ℕ → Modifiers × List ℕ
modifiers_at bytes = first_behind (modifier_at bytes) bytes

abbrev pub opcode : Form → Shapes → Modifiers → DataType → Opcode
opcode form operands modifiers kind =
    record { form = form; modifiers = modifiers; kind = kind; operands = operands }

-- the rest of a word behind the stem of a row: the modifiers that the row allows, and its type
abbrev pub opcode_behind : InstructionRow → Modifiers × List ℕ → Option Opcode
opcode_behind row m =
    if allows row.modifiers m.0 then option_map (opcode row.form row.operands m.0) (type_at row.types m.1) else None

abbrev pub opcode_at : InstructionRow → List ℕ → Option Opcode
opcode_at row rest = opcode_behind row (modifiers_at rest)

-- the word of an instruction, by the first of some rows that spells it
abbrev pub opcode_among : List InstructionRow → List ℕ → Option Opcode
opcode_among rows text = first_of (λ r text. behind r.stem text >>= opcode_at r) rows text

-- the word of an instruction, by the first row of the table that spells it
unfoldable pub instruction_at : List ℕ → Option Opcode
instruction_at text = opcode_among rows text

-- the n of align(n) before a variable
abbrev pub alignment_of : ℕ → Option Alignment
alignment_of n =
    if n == 1 then Some One else if n == 2 then Some Two else if n == 4 then Some Four
    else if n == 8 then Some Eight else if n == 16 then Some Sixteen else None

-- the word of a variable of a segment, by the type behind its front
abbrev pub variable_word : (DataType → Word) → Option DataType → Word
variable_word spelled None = word.Outside
variable_word spelled (Some t) = spelled t

abbrev pub instruction_word : Option Opcode → Word
instruction_word None = word.Unknown
instruction_word (Some code) = word.Instruction code

-- a word that isn't align(n) nor of an argument
abbrev pub later_word : Option (List ℕ) → List ℕ → Word
later_word (Some rest) text = variable_word word.GroupVariable (type_among (types_of Memory) rest)
later_word None text = instruction_word (instruction_at text)

-- a word that isn't align(n)
abbrev pub other_word : Option (List ℕ) → List ℕ → Word
other_word (Some rest) text = variable_word word.Argument (type_among (types_of Memory) rest)
other_word None text = later_word (behind (codes "group_") text) text

abbrev pub named_word : Option (Prefix ℕ) → List ℕ → Word
named_word (Some n) text = if n.length == length text then word.Align n.value else word.Unknown
named_word None text = other_word (behind (codes "kernarg_") text) text

-- what a word is
unfoldable pub word_of : List ℕ → Word
word_of text =
    if is_spelled (codes "module") text then word.Module
    else if is_spelled (codes "prog") text then word.Prog
    else if is_spelled (codes "kernel") text then word.Kernel
    else named_word (align_at text) text
