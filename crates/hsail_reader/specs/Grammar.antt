-- The grammar of kernel text: which tokens spell a module, line by line as the format has it (PRM, HSAIL
-- Syntax and Semantics; what may be left out is (own)). Read it from the bottom: a module, a kernel, an
-- argument, an item, an instruction. In a line `do` stands one behind the other what the text has; x ← g is a
-- g that stands for x, and the last line says what the whole stands for. Single tokens stand in `Terminals`.
use Rattle.std.specs.Prelude.{ℕ, ◌≤◌, List, [], ◌∷◌, Bool, true, false, Option, Some, None, Result, Ok, Err, length}
use Rattle.hsail_reader.specs.Grammars.{Grammar, give, either, many, on_line, spells, begins}
use Rattle.hsail_reader.specs.Terminals.{◌>>=◌, ◌>>◌, optional, open_parenthesis, close_parenthesis, open_bracket, close_bracket, open_brace, close_brace, plus, minus, comma, colon, semicolon, register, number, global, variable, label, major, minor, profile, large, rounding, module_word, prog, kernel_word, align, kernarg, group, opcode, syntax, at_begin, behind_align}
use Rattle.hsail_reader.specs.TextTokens.{AreTokens, PlacedToken}
use Rattle.hsail_reader.specs.Rows.{kind_at}
use Rattle.hsail_reader.specs.Nouns.{Address, Alignment, Argument, Constant, DataType, Fields, Flaw, Item, Kernel, Module, Opcode, Operand, Operation, SegmentPlace, ReadError, Shape, Source}
use Rattle.hsail_reader.specs.declared.fault.ReadError.TheVariants as error
use Rattle.hsail_reader.specs.declared.module.Address.TheVariants as addresses
use Rattle.hsail_reader.specs.declared.module.Item.TheVariants as an_item
use Rattle.hsail_reader.specs.declared.module.Operand.TheVariants as an_operand
use Rattle.hsail_reader.specs.declared.module.SegmentPlace.TheVariants as places
use Rattle.hsail_reader.specs.declared.rows.Shape.TheVariants as shape
use Rattle.hsail_reader.specs.declared.types.Source.TheVariants as sources
use Rattle.hsail_reader.specs.Limits.{most_text_bytes}

-- a number, with the sign that stood before it
unfoldable pub signed : Bool → Grammar Constant
signed negative = do
  n ← number
  give (record { negative = negative; magnitude = n })

-- a constant: - n, + n or n
unfoldable pub constant : Grammar Constant
constant = either (minus >> signed true) (either (plus >> signed false) (signed false))

-- a source: a register or a constant
unfoldable pub source : Grammar Source
source = either (register >>= λ r. give (sources.Register r)) (constant >>= λ c. give (sources.Constant c))

abbrev pub no_offset : Constant
no_offset = record { negative = false; magnitude = 0 }

-- what is added to a register: - n, + n, or nothing, which stands for + 0
unfoldable pub offset : Grammar Constant
offset = either (minus >> signed true) (either (plus >> signed false) (give no_offset))

-- a place: n, r, r+n or r-n, for a register r of any class (the check asks for the class)
unfoldable pub place : Grammar SegmentPlace
place = either (number >>= λ n. give (places.Absolute n)) (do
  r ← register
  o ← offset
  give (places.Relative (record { register = r; offset = o })))

-- place ], behind its opening bracket
unfoldable pub place_inside : Grammar SegmentPlace
place_inside = do
  p ← place
  close_bracket
  give p

-- behind [%x]: [place], or nothing
unfoldable pub index : List ℕ → Grammar Address
index x = either (do
  open_bracket
  p ← place_inside
  give (addresses.Indexed (record { variable = x; place = p }))) (give (addresses.Variable x))

-- behind its opening bracket: %x ] and an index, or place ]
unfoldable pub address_inside : Grammar Address
address_inside = either (do
  x ← variable
  close_bracket
  index x) (place_inside >>= λ p. give (addresses.Place p))

-- an address: [%x], [%x][place] or [place]
unfoldable pub address : Grammar Address
address = open_bracket >> address_inside

-- an operand as a row has it, behind a word of a type (the check asks for registers' classes and numbers, for
-- the range of constants, and that a dimension is 0, 1 or 2)
abbrev pub operand : Shape → DataType → Grammar Operand
operand shape.Absent kind = give an_operand.Absent
operand (shape.Target at) kind =
    register >>= λ r. give (an_operand.Target (record { kind = kind_at at kind; register = r }))
operand (shape.Source at) kind =
    source >>= λ s. give (an_operand.Source (record { kind = kind_at at kind; source = s }))
operand (shape.Address segment) kind =
    address >>= λ a. give (an_operand.Address (record { segment = segment; kind = kind; address = a }))
operand shape.Label kind = label >>= λ x. give (an_operand.Label x)
operand shape.Dimension kind = number >>= λ n. give (an_operand.Dimension n)

-- an operand behind a comma, where the row has one
abbrev pub next_operand : Shape → DataType → Grammar Operand
next_operand shape.Absent kind = give an_operand.Absent
next_operand s kind = comma >> operand s kind

-- the operation of an opcode with these operands
abbrev pub operation_with : Opcode → Operand → Operand → Operand → Operand → Operation
operation_with code a b c d = record {
  form = code.form;
  modifiers = code.modifiers;
  kind = code.kind;
  operands = record { first = a; second = b; third = c; fourth = d };
}

-- the operands of a row, with commas between
unfoldable pub operands : Opcode → Grammar Operation
operands code = do
  a ← operand code.operands.0 code.kind
  b ← next_operand code.operands.1 code.kind
  c ← next_operand code.operands.2 code.kind
  d ← next_operand code.operands.3 code.kind
  give (operation_with code a b c d)

-- a label: @name :
unfoldable pub labelled : Grammar Item
labelled = on_line λ line. do
  x ← label
  colon
  give (an_item.Label (record { line = line; name = x }))

-- an instruction: its word, its operands and ;
unfoldable pub performed : Grammar Item
performed = on_line λ line. do
  code ← opcode
  x ← operands code
  semicolon
  give (an_item.Instruction (record { line = line; operation = x }))

-- behind the name of a group variable: [n], or nothing
unfoldable pub extent : Grammar (Option ℕ)
extent = either (do
  open_bracket
  n ← number
  close_bracket
  give (Some n)) (give None)

-- %name, [n] which may be absent, and ; behind align(n) and group_T
unfoldable pub declared : ℕ → Option Alignment → DataType → Grammar Item
declared line a kind = do
  x ← variable
  n ← extent
  semicolon
  give (an_item.Variable (record { line = line; align = a; kind = kind; name = x; length = n }))

-- group_T %name, [n] and ; behind align(n)
unfoldable pub aligned : ℕ → Alignment → Grammar Item
aligned line a = group behind_align >>= declared line (Some a)

-- a variable of the group segment without align(n), or an instruction
unfoldable pub plain : Grammar Item
plain = either (on_line λ line. group at_begin >>= declared line None) performed

-- an item that begins with no label: a variable of the group segment, or an instruction
unfoldable pub unlabelled : Grammar Item
unlabelled = either (on_line λ line. align >>= aligned line) plain

-- an item of a kernel
unfoldable pub item : Grammar Item
item = either labelled unlabelled

-- { and items
unfoldable pub items : Grammar (List Item)
items = open_brace >> many (begins close_brace) item

-- { items } and ; which may be absent
unfoldable pub body : Grammar (List Item)
body = do
  xs ← items
  close_brace
  optional semicolon
  give xs

-- align(n), which may be absent
unfoldable pub alignment : Grammar (Option Alignment)
alignment = either (align >>= λ a. give (Some a)) (give None)

-- the flaw of a token that isn't kernarg_T, behind align(n) or where none stands
abbrev pub kernarg_flaw : Option Alignment → PlacedToken → Flaw
kernarg_flaw None = at_begin
kernarg_flaw (Some a) = behind_align

-- an argument: align(n), which may be absent, kernarg_T %name
unfoldable pub argument : Grammar Argument
argument = on_line λ line. do
  a ← alignment
  kind ← kernarg (kernarg_flaw a)
  x ← variable
  give (record { line = line; align = a; kind = kind; name = x })

-- an argument behind a comma
unfoldable pub next_argument : Grammar Argument
next_argument = comma >> argument

-- arguments with commas between, one at least
unfoldable pub some_arguments : Grammar (List Argument)
some_arguments = do
  x ← argument
  xs ← many (begins close_parenthesis) next_argument
  give (x ∷ xs)

-- ( ) or ( arguments )
unfoldable pub signature : Grammar (List Argument)
signature = open_parenthesis >> either (close_parenthesis >> give []) (do
  xs ← some_arguments
  close_parenthesis
  give xs)

-- `prog kernel` or `kernel`
unfoldable pub kernel_begin : Grammar (Unit {0})
kernel_begin = either (prog >> kernel_word syntax) (kernel_word at_begin)

-- a kernel: prog, which may be absent, kernel &name ( arguments ) { items } and ; which may be absent
unfoldable pub kernel : Grammar Kernel
kernel = on_line λ line. do
  kernel_begin
  x ← global
  arguments ← signature
  xs ← body
  give (record { line = line; name = x; arguments = arguments; items = xs })

abbrev pub is_none_left : List PlacedToken → Bool
is_none_left [] = true
is_none_left (t ∷ tokens) = false

-- ; and kernels to the end of the text
unfoldable pub kernels : Grammar (List Kernel)
kernels = semicolon >> many is_none_left kernel

-- a field of the module's line
abbrev pub field : {X : Type 0} → Grammar X → Grammar X
field g = colon >> g

-- : 1 : minor : profile : $large : round
unfoldable pub fields : Grammar Fields
fields = do
  field major
  n ← field minor
  p ← field profile
  field large
  r ← field rounding
  give (record { minor = n; profile = p; rounding = r })

abbrev pub whole_module : List ℕ → Fields → List Kernel → Module
whole_module name fields kernels = record {
  name = name;
  minor = fields.minor;
  profile = fields.profile;
  rounding = fields.rounding;
  kernels = kernels;
}

-- a module: module &name : 1 : minor : profile : $large : round ; and kernels
unfoldable pub module_text : Grammar Module
module_text = do
  module_word
  x ← global
  f ← fields
  ks ← kernels
  give (whole_module x f ks)

-- the tokens spell the module, to the end
abbrev pub SpellModule : List PlacedToken → Module → Type 0
SpellModule tokens m = spells module_text m tokens []

-- The text spells the module: it has at most 65,536 bytes, and its tokens spell it.
unfoldable pub IsTextOf : List ℕ → Module → Type 0
IsTextOf text m =
    (length text ≤ most_text_bytes) × ((tokens : List PlacedToken) × AreTokens 0 1 text tokens × SpellModule tokens m)

-- What may be answered: a module for a text of it, a fault for a text of no module, want of memory for
-- any text.
abbrev pub AnswersByGrammar : List ℕ → Result Module ReadError → Type 0
AnswersByGrammar text (Ok m) = IsTextOf text m
AnswersByGrammar text (Err error.OutOfMemory) = Unit {0}
AnswersByGrammar text (Err (error.Fault f)) = (m : Module) → IsTextOf text m → ⊥
