-- What it is for an instruction to be of a row of the table: it does what the row does, with modifiers that the row
-- allows, a type that the row has, and the operands that the row has at their places, each at the type that the row
-- gives it (PRM, the chapters on instructions; which rows there are is (own)).
use Rattle.std.specs.Prelude.{◌≡◌, true}
use Rattle.std.specs.List.{All, Contains}
use Rattle.hsail_reader.specs.Rows.{InstructionRow, allows, kind_at, rows, types_of}
use Rattle.hsail_reader.specs.Nouns.{DataType, Item, Module, Opcode, Operand, Operation, Shape, TypeSet, B1, Untyped}
use Rattle.hsail_reader.specs.declared.module.Item.TheVariants as an_item
use Rattle.hsail_reader.specs.declared.module.Operand.TheVariants as an_operand
use Rattle.hsail_reader.specs.declared.rows.Shape.TheVariants as shape

-- a type of the set; b1, where the set has none
abbrev pub HasType : TypeSet → DataType → Type 0
HasType Untyped t = t ≡ B1
HasType set t = Contains (types_of set) t

-- an operand as a row has it at its place, behind a word of a type
abbrev pub HasShape : Shape → DataType → Operand → Type 0
HasShape shape.Absent kind an_operand.Absent = Unit {0}
HasShape (shape.Target at) kind (an_operand.Target t) = t.kind ≡ kind_at at kind
HasShape (shape.Source at) kind (an_operand.Source s) = s.kind ≡ kind_at at kind
HasShape (shape.Address segment) kind (an_operand.Address a) = (a.segment ≡ segment) × (a.kind ≡ kind)
HasShape shape.Label kind (an_operand.Label x) = Unit {0}
HasShape shape.Dimension kind (an_operand.Dimension n) = Unit {0}
HasShape _ kind _ = ⊥

-- a word is of a row of the table
pub record IsRowWord (code : Opcode) : Type 0 where
  pub row : InstructionRow
  pub listed : Contains rows row
  pub form : row.form ≡ code.form
  pub modifiers : allows row.modifiers code.modifiers ≡ true
  pub type : HasType row.types code.kind
  pub operands : row.operands ≡ code.operands

-- an operation is of a row of the table
pub record IsOfRow (op : Operation) : Type 0 where
  pub row : InstructionRow
  pub listed : Contains rows row
  pub form : row.form ≡ op.form
  pub modifiers : allows row.modifiers op.modifiers ≡ true
  pub type : HasType row.types op.kind
  pub first : HasShape row.operands.0 op.kind op.operands.first
  pub second : HasShape row.operands.1 op.kind op.operands.second
  pub third : HasShape row.operands.2 op.kind op.operands.third
  pub fourth : HasShape row.operands.3 op.kind op.operands.fourth

-- an item of a kernel is no instruction, or its operation is of a row
abbrev pub IsItemOfRow : Item → Type 0
IsItemOfRow (an_item.Instruction i) = IsOfRow i.operation
IsItemOfRow _ = Unit {0}

-- all operations of a module are of rows
abbrev pub AreOfRows : Module → Type 0
AreOfRows m = All (λ k. All IsItemOfRow k.items) m.kernels
