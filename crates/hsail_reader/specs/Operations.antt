-- What an instruction says, as a contract sees it (PRM, HSAIL Instructions): what its row does, the modifiers and
-- the type of its word, b1 where it has none, and its operands in order.
use Rattle.hsail_reader.specs.declared.module.Operands.{Operands}
use Rattle.hsail_reader.specs.declared.rows.Form.{Form}
use Rattle.hsail_reader.specs.declared.types.DataType.{DataType}
use Rattle.hsail_reader.specs.declared.types.Modifiers.{Modifiers}

pub record Operation : Type 0 where
  pub form : Form
  pub modifiers : Modifiers
  pub kind : DataType
  pub operands : Operands

abbrev pub operation : Form → Modifiers → DataType → Operands → Operation
operation form modifiers kind operands =
    record { form = form; modifiers = modifiers; kind = kind; operands = operands }
