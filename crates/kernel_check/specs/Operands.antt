-- What may be wrong with an operand at its type, whatever the names of its kernel (PRM, Operands; Registers).
use Rattle.std.specs.Prelude.{Bool, true, false, not, ◌||◌, nat_lt}
use Rattle.kernel_check.specs.Constants.{is_in_range}
use Rattle.hsail_reader.specs.Types.{type_class}
use Rattle.hsail_reader.specs.declared.module.Address.{Address}
use Rattle.hsail_reader.specs.declared.module.Address.TheVariants as address
use Rattle.hsail_reader.specs.declared.module.Operand.{Operand}
use Rattle.hsail_reader.specs.declared.module.Operand.TheVariants as operand
use Rattle.hsail_reader.specs.declared.module.Operands.{Operands}
use Rattle.hsail_reader.specs.declared.module.SegmentPlace.{SegmentPlace}
use Rattle.hsail_reader.specs.declared.module.SegmentPlace.TheVariants as place
use Rattle.hsail_reader.specs.declared.types.DataType.{DataType}
use Rattle.hsail_reader.specs.declared.types.Register.{Register}
use Rattle.hsail_reader.specs.declared.types.RegisterClass.{RegisterClass}
use Rattle.hsail_reader.specs.declared.types.RegisterClass.TheVariants.{Control, Single, Double}
use Rattle.hsail_reader.specs.declared.types.Source.{Source}
use Rattle.hsail_reader.specs.declared.types.Source.TheVariants as source
use Rattle.kernel_check.specs.Limits.{greatest_dimension, greatest_register}

abbrev pub is_same_class : RegisterClass → RegisterClass → Bool
is_same_class Control Control = true
is_same_class Single Single = true
is_same_class Double Double = true
is_same_class _ _ = false

-- a register of another class than its type's
abbrev pub is_of_other_class : DataType → Register → Bool
is_of_other_class kind r = not (is_same_class (type_class kind) r.class)

abbrev pub is_wrong_source : DataType → Source → Bool
is_wrong_source kind (source.Register r) = is_of_other_class kind r
is_wrong_source kind (source.Constant c) = false

-- an operand that is a register of another class than its type's
abbrev pub is_wrong : Operand → Bool
is_wrong (operand.Target t) = is_of_other_class t.kind t.register
is_wrong (operand.Source s) = is_wrong_source s.kind s.source
is_wrong _ = false

-- a register's number over 63
abbrev pub is_far : Register → Bool
is_far r = nat_lt greatest_register r.number

-- a register's number over 63, or a constant out of its type's range
abbrev pub is_over_source : DataType → Source → Bool
is_over_source kind (source.Register r) = is_far r
is_over_source kind (source.Constant c) = not (is_in_range kind c)

-- a register in brackets whose number is over 63
abbrev pub is_far_place : SegmentPlace → Bool
is_far_place (place.Absolute n) = false
is_far_place (place.Relative r) = is_far r.register

abbrev pub is_far_address : Address → Bool
is_far_address (address.Variable x) = false
is_far_address (address.Place p) = is_far_place p
is_far_address (address.Indexed i) = is_far_place i.place

-- an operand with a register's number over 63 or a constant out of its type's range, or a dimension over 2
abbrev pub is_over : Operand → Bool
is_over operand.Absent = false
is_over (operand.Target t) = is_far t.register
is_over (operand.Source s) = is_over_source s.kind s.source
is_over (operand.Address a) = is_far_address a.address
is_over (operand.Label x) = false
is_over (operand.Dimension n) = nat_lt greatest_dimension n

-- some operand passes a test
abbrev pub any_operand : (Operand → Bool) → Operands → Bool
any_operand test o = test o.first || test o.second || test o.third || test o.fourth
