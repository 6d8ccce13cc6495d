-- By which causes an item of a module fails (own; the classes of registers: PRM, Registers; the forms of
-- addresses: PRM, Address Expressions). What a name stands for is given by functions of the name.
use Rattle.std.specs.Prelude.{ℕ, List, Bool, true, false, not, ◌&&◌, ◌||◌, ◌==◌, nat_lt, nat_le, Option, Some, None, is_some, is_none, length}
use Rattle.kernel_check.specs.Layout.{end_behind, group_end_behind}
use Rattle.kernel_check.specs.Names.{Known, find}
use Rattle.kernel_check.specs.Operands.{any_operand, is_same_class, is_wrong, is_over}
use Rattle.kernel_check.specs.Steps.{forms_of}
use Rattle.kernel_check.specs.declared.fault.CheckCause.{CheckCause}
use Rattle.kernel_check.specs.declared.fault.CheckCause.TheVariants.{UnknownLabel, DoubleName, WrongRegister, WrongType, UnknownArgument, TooLarge, BadAddress}
use Rattle.kernel_check.specs.declared.layout.Placed.{Placed}
use Rattle.hsail_reader.specs.Types.{type_bits}
use Rattle.hsail_reader.specs.declared.module.Address.{Address}
use Rattle.hsail_reader.specs.declared.module.Address.TheVariants as address
use Rattle.hsail_reader.specs.declared.module.Argument.{Argument}
use Rattle.hsail_reader.specs.declared.module.GroupVariable.{GroupVariable}
use Rattle.hsail_reader.specs.declared.module.Operand.{Operand}
use Rattle.hsail_reader.specs.declared.module.Operand.TheVariants as operand
use Rattle.hsail_reader.specs.declared.module.Operation.{Operation}
use Rattle.hsail_reader.specs.declared.module.SegmentPlace.{SegmentPlace}
use Rattle.hsail_reader.specs.declared.module.SegmentPlace.TheVariants as place
use Rattle.kernel_check.specs.declared.step.AddressForms.{AddressForms}
use Rattle.hsail_reader.specs.declared.types.DataType.{DataType}
use Rattle.hsail_reader.specs.declared.types.RegisterClass.{RegisterClass}
use Rattle.hsail_reader.specs.declared.types.Segment.{Segment}
use Rattle.hsail_reader.specs.declared.types.Segment.TheVariants as segment
use Rattle.kernel_check.specs.Limits.{most_argument_bytes, most_group_bytes, most_instructions, most_kernels}

-- the label of a branch that the kernel doesn't have
abbrev pub misses_label : (List ℕ → Option ℕ) → Operand → Bool
misses_label labels (operand.Label x) = is_none (labels x)
misses_label labels _ = false

abbrev pub is_same_segment : Segment → Segment → Bool
is_same_segment segment.Kernarg segment.Kernarg = true
is_same_segment segment.Global segment.Global = true
is_same_segment segment.Group segment.Group = true
is_same_segment _ _ = false

-- an argument of another width
abbrev pub differs : DataType → Option Placed → Bool
differs kind None = false
differs kind (Some p) = is_same_segment segment.Kernarg p.segment && not (type_bits p.kind == type_bits kind)

-- a variable of another segment
abbrev pub lies_elsewhere : Segment → Option Placed → Bool
lies_elsewhere s None = false
lies_elsewhere s (Some p) = not (is_same_segment s p.segment)

abbrev pub is_of_other_width : (List ℕ → Option Placed) → DataType → Segment → Address → Bool
is_of_other_width variables kind segment.Kernarg (address.Variable x) = differs kind (variables x)
is_of_other_width variables kind _ _ = false

-- an access to an argument by a type of another width
abbrev pub has_wrong_type : (List ℕ → Option Placed) → Operand → Bool
has_wrong_type variables (operand.Address a) = is_of_other_width variables a.kind a.segment a.address
has_wrong_type variables _ = false

-- a variable in brackets that the kernel doesn't declare
abbrev pub names_unknown : (List ℕ → Option Placed) → Address → Bool
names_unknown variables (address.Variable x) = is_none (variables x)
names_unknown variables (address.Indexed i) = is_none (variables i.variable)
names_unknown variables (address.Place p) = false

abbrev pub misses_argument : (List ℕ → Option Placed) → Operand → Bool
misses_argument variables (operand.Address a) = names_unknown variables a.address
misses_argument variables _ = false

-- a place that isn't counted from a register of the base's class; or any, where there is no base
abbrev pub is_bad_place : Option RegisterClass → SegmentPlace → Bool
is_bad_place None p = true
is_bad_place (Some class) (place.Absolute n) = false
is_bad_place (Some class) (place.Relative r) = not (is_same_class class r.register.class)

-- an address whose form isn't one of these, or with a variable of another segment
abbrev pub is_bad_form : (List ℕ → Option Placed) → Segment → AddressForms → Address → Bool
is_bad_form variables s forms (address.Variable x) = not forms.variable || lies_elsewhere s (variables x)
is_bad_form variables s forms (address.Place p) = is_bad_place forms.base p
is_bad_form variables s forms (address.Indexed i) =
    not forms.indexed || lies_elsewhere s (variables i.variable) || is_bad_place forms.base i.place

-- an address that its segment doesn't have
abbrev pub is_bad : (List ℕ → Option Placed) → Segment → Address → Bool
is_bad variables s a = is_bad_form variables s (forms_of s) a

abbrev pub has_bad_address : (List ℕ → Option Placed) → Operand → Bool
has_bad_address variables (operand.Address a) = is_bad variables a.segment a.address
has_bad_address variables _ = false

-- by which causes an instruction with these operands fails that stands behind these variables and these many
-- instructions: an operand fails, or there are more than 4,096 instructions
abbrev pub instruction_fails : (List ℕ → Option Placed) → (List ℕ → Option ℕ) → ℕ → Operation → CheckCause → Bool
instruction_fails variables labels number op UnknownLabel = any_operand (misses_label labels) op.operands
instruction_fails variables labels number op DoubleName = false
instruction_fails variables labels number op WrongRegister = any_operand is_wrong op.operands
instruction_fails variables labels number op WrongType = any_operand (has_wrong_type variables) op.operands
instruction_fails variables labels number op UnknownArgument = any_operand (misses_argument variables) op.operands
instruction_fails variables labels number op TooLarge = nat_le most_instructions number || any_operand is_over op.operands
instruction_fails variables labels number op BadAddress = any_operand (has_bad_address variables) op.operands

-- by which causes a label fails that stands behind these
abbrev pub label_fails : Known ℕ → List ℕ → CheckCause → Bool
label_fails before name DoubleName = is_some (find before name)
label_fails before name _ = false

-- by which causes an argument fails that stands behind these, which end there
abbrev pub argument_fails : Known Placed → ℕ → Argument → CheckCause → Bool
argument_fails before end a DoubleName = is_some (find before a.name)
argument_fails before end a TooLarge = nat_lt most_argument_bytes (end_behind end a)
argument_fails before end a _ = false

-- by which causes a group variable fails that stands behind these variables, the last of which in group memory
-- ends there
abbrev pub variable_fails : Known Placed → ℕ → GroupVariable → CheckCause → Bool
variable_fails before end v DoubleName = is_some (find before v.name)
variable_fails before end v TooLarge = nat_lt most_group_bytes (group_end_behind end v)
variable_fails before end v _ = false

-- by which causes the head of a kernel fails that stands behind these kernels
abbrev pub kernel_fails : Known ℕ → List ℕ → CheckCause → Bool
kernel_fails before name DoubleName = is_some (find before name)
kernel_fails before name TooLarge = nat_le most_kernels (length before)
kernel_fails before name _ = false
