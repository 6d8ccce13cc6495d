-- What a checked kernel is.
use Rattle.std.specs.Prelude.{◌≡◌, ℕ, ◌+◌, ◌*◌, ◌^◌, ◌<◌, ◌≤◌, ◌==◌, Bool, true, false, if◌then◌else◌, List, [], ◌∷◌, length, map}
use Rattle.std.specs.List.{All, Contains}
use Rattle.kernel_check.specs.Steps.{number_bytes}
use Rattle.kernel_check.specs.declared.step.AnyRegister.{AnyRegister}
use Rattle.kernel_check.specs.declared.step.AnyRegister.TheVariants as register
use Rattle.kernel_check.specs.declared.step.AnySource.{AnySource}
use Rattle.kernel_check.specs.declared.step.AnySource.TheVariants as any
use Rattle.kernel_check.specs.declared.step.LinedStep.{LinedStep}
use Rattle.kernel_check.specs.declared.step.NumberType.{NumberType}
use Rattle.kernel_check.specs.declared.step.NumberType.TheVariants as number
use Rattle.kernel_check.specs.declared.step.Source.TheVariants as source
use Rattle.kernel_check.specs.declared.step.Step.{Step}
use Rattle.kernel_check.specs.declared.step.Step.TheVariants as step
use Rattle.hsail_reader.specs.declared.types.RegisterClass.{RegisterClass}
use Rattle.hsail_reader.specs.declared.types.RegisterClass.TheVariants as class
use Rattle.hsail_reader.specs.declared.types.WorkItemQuery.{WorkItemQuery}
use Rattle.hsail_reader.specs.declared.types.WorkItemQuery.TheVariants as query
use Rattle.kernel_check.specs.Limits.{most_argument_bytes, most_group_bytes, most_instructions}

-- a kernel's name, the bytes of its argument block and of its group variables, the offsets of its arguments of
-- 64 bits, its steps, and the lines that they stand on
pub record Program : Type 0 where
  pub name : List ℕ
  pub argument_bytes : ℕ
  pub group_bytes : ℕ
  pub wide : List ℕ
  pub steps : List Step
  pub lines : List ℕ

-- a constant of 8, 16 or 32 bits lies in them; one of 1 or of 64 bits does by the type of its source
abbrev pub FitsIn : NumberType → AnySource → Type 0
FitsIn kind (any.Single (source.Constant n)) = n < 2 ^ (8 * number_bytes kind)
FitsIn kind _ = Unit {0}

-- a step leads to none behind the closing brace, reads no byte behind the argument block, and has no constant
-- that is wider than its place
abbrev pub StaysWithin : ℕ → ℕ → Step → Type 0
StaysWithin count bytes (step.Argument a) = a.offset + number_bytes a.kind ≤ bytes
StaysWithin count bytes (step.Branch next) = next ≤ count
StaysWithin count bytes (step.ConditionalBranch b) = b.next ≤ count
StaysWithin count bytes (step.Convert c) = FitsIn c.from c.source
StaysWithin count bytes (step.Store s) = FitsIn s.kind s.source
StaysWithin count bytes (step.StoreGroup s) = FitsIn s.kind s.source
StaysWithin count bytes _ = Unit {0}

-- ---- registers

-- the registers for a number of a type: $c for 1 bit, $s for 8, 16 and 32, $d for 64 (PRM, Registers)
abbrev pub number_class : NumberType → RegisterClass
number_class number.B1 = class.Control
number_class number.U64 = class.Double
number_class number.S64 = class.Double
number_class _ = class.Single

abbrev pub register_class : AnyRegister → RegisterClass
register_class (register.Control n) = class.Control
register_class (register.Single n) = class.Single
register_class (register.Double n) = class.Double

-- the class of the register that a source is, or of those for a constant like it
abbrev pub source_class : AnySource → RegisterClass
source_class (any.Control s) = class.Control
source_class (any.Single s) = class.Single
source_class (any.Double s) = class.Double

-- the registers that hold what an item asks of its place: $s; or $d, for absolute ids and grid sizes (PRM, Dispatch
-- Packet Operations)
abbrev pub answers_in : WorkItemQuery → RegisterClass → Bool
answers_in q class.Single = true
answers_in query.WorkItemAbsoluteId class.Double = true
answers_in query.GridSize class.Double = true
answers_in _ _ = false

-- each register of a step is of the class that the step's types ask. A step of another kind has no register whose
-- class isn't settled by its kind: those of `control_operation` set a $c register, and so on
abbrev pub HasItsClasses : Step → Type 0
HasItsClasses (step.Convert c) = (register_class c.target ≡ number_class c.to) × (source_class c.source ≡ number_class c.from)
HasItsClasses (step.Argument a) = register_class a.target ≡ number_class a.kind
HasItsClasses (step.Load l) = register_class l.target ≡ number_class l.kind
HasItsClasses (step.LoadGroup l) = register_class l.target ≡ number_class l.kind
HasItsClasses (step.Store s) = source_class s.source ≡ number_class s.kind
HasItsClasses (step.StoreGroup s) = source_class s.source ≡ number_class s.kind
HasItsClasses (step.WorkItemQuery q) = answers_in q.query (register_class q.target) ≡ true
HasItsClasses _ = Unit {0}

-- ---- arguments

-- an argument in its block: how many bytes stand before it, and how many it has
pub record ArgumentPlace : Type 0 where
  pub offset : ℕ
  pub bytes : ℕ

-- arguments that lie one behind another in a block of so many bytes
abbrev pub AreLaid : ℕ → List ArgumentPlace → Type 0
AreLaid block [] = Unit {0}
AreLaid block (a ∷ later) =
    (a.offset + a.bytes ≤ block) × All (λ b. a.offset + a.bytes ≤ b.offset) later × AreLaid block later

-- the offsets of those of 64 bits
abbrev pub wide_offsets : List ArgumentPlace → List ℕ
wide_offsets [] = []
wide_offsets (a ∷ later) = if a.bytes == 8 then a.offset ∷ wide_offsets later else wide_offsets later

-- a step that loads an argument loads the whole of one of these
abbrev pub LoadsOneOf : List ArgumentPlace → Step → Type 0
LoadsOneOf arguments (step.Argument a) = Contains arguments (record { offset = a.offset; bytes = number_bytes a.kind })
LoadsOneOf arguments _ = Unit {0}

-- a kernel's arguments: they lie in its block, its wide ones are those of 64 bits, and its steps load no others
pub record HasArguments (p : Program) : Type 0 where
  pub places : List ArgumentPlace
  pub laid : AreLaid p.argument_bytes places
  pub wide : wide_offsets places ≡ p.wide
  pub loaded : All (LoadsOneOf places) p.steps

-- numbers that ascend, each below all behind it
abbrev pub Ascends : List ℕ → Type 0
Ascends [] = Unit {0}
Ascends (n ∷ later) = All (λ m. n < m) later × Ascends later

-- ---- a kernel

-- every label named in the steps exists, every argument that is loaded stands there with that width, every register
-- is of the class that its step asks, every constant lies in its width, wide arguments ascend, and the limits are kept
pub record IsSound (p : Program) : Type 0 where
  pub classes : All HasItsClasses p.steps
  pub arguments : HasArguments p
  pub wide_ascend : Ascends p.wide
  pub steps_stay : All (StaysWithin (length p.steps) p.argument_bytes) p.steps
  pub lined : length p.lines ≡ length p.steps
  pub wide_stay : All (λ offset. offset + 8 ≤ p.argument_bytes) p.wide
  pub few_bytes : p.argument_bytes ≤ most_argument_bytes
  pub few_group_bytes : p.group_bytes ≤ most_group_bytes
  pub few_steps : length p.steps ≤ most_instructions

-- a kernel by its steps with their lines
abbrev pub program : List ℕ → ℕ → ℕ → List ℕ → List LinedStep → Program
program name argument_bytes group_bytes wide lined = record {
  name = name;
  argument_bytes = argument_bytes;
  group_bytes = group_bytes;
  wide = wide;
  steps = map (λ s. s.step) lined;
  lines = map (λ s. s.line) lined;
}

-- the bytes of a kernel's group variables
abbrev pub group_bytes_of : Program → ℕ
group_bytes_of p = p.group_bytes
