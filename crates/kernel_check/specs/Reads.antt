-- A step reads and sets what its instruction has, in the order of the text: the first register is set, and the
-- sources stand behind it (PRM, Operands). A register is told by its number; of which class it is, `Steps` says.
use Rattle.std.specs.Prelude.{◌≡◌, ℕ, ◌%◌, ◌^◌, List, [], ◌∷◌, ◌++◌, ◌==◌, Option, Some, None}
use Rattle.kernel_check.specs.Constants.{constant_bits}
use Rattle.kernel_check.specs.Steps.{reads, sets, register_number, sources_of, target_in}
use Rattle.kernel_check.specs.declared.step.AnySource.{AnySource}
use Rattle.kernel_check.specs.declared.step.AnySource.TheVariants as any
use Rattle.kernel_check.specs.declared.step.Source.{Source as StepSource}
use Rattle.kernel_check.specs.declared.step.Source.TheVariants as step_source
use Rattle.kernel_check.specs.declared.step.Step.{Step}
use Rattle.hsail_reader.specs.declared.module.Operand.{Operand}
use Rattle.hsail_reader.specs.declared.module.Operand.TheVariants as operand
use Rattle.hsail_reader.specs.declared.module.Operands.{Operands}
use Rattle.hsail_reader.specs.declared.module.Operation.{Operation}
use Rattle.hsail_reader.specs.declared.module.TypedSource.{TypedSource}
use Rattle.hsail_reader.specs.declared.types.Constant.{Constant}
use Rattle.hsail_reader.specs.declared.types.DataType.{DataType}
use Rattle.hsail_reader.specs.declared.types.Register.{Register}
use Rattle.hsail_reader.specs.declared.types.Source.{Source}
use Rattle.hsail_reader.specs.declared.types.Source.TheVariants as source

-- a source of a step is one of the text: the register's number, or the constant's bits at its type
abbrev pub IsAt : {N : Type 0} → (DataType → Constant → N) → StepSource N → DataType → Source → Type 0
IsAt bits (step_source.Register n) kind (source.Register r) = n ≡ register_number r
IsAt bits (step_source.Constant n) kind (source.Constant c) = n ≡ bits kind c
IsAt bits _ kind _ = ⊥

abbrev pub IsSource : AnySource → TypedSource → Type 0
IsSource (any.Control a) t = IsAt (λ kind c. constant_bits kind c == 1) a t.kind t.source
IsSource (any.Single a) t = IsAt (λ kind c. constant_bits kind c % 2 ^ 32) a t.kind t.source
IsSource (any.Double a) t = IsAt constant_bits a t.kind t.source

-- what is read are the sources of the text, in their order, from the first on
abbrev pub AreSources : List AnySource → List TypedSource → Type 0
AreSources [] sources = Unit {0}
AreSources (a ∷ later) [] = ⊥
AreSources (a ∷ later) (t ∷ sources) = IsSource a t × AreSources later sources

-- what is set has the number of a register of the text
abbrev pub IsTarget : Option ℕ → Register → Type 0
IsTarget None r = Unit {0}
IsTarget (Some n) r = n ≡ register_number r

-- a step sets the first operand of its instruction, and reads the others in their order
abbrev pub KeepsOrder : Operation → Step → Type 0
KeepsOrder op s = IsTarget (sets s) (target_in op.operands.first) × AreSources (reads s) (sources_of op.form op)

-- the number of the register that an operand sets
abbrev pub set_by : Operand → Option ℕ
set_by (operand.Target t) = Some (register_number t.register)
set_by _ = None

-- the source that an operand is
abbrev pub source_by : Operand → List TypedSource
source_by (operand.Source s) = s ∷ []
source_by _ = []

-- the sources among the operands of the text, in order
abbrev pub sources_by : Operands → List TypedSource
sources_by o = source_by o.first ++ source_by o.second ++ source_by o.third ++ source_by o.fourth

-- what is read are these sources, all of them and no others
abbrev pub AreAllSources : List AnySource → List TypedSource → Type 0
AreAllSources [] [] = Unit {0}
AreAllSources (a ∷ later) (t ∷ sources) = IsSource a t × AreAllSources later sources
AreAllSources _ _ = ⊥

-- a step sets the register of the number that the text sets, if there is one, and reads all the sources of the text, in
-- their order
abbrev pub KeepsAll : Operation → Step → Type 0
KeepsAll op s = (sets s ≡ set_by op.operands.first) × AreAllSources (reads s) (sources_by op.operands)
