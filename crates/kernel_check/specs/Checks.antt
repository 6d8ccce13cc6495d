-- The items of a module in the order of the text, each with the least cause by which it fails; and what
-- the items of a kernel come to.
use Rattle.std.specs.Prelude.{ℕ, ◌+◌, List, [], ◌∷◌, ◌++◌, length, map, Option, Result}
use Rattle.kernel_check.specs.Causes.{instruction_fails, label_fails, argument_fails, variable_fails, kernel_fails}
use Rattle.kernel_check.specs.Faults.{Checkpoint, checkpoint, first_fault, unless}
use Rattle.kernel_check.specs.Layout.{placed_at, end_behind, group_placed, group_end_behind, placed_from, end_from, wide_from}
use Rattle.kernel_check.specs.Names.{Known, find}
use Rattle.kernel_check.specs.Programs.{Program, program}
use Rattle.kernel_check.specs.Steps.{step_of}
use Rattle.kernel_check.specs.declared.fault.CheckFault.{CheckFault}
use Rattle.kernel_check.specs.declared.layout.Placed.{Placed}
use Rattle.kernel_check.specs.declared.step.LinedStep.{LinedStep}
use Rattle.hsail_reader.specs.declared.module.Argument.{Argument}
use Rattle.hsail_reader.specs.declared.module.Item.{Item}
use Rattle.hsail_reader.specs.declared.module.Item.TheVariants as item
use Rattle.hsail_reader.specs.declared.module.Kernel.{Kernel}
use Rattle.hsail_reader.specs.declared.module.Module.{Module}
use Rattle.hsail_reader.specs.declared.module.Operation.{Operation}

-- the label that an item is, with the number of the instruction behind it
abbrev pub label_at : ℕ → Item → Known ℕ
label_at number (item.Label l) = (l.name, number) ∷ []
label_at number _ = []

-- how many instructions there are behind an item
abbrev pub number_behind : ℕ → Item → ℕ
number_behind number (item.Instruction i) = number + 1
number_behind number _ = number

-- the labels of items that stand behind these many instructions
abbrev pub labels_from : ℕ → List Item → Known ℕ
labels_from number [] = []
labels_from number (x ∷ items) = label_at number x ++ labels_from (number_behind number x) items

-- an argument that stands behind these, which end there
abbrev pub argument_check : Known Placed → ℕ → Argument → Checkpoint
argument_check before end a = checkpoint a.line (argument_fails before end a)

abbrev pub argument_checks : Known Placed → ℕ → List Argument → List Checkpoint
argument_checks before end [] = []
argument_checks before end (a ∷ later) =
    argument_check before end a
    ∷ argument_checks (before ++ (a.name, placed_at end a) ∷ []) (end_behind end a) later

-- what stands before an item of a kernel: variables, where the last of them in group memory ends, labels, and how
-- many instructions
pub record Before : Type 0 where
  pub variables : Known Placed
  pub group_end : ℕ
  pub labels : Known ℕ
  pub count : ℕ

abbrev pub before : Known Placed → ℕ → Known ℕ → ℕ → Before
before variables group_end labels count =
    record { variables = variables; group_end = group_end; labels = labels; count = count }

-- what stands behind an item
abbrev pub behind : Before → Item → Before
behind b (item.Label l) = before b.variables b.group_end (b.labels ++ label_at b.count (item.Label l)) b.count
behind b (item.Variable v) =
    before (b.variables ++ (v.name, group_placed b.group_end v) ∷ []) (group_end_behind b.group_end v) b.labels b.count
behind b (item.Instruction i) = before b.variables b.group_end b.labels (b.count + 1)

-- what stands behind several
abbrev pub behind_all : Before → List Item → Before
behind_all b [] = b
behind_all b (x ∷ items) = behind_all (behind b x) items

-- an item, by the labels of its kernel and by what stands before it
abbrev pub item_check : (List ℕ → Option ℕ) → Before → Item → Checkpoint
item_check labels b (item.Label l) = checkpoint l.line (label_fails b.labels l.name)
item_check labels b (item.Variable v) = checkpoint v.line (variable_fails b.variables b.group_end v)
item_check labels b (item.Instruction i) =
    checkpoint i.line (instruction_fails (find b.variables) labels b.count i.operation)

abbrev pub item_checks : (List ℕ → Option ℕ) → Before → List Item → List Checkpoint
item_checks labels b [] = []
item_checks labels b (x ∷ items) = item_check labels b x ∷ item_checks labels (behind b x) items

abbrev pub lined : ℕ → (List ℕ → Option Placed) → (List ℕ → Option ℕ) → Operation → LinedStep
lined line variables labels op = record { line = line; step = step_of variables labels op }

-- the step that an item comes to; a label and a variable come to none
abbrev pub step_at : (List ℕ → Option ℕ) → Before → Item → List LinedStep
step_at labels b (item.Instruction i) = lined i.line (find b.variables) labels i.operation ∷ []
step_at labels b _ = []

abbrev pub steps_from : (List ℕ → Option ℕ) → Before → List Item → List LinedStep
steps_from labels b [] = []
steps_from labels b (x ∷ items) = step_at labels b x ++ steps_from labels (behind b x) items

-- what the items of a kernel come to: steps with their lines, and the bytes of its group variables
pub record Worked : Type 0 where
  pub steps : List LinedStep
  pub group_bytes : ℕ

abbrev pub worked : (List ℕ → Option ℕ) → Before → List Item → Worked
worked labels b items = record { steps = steps_from labels b items; group_bytes = (behind_all b items).group_end }

-- what stands before the items of a kernel: its arguments
abbrev pub first_before : Known Placed → Before
first_before arguments = before arguments 0 [] 0

abbrev pub before_of : Kernel → Before
before_of k = first_before (placed_from 0 k.arguments)

-- what the labels of a kernel stand for
abbrev pub labels_of : Kernel → List ℕ → Option ℕ
labels_of k = find (labels_from 0 k.items)

-- the arguments and items of a kernel
abbrev pub body_checks : Kernel → List Checkpoint
body_checks k = argument_checks [] 0 k.arguments ++ item_checks (labels_of k) (before_of k) k.items

-- a kernel that stands behind these: its head, its arguments and its items
abbrev pub kernel_checks : Known ℕ → Kernel → List Checkpoint
kernel_checks before k = checkpoint k.line (kernel_fails before k.name) ∷ body_checks k

abbrev pub module_checks : Known ℕ → List Kernel → List Checkpoint
module_checks before [] = []
module_checks before (k ∷ kernels) =
    kernel_checks before k ++ module_checks (before ++ (k.name, length before) ∷ []) kernels

-- what a kernel without a fault comes to
abbrev pub program_of : Kernel → Program
program_of k =
    let w = worked (labels_of k) (before_of k) k.items in
    program k.name (end_from 0 k.arguments) w.group_bytes (wide_from 0 k.arguments) w.steps

-- The kernels of a module, if no item fails; else the fault of the earliest item that fails, by its least
-- cause.
abbrev pub checking : Module → Result (List Program) CheckFault
checking m = unless (first_fault (module_checks [] m.kernels)) (map program_of m.kernels)
