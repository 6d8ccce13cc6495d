-- What the definitions of the check come to, in plain words.
use Rattle.std.specs.Prelude.{◌≡◌, ℕ, ◌≤◌, List, ◌∷◌, ◌++◌, Bool, true, false, Option, Some, None}
use Rattle.std.specs.List.{All}
use Rattle.kernel_check.specs.Faults.{Checkpoint, fault_at}
use Rattle.kernel_check.specs.Steps.{forms_of, register_number, next_of}
use Rattle.kernel_check.specs.declared.fault.CheckCause.{CheckCause}
use Rattle.kernel_check.specs.declared.fault.CheckFault.{CheckFault}
use Rattle.kernel_check.specs.declared.layout.Placed.{Placed}
use Rattle.hsail_reader.specs.declared.module.Address.{Address}
use Rattle.hsail_reader.specs.declared.module.Address.TheVariants as address
use Rattle.hsail_reader.specs.declared.module.Operand.{Operand}
use Rattle.hsail_reader.specs.declared.module.Operand.TheVariants as operand
use Rattle.hsail_reader.specs.declared.module.Operation.{Operation}
use Rattle.hsail_reader.specs.declared.module.SegmentPlace.{SegmentPlace}
use Rattle.hsail_reader.specs.declared.module.SegmentPlace.TheVariants as place
use Rattle.kernel_check.specs.declared.step.AddressForms.{AddressForms}
use Rattle.hsail_reader.specs.declared.types.Register.{Register}
use Rattle.hsail_reader.specs.declared.types.RegisterClass.{RegisterClass}
use Rattle.hsail_reader.specs.declared.types.Segment.{Segment}
use Rattle.hsail_reader.specs.declared.types.Source.{Source}
use Rattle.hsail_reader.specs.declared.types.Source.TheVariants as source

-- a cause by which an item fails, while it fails by none before it in a list of causes
pub record IsFirst (fails : CheckCause → Bool) (listed : List CheckCause) (c : CheckCause) : Type 0 where
  pub before : List CheckCause
  pub behind : List CheckCause
  pub split : listed ≡ before ++ c ∷ behind
  pub pass : All (λ other. fails other ≡ false) before
  pub here : fails c ≡ true

-- a fault is that of one of the items, and none before it fails
pub record IsEarliest (checks : List Checkpoint) (f : CheckFault) : Type 0 where
  pub before : List Checkpoint
  pub item : Checkpoint
  pub behind : List Checkpoint
  pub split : checks ≡ before ++ item ∷ behind
  pub pass : All (λ c. c.cause ≡ None) before
  pub here : fault_at item ≡ Some f

-- a register's number is kept
abbrev pub IsKept : Register → Type 0
IsKept r = register_number r ≡ r.number

abbrev pub IsKeptSource : Source → Type 0
IsKeptSource (source.Register r) = IsKept r
IsKeptSource (source.Constant c) = Unit {0}

-- a place that is a number alone, or is counted from a register of the base's class, whose number is kept
abbrev pub IsPlace : Option RegisterClass → SegmentPlace → Type 0
IsPlace None p = ⊥
IsPlace (Some class) (place.Absolute n) = Unit {0}
IsPlace (Some class) (place.Relative r) = (r.register.class ≡ class) × IsKept r.register

-- a variable that is there, in a segment
abbrev pub IsDeclared : (List ℕ → Option Placed) → Segment → List ℕ → Type 0
IsDeclared variables s x = (p : Placed) × (variables x ≡ Some p) × (p.segment ≡ s)

-- an address that its segment has: each variable is there in that segment, and each place is one of the segment's
abbrev pub IsReached : (List ℕ → Option Placed) → Segment → AddressForms → Address → Type 0
IsReached variables s forms (address.Variable x) = (forms.variable ≡ true) × IsDeclared variables s x
IsReached variables s forms (address.Place p) = IsPlace forms.base p
IsReached variables s forms (address.Indexed i) =
    (forms.indexed ≡ true) × IsDeclared variables s i.variable × IsPlace forms.base i.place

-- a label that is there
abbrev pub IsThere : (List ℕ → Option ℕ) → List ℕ → Type 0
IsThere labels x = labels x ≡ Some (next_of labels x)

-- an operand that makes nothing up: each number is kept, each name stands for something, and a dimension is
-- 0, 1 or 2
abbrev pub IsFaithfulOperand : (List ℕ → Option Placed) → (List ℕ → Option ℕ) → Operand → Type 0
IsFaithfulOperand variables labels operand.Absent = Unit {0}
IsFaithfulOperand variables labels (operand.Target t) = IsKept t.register
IsFaithfulOperand variables labels (operand.Source s) = IsKeptSource s.source
IsFaithfulOperand variables labels (operand.Address a) = IsReached variables a.segment (forms_of a.segment) a.address
IsFaithfulOperand variables labels (operand.Label x) = IsThere labels x
IsFaithfulOperand variables labels (operand.Dimension n) = n ≤ 2

-- the step of an instruction makes nothing up
pub record IsFaithful (variables : List ℕ → Option Placed) (labels : List ℕ → Option ℕ) (op : Operation) : Type 0 where
  pub first : IsFaithfulOperand variables labels op.operands.first
  pub second : IsFaithfulOperand variables labels op.operands.second
  pub third : IsFaithfulOperand variables labels op.operands.third
  pub fourth : IsFaithfulOperand variables labels op.operands.fourth
