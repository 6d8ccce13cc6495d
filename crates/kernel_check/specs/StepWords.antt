-- Which words of the text a step stands for, an operation a line: stem and type, without the modifiers, which have no effect
-- (PRM, the chapters on instructions). Where a sign makes no difference a step stands for the words of both types.
use Rattle.std.specs.Prelude.{◌≡◌, ℕ, List, [], ◌∷◌, ◌++◌, codes, map, Option, Some, None}
use Rattle.hsail_reader.specs.Rows.{InstructionRow, type_name}
use Rattle.hsail_reader.specs.declared.rows.TypeSet.{TypeSet}
use Rattle.hsail_reader.specs.declared.rows.TypeSet.TheVariants.{Untyped}
use Rattle.hsail_reader.specs.declared.types.Comparison.{Comparison}
use Rattle.hsail_reader.specs.declared.types.Comparison.TheVariants.{Equal, NotEqual, Less, LessOrEqual, Greater, GreaterOrEqual}
use Rattle.hsail_reader.specs.declared.types.DataType.{DataType}
use Rattle.hsail_reader.specs.declared.types.WorkItemQuery.{WorkItemQuery}
use Rattle.hsail_reader.specs.declared.types.WorkItemQuery.TheVariants as query
use Rattle.kernel_check.specs.declared.step.AnyRegister.{AnyRegister}
use Rattle.kernel_check.specs.declared.step.AnyRegister.TheVariants as register
use Rattle.kernel_check.specs.declared.step.AtomicChange.{AtomicChange}
use Rattle.kernel_check.specs.declared.step.AtomicChange.TheVariants as change
use Rattle.kernel_check.specs.declared.step.AtomicPointer.{AtomicPointer}
use Rattle.kernel_check.specs.declared.step.AtomicPointer.TheVariants as places
use Rattle.kernel_check.specs.declared.step.ControlOperation.{ControlOperation}
use Rattle.kernel_check.specs.declared.step.ControlOperation.TheVariants as control
use Rattle.kernel_check.specs.declared.step.DoubleOperation.{DoubleOperation}
use Rattle.kernel_check.specs.declared.step.DoubleOperation.TheVariants as double
use Rattle.kernel_check.specs.declared.step.NumberType.{NumberType}
use Rattle.kernel_check.specs.declared.step.NumberType.TheVariants as number
use Rattle.kernel_check.specs.declared.step.SingleOperation.{SingleOperation}
use Rattle.kernel_check.specs.declared.step.SingleOperation.TheVariants as single
use Rattle.kernel_check.specs.declared.step.Step.{Step}
use Rattle.kernel_check.specs.declared.step.Step.TheVariants as step

-- a comparison's name in a word (PRM, Compare (cmp) Operation)
abbrev pub comparison_name : Comparison → List ℕ
comparison_name Equal = codes "eq"
comparison_name NotEqual = codes "ne"
comparison_name Less = codes "lt"
comparison_name LessOrEqual = codes "le"
comparison_name Greater = codes "gt"
comparison_name GreaterOrEqual = codes "ge"

-- the words of a comparison, with these types
abbrev pub compare_words : Comparison → List (List ℕ) → List (List ℕ)
compare_words c types = map (λ t. codes "cmp_" ++ comparison_name c ++ codes "_b1_" ++ t) types

-- the name of a number's type
abbrev pub number_name : NumberType → List ℕ
number_name number.B1 = codes "b1"
number_name number.U8 = codes "u8"
number_name number.U16 = codes "u16"
number_name number.U32 = codes "u32"
number_name number.U64 = codes "u64"
number_name number.S8 = codes "s8"
number_name number.S16 = codes "s16"
number_name number.S32 = codes "s32"
number_name number.S64 = codes "s64"

-- the names of the types that are accessed as it (own)
abbrev pub access_names : NumberType → List (List ℕ)
access_names number.B1 = codes "b1" ∷ []
access_names number.U8 = codes "u8" ∷ codes "b8" ∷ []
access_names number.U16 = codes "u16" ∷ codes "b16" ∷ []
access_names number.U32 = codes "u32" ∷ codes "b32" ∷ []
access_names number.U64 = codes "u64" ∷ codes "b64" ∷ []
access_names number.S8 = codes "s8" ∷ []
access_names number.S16 = codes "s16" ∷ []
access_names number.S32 = codes "s32" ∷ []
access_names number.S64 = codes "s64" ∷ []

-- words that begin alike
abbrev pub each_with : List ℕ → List (List ℕ) → List (List ℕ)
each_with front names = map (λ name. front ++ name) names

-- what sets a $c register
abbrev pub control_words : ControlOperation → List (List ℕ)
control_words (control.Move s) = codes "mov_b1" ∷ []
control_words (control.Not s) = codes "not_b1" ∷ []
control_words (control.And p) = codes "and_b1" ∷ []
control_words (control.Or p) = codes "or_b1" ∷ []
control_words (control.Xor p) = codes "xor_b1" ∷ []
control_words (control.Choose c) = codes "cmov_b1" ∷ []
control_words (control.Compare c) = compare_words c.comparison (codes "b1" ∷ [])
control_words (control.CompareUnsigned32 c) = compare_words c.comparison (codes "u32" ∷ codes "b32" ∷ [])
control_words (control.CompareSigned32 c) = compare_words c.comparison (codes "s32" ∷ [])
control_words (control.CompareUnsigned64 c) = compare_words c.comparison (codes "u64" ∷ codes "b64" ∷ [])
control_words (control.CompareSigned64 c) = compare_words c.comparison (codes "s64" ∷ [])

-- what sets an $s register
abbrev pub single_words : SingleOperation → List (List ℕ)
single_words (single.Move s) = codes "mov_b32" ∷ codes "mov_u32" ∷ codes "mov_s32" ∷ []
single_words (single.Not s) = codes "not_b32" ∷ []
single_words (single.Add p) = codes "add_u32" ∷ codes "add_s32" ∷ []
single_words (single.Subtract p) = codes "sub_u32" ∷ codes "sub_s32" ∷ []
single_words (single.Multiply p) = codes "mul_u32" ∷ codes "mul_s32" ∷ []
single_words (single.MultiplyAdd t) = codes "mad_u32" ∷ codes "mad_s32" ∷ []
single_words (single.DivideUnsigned p) = codes "div_u32" ∷ []
single_words (single.DivideSigned p) = codes "div_s32" ∷ []
single_words (single.RemainderUnsigned p) = codes "rem_u32" ∷ []
single_words (single.RemainderSigned p) = codes "rem_s32" ∷ []
single_words (single.LeastUnsigned p) = codes "min_u32" ∷ []
single_words (single.LeastSigned p) = codes "min_s32" ∷ []
single_words (single.GreatestUnsigned p) = codes "max_u32" ∷ []
single_words (single.GreatestSigned p) = codes "max_s32" ∷ []
single_words (single.And p) = codes "and_b32" ∷ []
single_words (single.Or p) = codes "or_b32" ∷ []
single_words (single.Xor p) = codes "xor_b32" ∷ []
single_words (single.ShiftLeft p) = codes "shl_u32" ∷ codes "shl_s32" ∷ []
single_words (single.ShiftRightUnsigned p) = codes "shr_u32" ∷ []
single_words (single.ShiftRightSigned p) = codes "shr_s32" ∷ []
single_words (single.Choose c) = codes "cmov_b32" ∷ []

-- what sets a $d register
abbrev pub double_words : DoubleOperation → List (List ℕ)
double_words (double.Move s) = codes "mov_b64" ∷ codes "mov_u64" ∷ codes "mov_s64" ∷ []
double_words (double.Not s) = codes "not_b64" ∷ []
double_words (double.Add p) = codes "add_u64" ∷ codes "add_s64" ∷ []
double_words (double.Subtract p) = codes "sub_u64" ∷ codes "sub_s64" ∷ []
double_words (double.Multiply p) = codes "mul_u64" ∷ codes "mul_s64" ∷ []
double_words (double.MultiplyAdd t) = codes "mad_u64" ∷ codes "mad_s64" ∷ []
double_words (double.DivideUnsigned p) = codes "div_u64" ∷ []
double_words (double.DivideSigned p) = codes "div_s64" ∷ []
double_words (double.RemainderUnsigned p) = codes "rem_u64" ∷ []
double_words (double.RemainderSigned p) = codes "rem_s64" ∷ []
double_words (double.LeastUnsigned p) = codes "min_u64" ∷ []
double_words (double.LeastSigned p) = codes "min_s64" ∷ []
double_words (double.GreatestUnsigned p) = codes "max_u64" ∷ []
double_words (double.GreatestSigned p) = codes "max_s64" ∷ []
double_words (double.And p) = codes "and_b64" ∷ []
double_words (double.Or p) = codes "or_b64" ∷ []
double_words (double.Xor p) = codes "xor_b64" ∷ []
double_words (double.ShiftLeft p) = codes "shl_u64" ∷ codes "shl_s64" ∷ []
double_words (double.ShiftRightUnsigned p) = codes "shr_u64" ∷ []
double_words (double.ShiftRightSigned p) = codes "shr_s64" ∷ []
double_words (double.Choose c) = codes "cmov_b64" ∷ []

-- what an atomic operation does, by its name and the names of its types of a width, with a front before and a segment
-- between (PRM, Atomic Memory Operations)
abbrev pub change_words : {S : Type 0} → List ℕ → List ℕ → List ℕ → AtomicChange S → List (List ℕ)
change_words width front between (change.Add s) = each_with (front ++ codes "add" ++ between) ((codes "u" ++ width) ∷ (codes "s" ++ width) ∷ [])
change_words width front between (change.Subtract s) = each_with (front ++ codes "sub" ++ between) ((codes "u" ++ width) ∷ (codes "s" ++ width) ∷ [])
change_words width front between (change.LeastUnsigned s) = each_with (front ++ codes "min" ++ between) ((codes "u" ++ width) ∷ [])
change_words width front between (change.LeastSigned s) = each_with (front ++ codes "min" ++ between) ((codes "s" ++ width) ∷ [])
change_words width front between (change.GreatestUnsigned s) = each_with (front ++ codes "max" ++ between) ((codes "u" ++ width) ∷ [])
change_words width front between (change.GreatestSigned s) = each_with (front ++ codes "max" ++ between) ((codes "s" ++ width) ∷ [])
change_words width front between (change.And s) = each_with (front ++ codes "and" ++ between) ((codes "b" ++ width) ∷ [])
change_words width front between (change.Or s) = each_with (front ++ codes "or" ++ between) ((codes "b" ++ width) ∷ [])
change_words width front between (change.Xor s) = each_with (front ++ codes "xor" ++ between) ((codes "b" ++ width) ∷ [])
change_words width front between (change.Exchange s) = each_with (front ++ codes "exch" ++ between) ((codes "b" ++ width) ∷ [])
change_words width front between (change.CompareAndSwap p) = each_with (front ++ codes "cas" ++ between) ((codes "b" ++ width) ∷ [])

-- one with a target answers the old value (PRM, Atomic No Return (atomicnoret) Operations)
abbrev pub atomic_front : Option ℕ → List ℕ
atomic_front (Some target) = codes "atomic_"
atomic_front None = codes "atomicnoret_"

abbrev pub segment_between : AtomicPointer → List ℕ
segment_between (places.Global p) = codes "_global_"
segment_between (places.Group p) = codes "_group_"

-- what an item asks of its place (PRM, Dispatch Packet Operations)
abbrev pub query_name : WorkItemQuery → List ℕ
query_name query.WorkItemId = codes "workitemid"
query_name query.WorkGroupId = codes "workgroupid"
query_name query.WorkGroupSize = codes "workgroupsize"
query_name query.CurrentWorkGroupSize = codes "currentworkgroupsize"
query_name query.WorkItemAbsoluteId = codes "workitemabsid"
query_name query.GridSize = codes "gridsize"

-- the types by which a query sets a register
abbrev pub answer_names : AnyRegister → List (List ℕ)
answer_names (register.Control n) = []
answer_names (register.Single n) = codes "_u32" ∷ []
answer_names (register.Double n) = codes "_u64" ∷ []

-- the words that a step stands for
abbrev pub step_words : Step → List (List ℕ)
step_words (step.Control s) = control_words s.operation
step_words (step.Single s) = single_words s.operation
step_words (step.Double s) = double_words s.operation
step_words (step.Convert c) = (codes "cvt_" ++ number_name c.to ++ codes "_" ++ number_name c.from) ∷ []
step_words (step.Argument a) = each_with (codes "ld_kernarg_") (access_names a.kind)
step_words (step.Load l) = each_with (codes "ld_global_") (access_names l.kind)
step_words (step.LoadGroup l) = each_with (codes "ld_group_") (access_names l.kind)
step_words (step.Store s) = each_with (codes "st_global_") (access_names s.kind)
step_words (step.StoreGroup s) = each_with (codes "st_group_") (access_names s.kind)
step_words (step.Atomic32 a) = change_words (codes "32") (atomic_front a.target) (segment_between a.pointer) a.operation
step_words (step.Atomic64 a) = change_words (codes "64") (atomic_front a.target) (segment_between a.pointer) a.operation
step_words (step.Branch next) = codes "br" ∷ []
step_words (step.ConditionalBranch b) = codes "cbr_b1" ∷ []
step_words step.Return = codes "ret" ∷ []
step_words step.Barrier = codes "barrier" ∷ []
step_words (step.WorkItemQuery q) = each_with (query_name q.query) (answer_names q.target)

-- the word of a row at a type: its stem, and the type's name where the row has types
abbrev pub word_at : TypeSet → List ℕ → DataType → List ℕ
word_at Untyped stem t = stem
word_at _ stem t = stem ++ codes "_" ++ type_name t

abbrev pub word_of : InstructionRow → DataType → List ℕ
word_of row t = word_at row.types row.stem t
