-- Where the arguments of a kernel lie: each in the block, one behind another; and those of 64 bits among them.
use Rattle.std.proofs.Common.{◌≡◌, ℕ, suc, ◌+◌, ◌-◌, ◌*◌, ◌/◌, ◌<◌, ◌≤◌, Bool, true, false, ◌==◌, cond, List, [], ◌∷◌, ◌++◌, Option, Some, None, arith, refl, ap, ◌∙◌, subst, lit≤}
use Rattle.std.specs.List.{All, Contains}
use Rattle.std.specs.Str.{bytes_eq}
use Rattle.std.proofs.lemmas.Bool.Decides.{nat_tests}
use Rattle.std.proofs.lemmas.List.Elements.{All-nil, All-cons, All-append}
use Rattle.hsail_reader.specs.Types.{type_bits}
use Rattle.hsail_reader.specs.declared.module.Argument.{Argument}
use Rattle.hsail_reader.specs.declared.types.Alignment.{Alignment}
use Rattle.hsail_reader.specs.declared.types.DataType.{DataType}
use Rattle.hsail_reader.specs.declared.types.DataType.TheVariants as type
use Rattle.hsail_reader.specs.declared.types.Segment.TheVariants as segment
use Rattle.kernel_check.specs.Layout.{kind_bytes, is_wide, boundary_of, next_multiple, end_behind, placed_at, placed_from, end_from, wide_at, wide_from}
use Rattle.kernel_check.specs.Names.{find}
use Rattle.kernel_check.specs.Programs.{AreLaid, ArgumentPlace, Ascends, wide_offsets}
use Rattle.kernel_check.specs.Steps.{number_bytes, number_type}
use Rattle.kernel_check.specs.declared.layout.Placed.{Placed}

pub kind_bytes_positive : (kind : DataType) → 1 ≤ kind_bytes kind
kind_bytes_positive type.B1 = lit≤ tt
kind_bytes_positive type.B8 = lit≤ tt
kind_bytes_positive type.B16 = lit≤ tt
kind_bytes_positive type.B32 = lit≤ tt
kind_bytes_positive type.B64 = lit≤ tt
kind_bytes_positive type.U8 = lit≤ tt
kind_bytes_positive type.U16 = lit≤ tt
kind_bytes_positive type.U32 = lit≤ tt
kind_bytes_positive type.U64 = lit≤ tt
kind_bytes_positive type.S8 = lit≤ tt
kind_bytes_positive type.S16 = lit≤ tt
kind_bytes_positive type.S32 = lit≤ tt
kind_bytes_positive type.S64 = lit≤ tt

-- a number takes as many bytes as its type
pub number_bytes_are : (kind : DataType) → number_bytes (number_type kind) ≡ kind_bytes kind
number_bytes_are type.B1 = refl
number_bytes_are type.B8 = refl
number_bytes_are type.B16 = refl
number_bytes_are type.B32 = refl
number_bytes_are type.B64 = refl
number_bytes_are type.U8 = refl
number_bytes_are type.U16 = refl
number_bytes_are type.U32 = refl
number_bytes_are type.U64 = refl
number_bytes_are type.S8 = refl
number_bytes_are type.S16 = refl
number_bytes_are type.S32 = refl
number_bytes_are type.S64 = refl

pub boundary_positive : (kind : DataType) (a : Option Alignment) → 1 ≤ boundary_of kind a
boundary_positive kind None = kind_bytes_positive kind
boundary_positive kind (Some a) = let p : 1 ≤ kind_bytes kind = kind_bytes_positive kind in omega arith

-- the next multiple isn't before
pub le_next_multiple : (end n : ℕ) → 1 ≤ n → end ≤ next_multiple end n
le_next_multiple end n p = omega (arith, p)

end_behind_above : (end : ℕ) (a : Argument) → end ≤ end_behind end a
end_behind_above end a =
    let p : end ≤ next_multiple end (boundary_of a.kind a.align) = le_next_multiple end (boundary_of a.kind a.align) (boundary_positive a.kind a.align) in
    omega arith

end_from_above : (end : ℕ) (args : List Argument) → end ≤ end_from end args
end_from_above end [] = omega arith
end_from_above end (a ∷ args) =
    let p : end ≤ end_behind end a = end_behind_above end a in
    let q : end_behind end a ≤ end_from (end_behind end a) args = end_from_above (end_behind end a) args in
    omega arith

pub found_here : {X : Type 0} (b : Bool) (x y : X) (rest : Option X) (P : X → Type 0) → P x → (rest ≡ Some y → P y)
    → cond b (Some x) rest ≡ Some y → P y
found_here true x y rest P here there e = let same : x ≡ y = cc in subst P same here
found_here false x y rest P here there e = there e

-- where a variable lies, and how many bytes it has
abbrev pub place : Placed → ArgumentPlace
place p = record { offset = p.offset; bytes = kind_bytes p.kind }

-- the arguments of a kernel at their places, behind so many bytes
abbrev pub places_from : ℕ → List Argument → List ArgumentPlace
places_from end [] = []
places_from end (a ∷ later) = place (placed_at end a) ∷ places_from (end_behind end a) later

-- an element of a list is one of a list with one more in front
one_further : {X : Type 0} (first : X) (rest : List X) (x : X) → Contains rest x → Contains (first ∷ rest) x
one_further first rest x there = (suc there.0, omega (arith, there.1), there.2)

-- an argument lies within the block
pub argument_within : (end : ℕ) (args : List Argument) (x : List ℕ) (p : Placed) → find (placed_from end args) x ≡ Some p
    → p.offset + kind_bytes p.kind ≤ end_from end args
argument_within end [] x p e = cc
argument_within end (a ∷ args) x p e =
    found_here (bytes_eq x a.name) (record { segment = segment.Kernarg; kind = a.kind; offset = next_multiple end (boundary_of a.kind a.align) }) p
    (find (placed_from (end_behind end a) args) x)
    (λ r. r.offset + kind_bytes r.kind ≤ end_from (end_behind end a) args)
    (end_from_above (end_behind end a) args)
    (argument_within (end_behind end a) args x p) e

-- an argument that is found stands at one of the places
pub argument_stands : (end : ℕ) (args : List Argument) (x : List ℕ) (p : Placed) → find (placed_from end args) x ≡ Some p
    → Contains (places_from end args) (place p)
argument_stands end [] x p e = cc
argument_stands end (a ∷ args) x p e =
    found_here (bytes_eq x a.name) (placed_at end a) p (find (placed_from (end_behind end a) args) x)
    (λ r. Contains (places_from end (a ∷ args)) (place r))
    (0, omega arith, refl)
    (λ there. one_further (place (placed_at end a)) (places_from (end_behind end a) args) (place p) (argument_stands (end_behind end a) args x p there)) e

-- arguments behind so many bytes begin there or further on
places_above : (low end : ℕ) (args : List Argument) → low ≤ end → All (λ b. low ≤ b.offset) (places_from end args)
places_above low end [] above = All-nil (λ (b : ArgumentPlace). low ≤ b.offset)
places_above low end (a ∷ args) above =
    let p : end ≤ next_multiple end (boundary_of a.kind a.align) = le_next_multiple end (boundary_of a.kind a.align) (boundary_positive a.kind a.align) in
    All-cons (λ (b : ArgumentPlace). low ≤ b.offset) (place (placed_at end a)) (places_from (end_behind end a) args) (omega arith)
    (places_above low (end_behind end a) args (omega arith))

pub places_laid : (end : ℕ) (args : List Argument) → AreLaid (end_from end args) (places_from end args)
places_laid end [] = tt
places_laid end (a ∷ args) =
    let p : end_behind end a ≤ end_from (end_behind end a) args = end_from_above (end_behind end a) args in
    (p, places_above (end_behind end a) (end_behind end a) args (omega arith), places_laid (end_behind end a) args)

-- eight bytes have 64 bits
eight_are_wide : (kind : DataType) → (kind_bytes kind == 8) ≡ is_wide kind
eight_are_wide type.B1 = refl
eight_are_wide type.B8 = refl
eight_are_wide type.B16 = refl
eight_are_wide type.B32 = refl
eight_are_wide type.B64 = refl
eight_are_wide type.U8 = refl
eight_are_wide type.U16 = refl
eight_are_wide type.U32 = refl
eight_are_wide type.U64 = refl
eight_are_wide type.S8 = refl
eight_are_wide type.S16 = refl
eight_are_wide type.S32 = refl
eight_are_wide type.S64 = refl

one_or_none : (b : Bool) (x : ℕ) (xs : List ℕ) → cond b (x ∷ xs) xs ≡ cond b (x ∷ []) [] ++ xs
one_or_none true x xs = refl
one_or_none false x xs = refl

-- the offsets of the places of 64 bits are those of the wide arguments
pub wide_are : (end : ℕ) (args : List Argument) → wide_offsets (places_from end args) ≡ wide_from end args
wide_are end [] = refl
wide_are end (a ∷ args) =
    let offset = (placed_at end a).offset in
    ap (λ b. cond b (offset ∷ wide_offsets (places_from (end_behind end a) args)) (wide_offsets (places_from (end_behind end a) args))) (eight_are_wide a.kind)
    ∙ one_or_none (is_wide a.kind) offset (wide_offsets (places_from (end_behind end a) args))
    ∙ ap (λ xs. wide_at end a ++ xs) (wide_are (end_behind end a) args)

wide_here : (end bytes : ℕ) (a : Argument) (b : Bool) → is_wide a.kind ≡ b → end_behind end a ≤ bytes
    → All (λ offset. offset + 8 ≤ bytes) (cond b (next_multiple end (boundary_of a.kind a.align) ∷ []) [])
wide_here end bytes a true is le =
    let bits : type_bits a.kind ≡ 64 = grind (arith, nat_tests) in
    let eight : kind_bytes a.kind ≡ 8 = ap (λ n. (n + 7) / 8) bits in
    All-cons (λ (offset : ℕ). offset + 8 ≤ bytes) (next_multiple end (boundary_of a.kind a.align)) [] (omega arith)
    (All-nil (λ (offset : ℕ). offset + 8 ≤ bytes))
wide_here end bytes a false is le = All-nil (λ (offset : ℕ). offset + 8 ≤ bytes)

-- the arguments of 64 bits lie within the block
pub wide_within : (end : ℕ) (args : List Argument) → All (λ offset. offset + 8 ≤ end_from end args) (wide_from end args)
wide_within end [] = All-nil (λ (offset : ℕ). offset + 8 ≤ end)
wide_within end (a ∷ args) =
    All-append (λ (offset : ℕ). offset + 8 ≤ end_from (end_behind end a) args) (wide_at end a) (wide_from (end_behind end a) args)
    (wide_here end (end_from (end_behind end a) args) a (is_wide a.kind) refl (end_from_above (end_behind end a) args))
    (wide_within (end_behind end a) args)

-- ---- they ascend

-- one offset or none, above a number
one_above : (low offset : ℕ) (b : Bool) → low < offset → All (λ n. low < n) (cond b (offset ∷ []) [])
one_above low offset true above = All-cons (λ (n : ℕ). low < n) offset [] above (All-nil (λ (n : ℕ). low < n))
one_above low offset false above = All-nil (λ (n : ℕ). low < n)

-- the offsets behind a number lie above those below it
wide_above : (low end : ℕ) (arguments : List Argument) → low < end → All (λ n. low < n) (wide_from end arguments)
wide_above low end [] above = All-nil (λ (n : ℕ). low < n)
wide_above low end (a ∷ later) above =
    let p : end ≤ next_multiple end (boundary_of a.kind a.align) =
    le_next_multiple end (boundary_of a.kind a.align) (boundary_positive a.kind a.align) in
    All-append (λ (n : ℕ). low < n) (wide_at end a) (wide_from (end_behind end a) later)
    (one_above low (placed_at end a).offset (is_wide a.kind) (omega arith))
    (wide_above low (end_behind end a) later (omega arith))

one_first : (offset : ℕ) (b : Bool) (later : List ℕ) → All (λ n. offset < n) later → Ascends later
    → Ascends (cond b (offset ∷ []) [] ++ later)
one_first offset true later above ascends = (above, ascends)
one_first offset false later above ascends = ascends

pub wide_ascends : (end : ℕ) (arguments : List Argument) → Ascends (wide_from end arguments)
wide_ascends end [] = tt
wide_ascends end (a ∷ later) =
    let q : 1 ≤ kind_bytes a.kind = kind_bytes_positive a.kind in
    one_first (placed_at end a).offset (is_wide a.kind) (wide_from (end_behind end a) later)
    (wide_above (placed_at end a).offset (end_behind end a) later (omega arith))
    (wide_ascends (end_behind end a) later)
