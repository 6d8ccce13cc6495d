-- Flat steps that are gathered one by one, and kernels that have them.
use Rattle.std.proofs.Common.{◌≡◌, Option, Some, None, ℕ, ◌+◌, ◌<◌, List, [], ◌∷◌, ◌++◌, length, get_or, drop, refl, sym, subst, arith}
use Rattle.std.proofs.Math.Seq.{drop-length}
use Rattle.std.proofs.lemmas.List.{append-nil, append_assoc}
use Rattle.std.specs.Prelude.{Ok}
use Rattle.kernel_check.specs.Faults.{unless}
use Rattle.kernel_check.specs.Flat.{AreFlat, Stands}
use Rattle.kernel_check.specs.Programs.{IsSound, Program}
use Rattle.kernel_check.specs.declared.fault.CheckFault.{CheckFault}
use Rattle.kernel_check.specs.declared.flat.FlatStep.{FlatStep}
use Rattle.kernel_check.specs.declared.step.Step.{Step}
use Rattle.kernel_check.proofs.Walks.{at_index}

-- flat steps so far, before those of what is left
abbrev pub BeforeRest : List FlatStep → List Step → ℕ → Type 0
BeforeRest flats steps i = (rest : List FlatStep) → AreFlat rest (drop i steps) → AreFlat (flats ++ rest) steps

pub one_more : (flats : List FlatStep) (steps : List Step) (i : ℕ) (s : Step) (f : FlatStep) → i < length steps → s ≡ get_or steps i s → Stands f s
    → BeforeRest flats steps i → BeforeRest (flats ++ f ∷ []) steps (i + 1)
one_more flats steps i s f lt is stands before rest are =
    subst (λ (fs : List FlatStep). AreFlat fs steps) (sym (append_assoc flats (f ∷ []) rest))
    (before (f ∷ rest) (subst (λ (ss : List Step). AreFlat (f ∷ rest) ss) (sym (at_index steps i s lt is)) (stands, are)))

pub all_before : (flats : List FlatStep) (steps : List Step) (i : ℕ) → length steps ≡ i → BeforeRest flats steps i → AreFlat flats steps
all_before flats steps i done before =
    subst (λ (fs : List FlatStep). AreFlat fs steps) (append-nil flats)
    (before [] (subst (λ (ss : List Step). AreFlat [] ss) (sym (subst (λ n. drop n steps ≡ []) done (drop-length steps))) tt))

-- there is one for each step
pub as_many : (flats : List FlatStep) (steps : List Step) → AreFlat flats steps → length flats ≡ length steps
as_many [] [] are = refl
as_many [] (s ∷ steps) are = absurd are
as_many (f ∷ flats) [] are = absurd are
as_many (f ∷ flats) (s ∷ steps) are = let rest = as_many flats steps are.1 in omega (arith, rest)

-- a kernel is sound that is the one that its checks gave
pub sound_as_well : (p q : Program) (o : Option CheckFault) → unless o q ≡ Ok p → IsSound p → IsSound q
sound_as_well p q None is sound =
    let same : p ≡ q = cc in
    subst IsSound same sound
sound_as_well p q (Some f) is sound = absurd cc
