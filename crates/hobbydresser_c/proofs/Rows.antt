-- The kernels of a policy, one by one.
use Rattle.std.proofs.Common.{◌≡◌, ℕ, zero, suc, ◌+◌, ◌<◌, ◌≤◌, List, [], ◌∷◌, ◌++◌, length, refl, sym, ap, ◌∙◌, subst, Bool, true, false, nat_le, Option, Some, None, Err, add-one, arith, map, take, slice_get}
use Rattle.std.proofs.lemmas.Bool.Decides.{nat_tests}
use Rattle.std.specs.Borrow.{Bor}
use Rattle.std.specs.Option.{IsSome, option_copied}
use Rattle.hobbydresser_c.specs.declared.kernels.KernelError.{KernelError}
use Rattle.hobbydresser_c.specs.declared.kernels.KernelError.TheVariants as error
use Rattle.hobbydresser_c.specs.Kernels.{AreRefused, JudgesKernel, Passes}
use Rattle.std.proofs.Common.{option_map}
use Rattle.policy.specs.Policy.{Name, Source, row_of}
use Rattle.policy.proofs.NameLemmas.{numbered-next}

-- what the next row comes to follows what the rows before come to
next-at : {X Y : Type 0} (f : X → Y) (rows : List (Name × X)) (i : ℕ) (y : Y) → option_map f (option_map (λ (row : Name × X). row.1) (slice_get rows i)) ≡ Some y
    → map (λ (row : Name × X). f row.1) (take i rows) ++ y ∷ [] ≡ map (λ (row : Name × X). f row.1) (take (suc i) rows)
next-at f [] i y found = cc
next-at f (r ∷ rows) zero y found = let same : f r.1 ≡ y = cc in ap (λ x. x ∷ []) (sym same)
next-at f (r ∷ rows) (suc i) y found = ap (λ xs. f r.1 ∷ xs) (next-at f rows i y found)

pub rows-next : {X Y : Type 0} (f : X → Y) (rows : List (Name × X)) (i : ℕ) (y : Y) → option_map f (row_of rows (i + 1)) ≡ Some y
    → map (λ (row : Name × X). f row.1) (take i rows) ++ y ∷ [] ≡ map (λ (row : Name × X). f row.1) (take (i + 1) rows)
rows-next {X = X} f rows i y found = rw add-one (next-at f rows i y (sym (ap (λ r. option_map f (option_map (λ (row : Name × X). row.1) r)) (numbered-next rows i)) ∙ found))

-- what is lent of something that is there is there
pub copied-some : {X : Type 0} (o : Option (Bor X)) (p : Option X) → option_copied o ≡ p → (p ≡ None → ⊥) → IsSome o
copied-some None p e there = absurd (there (sym e))
copied-some (Some b) p e there = refl

-- the next kernel is the first that is refused, where those before pass
pub refused-next : (rows : List (Name × Source)) (before : ℕ) (why : KernelError) → before < length rows → ((number : ℕ) → number ≤ before → Passes rows number) → JudgesKernel rows (before + 1) (Err why) → AreRefused rows why
refused-next rows before error.OutOfMemory below passed judged = (before, below, passed)
refused-next rows before (error.Fault fault) there passed judged = record {
  refused = judged.1;
  earlier = λ number below. let is = judged.0 in passed number (omega (arith, below, is));
}

-- those up to the next kernel pass
pub passes-next : (rows : List (Name × Source)) (before : ℕ) → ((number : ℕ) → number ≤ before → Passes rows number) → Passes rows (before + 1) → (number : ℕ) → number ≤ before + 1 → Passes rows number
passes-next rows before passed next number up_to = by_last (nat_le number before) refl
  where
    by_last : (b : Bool) → nat_le number before ≡ b → Passes rows number
    by_last true is = passed number (grind (arith, nat_tests, is))
    by_last false is = let last : number ≡ before + 1 = grind (arith, nat_tests, is, up_to) in subst (Passes rows) (sym last) next
