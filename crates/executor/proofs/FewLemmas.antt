-- Steps that set few registers leave the others as they are.
use Rattle.std.proofs.Common.{◌≡◌, ◌==◌, ℕ, zero, suc, ◌+◌, ◌-◌, ◌<◌, ◌≤◌, nat_lt, Bool, true, false, List, [], ◌∷◌, length, slice_set, replicate, Option, Some, None, refl, ap, ◌∙◌, subst, arith}
use Rattle.std.specs.Prelude.{drop, slice_get, if◌then◌else◌, Result, Ok, Err}
use Rattle.std.specs.List.{list_all}
use Rattle.std.proofs.lemmas.Bool.{and_parts}
use Rattle.std.proofs.lemmas.Bool.Decides.{nat_tests}
use Rattle.executor.specs.Items.{Contents, Surroundings, fresh}
use Rattle.executor.specs.Meaning.{Act, goes_on, arrives, ends, broke, act, turn, turn_at, after_load, after_store, after_group_store, after_atomic32, after_atomic64}
use Rattle.executor.specs.Atomics.{told32, told64}
use Rattle.executor.specs.Registers.{cleared, with1, with32, with64, with_any}
use Rattle.executor.specs.declared.item.Item.{Item}
use Rattle.executor.specs.declared.registers.Registers.{Registers}
use Rattle.executor.specs.inner.Few.{is_low, LeavesRest, RestIsZero, SetFew}
use Rattle.kernel_check.specs.Steps.{sets, number_in}
use Rattle.kernel_check.specs.declared.step.AnyRegister.{AnyRegister}
use Rattle.kernel_check.specs.declared.step.AnyRegister.TheVariants as register
use Rattle.kernel_check.specs.declared.step.AtomicStep.{AtomicStep}
use Rattle.kernel_check.specs.declared.step.NumberType.{NumberType}
use Rattle.kernel_check.specs.declared.step.Source.{Source}
use Rattle.kernel_check.specs.declared.step.Step.{Step}
use Rattle.kernel_check.specs.declared.step.Step.TheVariants as step
use Rattle.queue_error.specs.declared.error.SegmentAddress.{SegmentAddress}
use Rattle.queue_error.specs.declared.rule.Rule.{Rule}
use Rattle.queue_error.specs.declared.rule.Rule.TheVariants.{A5}

drop_set : {X : Type 0} → (k n : ℕ) (x : X) (xs : List X) → n < k → drop k (slice_set xs n x) ≡ drop k xs
drop_set zero n x xs less = absurd (omega arith)
drop_set (suc k) zero x [] less = refl
drop_set (suc k) zero x (y ∷ ys) less = refl
drop_set (suc k) (suc n) x [] less = refl
drop_set (suc k) (suc n) x (y ∷ ys) less = drop_set k n x ys (omega arith)

low : (n : ℕ) → is_low (Some n) ≡ true → n < 8
low n is = grind (arith, nat_tests)

module _ (r : Registers) (rest : RestIsZero r) where
  low1 : (n : ℕ) (bit : Bool) → is_low (Some n) ≡ true → RestIsZero (with1 r n bit)
  low1 n bit is = (rest.0, (rest.1.0, drop_set 8 n bit r.control (low n is) ∙ rest.1.1))

  low32 : (n bits : ℕ) → is_low (Some n) ≡ true → RestIsZero (with32 r n bits)
  low32 n bits is = (drop_set 8 n bits r.single (low n is) ∙ rest.0, rest.1)

  low64 : (n bits : ℕ) → is_low (Some n) ≡ true → RestIsZero (with64 r n bits)
  low64 n bits is = (rest.0, (drop_set 8 n bits r.double (low n is) ∙ rest.1.0, rest.1.1))

  low_any : (t : AnyRegister) (bits : ℕ) → is_low (Some (number_in t)) ≡ true → RestIsZero (with_any r t bits)
  low_any (register.Control n) bits is = low1 n _ is
  low_any (register.Single n) bits is = low32 n _ is
  low_any (register.Double n) bits is = low64 n bits is

  low_told32 : (t : Option ℕ) (old : ℕ) → is_low t ≡ true → RestIsZero (told32 r t old)
  low_told32 None old is = rest
  low_told32 (Some n) old is = low32 n old is

  low_told64 : (t : Option ℕ) (old : ℕ) → is_low t ≡ true → RestIsZero (told64 r t old)
  low_told64 None old is = rest
  low_told64 (Some n) old is = low64 n old is

-- what a turn leaves of an item
abbrev Keeps : Act → Type 0
Keeps (goes_on i m) = RestIsZero i.registers
Keeps (arrives i m) = RestIsZero i.registers
Keeps (ends m) = Unit {0}
Keeps (broke rule address) = Unit {0}

module _ (a : Surroundings) (i : Item) (m : Contents) (rest : RestIsZero i.registers) where
  kept_load : (t : AnyRegister) (kind : NumberType) (address : SegmentAddress) (found : Result ℕ Rule) → is_low (Some (number_in t)) ≡ true
      → Keeps (after_load i m t kind address found)
  kept_load t kind address (Ok value) is = low_any i.registers rest t _ is
  kept_load t kind address (Err rule) is = tt

  kept_store : (address : SegmentAddress) (found : Result (ℕ → Option ℕ) Rule) → Keeps (after_store i m address found)
  kept_store address (Ok written) = rest
  kept_store address (Err rule) = tt

  kept_group_store : (address : SegmentAddress) (found : Result (List ℕ) Rule) → Keeps (after_group_store i m address found)
  kept_group_store address (Ok group) = rest
  kept_group_store address (Err rule) = tt

  kept32 : (s : AtomicStep (Source ℕ)) (found : Result (List ℕ) Rule) → is_low s.target ≡ true → Keeps (after_atomic32 i m s found)
  kept32 s (Ok bytes) is = low_told32 i.registers rest s.target _ is
  kept32 s (Err rule) is = tt

  kept64 : (s : AtomicStep (Source ℕ)) (found : Result (List ℕ) Rule) → is_low s.target ≡ true → Keeps (after_atomic64 i m s found)
  kept64 s (Ok bytes) is = low_told64 i.registers rest s.target _ is
  kept64 s (Err rule) is = tt

  kept : (s : Step) → is_low (sets s) ≡ true → Keeps (act a i m s)
  kept (step.Control s) is = low1 i.registers rest s.target _ is
  kept (step.Single s) is = low32 i.registers rest s.target _ is
  kept (step.Double s) is = low64 i.registers rest s.target _ is
  kept (step.Convert c) is = low_any i.registers rest c.target _ is
  kept (step.Argument l) is = low_any i.registers rest l.target _ is
  kept (step.Load l) is = kept_load l.target l.kind _ _ is
  kept (step.Store s) is = kept_store _ _
  kept (step.LoadGroup l) is = kept_load l.target l.kind _ _ is
  kept (step.StoreGroup s) is = kept_group_store _ _
  kept (step.Atomic32 s) is = kept32 s _ is
  kept (step.Atomic64 s) is = kept64 s _ is
  kept (step.Branch next) is = rest
  kept (step.ConditionalBranch b) is = rest
  kept step.Return is = tt
  kept step.Barrier is = rest
  kept (step.WorkItemQuery q) is = low_any i.registers rest q.target _ is

  module _ (steps : List Step) (few : SetFew steps) (executed : ℕ) where
    each : (xs : List Step) (n : ℕ) (s : Step) → list_all (λ x. is_low (sets x)) xs ≡ true → slice_get xs n ≡ Some s → is_low (sets s) ≡ true
    each [] zero s all found = absurd cc
    each [] (suc n) s all found = absurd cc
    each (x ∷ xs) zero s all found =
        let same : x ≡ s = cc in
        subst (λ y. is_low (sets y) ≡ true) same (and_parts (is_low (sets x)) (list_all (λ y. is_low (sets y)) xs) all).0
    each (x ∷ xs) (suc n) s all found = each xs n s (and_parts (is_low (sets x)) (list_all (λ y. is_low (sets y)) xs) all).1 found

    kept_turn : Keeps (turn a steps i executed m)
    kept_turn = by_step (slice_get steps i.next) refl
      where
        by_test : (b : Bool) (x : Act) → Keeps x → Keeps (if b then broke A5 None else x)
        by_test true x keeps = tt
        by_test false x keeps = keeps

        by_step : (o : Option Step) → slice_get steps i.next ≡ o → Keeps (turn_at a i executed m o)
        by_step None found = tt
        by_step (Some s) found = by_test (executed == 65536) (act a i m s) (kept s (each steps i.next s few found))

    pub kept_on : (now : Item) (after : Contents) → turn a steps i executed m ≡ goes_on now after → RestIsZero now.registers
    kept_on now after is = subst Keeps is kept_turn

    pub kept_there : (now : Item) (after : Contents) → turn a steps i executed m ≡ arrives now after → RestIsZero now.registers
    kept_there now after is = subst Keeps is kept_turn

-- ---- registers that are cleared again

pub cleared_rest : RestIsZero cleared
cleared_rest = (refl, (refl, refl))

-- the first eight of a list, set
abbrev pub first_set : {X : Type 0} → X → List X → List X
first_set x xs =
    slice_set (slice_set (slice_set (slice_set (slice_set (slice_set (slice_set (slice_set xs 0 x) 1 x) 2 x) 3 x) 4 x) 5 x) 6 x) 7 x

pub first_done : {X : Type 0} → (x : X) (xs : List X) → 8 ≤ length xs → drop 8 xs ≡ replicate 56 x → first_set x xs ≡ replicate 64 x
first_done x [] long rest = absurd (omega arith)
first_done x (a ∷ []) long rest = absurd (omega arith)
first_done x (a ∷ b ∷ []) long rest = absurd (omega arith)
first_done x (a ∷ b ∷ c ∷ []) long rest = absurd (omega arith)
first_done x (a ∷ b ∷ c ∷ d ∷ []) long rest = absurd (omega arith)
first_done x (a ∷ b ∷ c ∷ d ∷ e ∷ []) long rest = absurd (omega arith)
first_done x (a ∷ b ∷ c ∷ d ∷ e ∷ f ∷ []) long rest = absurd (omega arith)
first_done x (a ∷ b ∷ c ∷ d ∷ e ∷ f ∷ g ∷ []) long rest = absurd (omega arith)
first_done x (a ∷ b ∷ c ∷ d ∷ e ∷ f ∷ g ∷ h ∷ xs) long rest = ap (λ ys. x ∷ x ∷ x ∷ x ∷ x ∷ x ∷ x ∷ x ∷ ys) rest

-- an item that begins anew
pub begun_anew : (P : Item → ℕ → Type 0) (i : Item) (left : ℕ) → i ≡ fresh → left ≡ 65536 → P i (65536 - left) → P fresh 0
begun_anew P i left is all holds = subst (λ k. P fresh (65536 - k)) all (subst (λ j. P j (65536 - left)) is holds)

pub left_rest : (result : Bool) (steps : List Step) (before after : Registers) → result ≡ true → LeavesRest steps result before after → SetFew steps → RestIsZero before
    → RestIsZero after
left_rest true steps before after well leaves few rest = leaves few rest
left_rest false steps before after well leaves few rest = absurd cc
