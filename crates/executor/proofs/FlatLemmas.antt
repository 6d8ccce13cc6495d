-- A flat step does what the step does that it stands for.
use Rattle.std.proofs.Common.{◌≡◌, ◌==◌, false, cond, Option, Some, None, ℕ, zero, suc, ◌<◌, List, [], ◌∷◌, refl, sym, ap, ◌∙◌, subst, arith}
use Rattle.std.specs.Prelude.{slice_get}
use Rattle.std.proofs.lemmas.Bool.Decides.{nat_tests}
use Rattle.executor.specs.Items.{Contents, Surroundings}
use Rattle.executor.specs.Meaning.{Act, act, broke, turn, turn_at}
use Rattle.executor.specs.declared.registers.Registers.{Registers}
use Rattle.executor.specs.inner.Flat.{Makes}
use Rattle.kernel_check.specs.Flat.{AreFlat, IsPlain, Stands, plain}
use Rattle.kernel_check.specs.declared.flat.FlatStep.{FlatStep}
use Rattle.kernel_check.specs.declared.step.Step.{Step}
use Rattle.queue_error.specs.declared.rule.Rule.TheVariants.{A5}

-- the step that a flat one stands for
pub stands_at : (flats : List FlatStep) (steps : List Step) (i : ℕ) (f : FlatStep) → AreFlat flats steps → slice_get flats i ≡ Some f
    → (s : Step) × ((slice_get steps i ≡ Some s) × Stands f s)
stands_at [] steps i f are found = absurd (nothing found)
  where
    nothing : None ≡ Some f → ⊥
    nothing e = cc
stands_at (g ∷ flats) [] i f are found = absurd are
stands_at (g ∷ flats) (s ∷ steps) zero f are found =
    let same : g ≡ f = cc in
    (s, (refl, subst (λ h. Stands h s) same are.0))
stands_at (g ∷ flats) (s ∷ steps) (suc i) f are found = stands_at flats steps i f are.1 found

-- what the code answers of a flat step is told of its step
pub makes_by : (p : Option Step) (s : Step) (a : Surroundings) (before : Registers) (next : ℕ) (m : Contents) (x : Act) → IsPlain p s
    → Makes p a before next m x → act a (record { registers = before; next = next }) m s ≡ x
makes_by None s a before next m x is makes = absurd makes
makes_by (Some t) s a before next m x is makes = subst (λ (u : Step). act a (record { registers = before; next = next }) m u ≡ x) is makes

-- a turn at a flat step
pub flat_turn : (a b : Surroundings) (flats : List FlatStep) (steps : List Step) (before : Registers) (next : ℕ) (m : Contents) (f : FlatStep) (x : Act)
    → a ≡ b → AreFlat flats steps → slice_get flats next ≡ Some f → Makes (plain f) a before next m x → (executed : ℕ) → executed < 65536
    → turn b steps (record { registers = before; next = next }) executed m ≡ x
flat_turn a b flats steps before next m f x around are found makes executed few =
    let there = stands_at flats steps next f are found in
    let within : (executed == 65536) ≡ false = grind (arith, nat_tests) in
    subst (λ (s : Surroundings). turn s steps (record { registers = before; next = next }) executed m ≡ x) around
    (ap (turn_at a (record { registers = before; next = next }) executed m) there.1.0
    ∙ (ap (λ c. cond c (broke A5 None) (act a (record { registers = before; next = next }) m there.0)) within
    ∙ makes_by (plain f) there.0 a before next m x there.1.1 makes))
