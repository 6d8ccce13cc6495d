-- One argument more at its place.
use Rattle.std.proofs.Common.{◌≡◌, ℕ, List, [], ◌∷◌, ◌++◌, Option, None, append_assoc, sym, ap, ◌∙◌}
use Rattle.hsail_reader.specs.declared.module.Argument.{Argument}
use Rattle.kernel_check.specs.Checks.{argument_check, argument_checks}
use Rattle.kernel_check.specs.Faults.{first_fault}
use Rattle.kernel_check.specs.Layout.{placed_at, end_behind, placed_from, end_from, wide_at, wide_from}
use Rattle.kernel_check.specs.Names.{Known}
use Rattle.kernel_check.specs.declared.fault.CheckFault.{CheckFault}
use Rattle.kernel_check.specs.declared.layout.Placed.{Placed}
use Rattle.kernel_check.proofs.CheckLemmas.{passed}

pub faults_more : (whole : Option CheckFault) (names new : Known Placed) (e m : ℕ) (a : Argument) (rest tail : List Argument)
    → rest ≡ a ∷ tail → new ≡ names ++ (a.name, placed_at e a) ∷ [] → m ≡ end_behind e a
    → first_fault (argument_check names e a ∷ []) ≡ None → first_fault (argument_checks names e rest) ≡ whole
    → first_fault (argument_checks new m tail) ≡ whole
faults_more whole names new e m a rest tail at is behind none before =
    ap (λ ns. first_fault (argument_checks ns m tail)) is
    ∙ ap (λ k. first_fault (argument_checks (names ++ (a.name, placed_at e a) ∷ []) k tail)) behind
    ∙ sym (passed (argument_check names e a ∷ []) (argument_checks (names ++ (a.name, placed_at e a) ∷ []) (end_behind e a) tail) none)
    ∙ ap (λ r. first_fault (argument_checks names e r)) (sym at) ∙ before

pub names_more : (whole names new : Known Placed) (e m : ℕ) (a : Argument) (rest tail : List Argument)
    → rest ≡ a ∷ tail → new ≡ names ++ (a.name, placed_at e a) ∷ [] → m ≡ end_behind e a
    → names ++ placed_from e rest ≡ whole → new ++ placed_from m tail ≡ whole
names_more whole names new e m a rest tail at is behind before =
    ap (λ ns. ns ++ placed_from m tail) is
    ∙ ap (λ k. (names ++ (a.name, placed_at e a) ∷ []) ++ placed_from k tail) behind
    ∙ append_assoc names ((a.name, placed_at e a) ∷ []) (placed_from (end_behind e a) tail)
    ∙ ap (λ r. names ++ placed_from e r) (sym at) ∙ before

pub wide_more : (whole offsets new : List ℕ) (e m : ℕ) (a : Argument) (rest tail : List Argument)
    → rest ≡ a ∷ tail → new ≡ offsets ++ wide_at e a → m ≡ end_behind e a
    → offsets ++ wide_from e rest ≡ whole → new ++ wide_from m tail ≡ whole
wide_more whole offsets new e m a rest tail at is behind before =
    ap (λ ns. ns ++ wide_from m tail) is
    ∙ ap (λ k. (offsets ++ wide_at e a) ++ wide_from k tail) behind
    ∙ append_assoc offsets (wide_at e a) (wide_from (end_behind e a) tail)
    ∙ ap (λ r. offsets ++ wide_from e r) (sym at) ∙ before

pub end_more : (whole e m : ℕ) (a : Argument) (rest tail : List Argument)
    → rest ≡ a ∷ tail → m ≡ end_behind e a → end_from e rest ≡ whole → end_from m tail ≡ whole
end_more whole e m a rest tail at behind before =
    ap (λ k. end_from k tail) behind ∙ ap (end_from e) (sym at) ∙ before
