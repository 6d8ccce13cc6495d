-- The names of rights, one more.
use Rattle.std.proofs.Common.{◌≡◌, List, [], ◌∷◌, Option, Some, None, refl, sym, ap, ◌∙◌}
use Rattle.std.specs.Prelude.{option_and_then}
use Rattle.policy.specs.declared.rights.Rights.{Rights}
use Rattle.policy.specs.declared.rights.Right.{Right}
use Rattle.words.specs.Lines.{Word}
use Rattle.script.specs.Rights.{rights_with, with_right, right_of}

pub rights_end : (rights : Rights) → rights_with rights [] ≡ Some rights
unfolding rights_with
rights_end rights = refl

pub rights_step : (rights : Rights) (name : Word) (names : List Word) →
    rights_with rights (name ∷ names) ≡ option_and_then (λ right. rights_with (with_right rights right) names) (right_of name)
unfolding rights_with
rights_step rights name names = refl

pub rights_none : (rights : Rights) (items : List Word) (name : Word) (names : List Word) → items ≡ name ∷ names → right_of name ≡ None → rights_with rights items ≡ None
rights_none rights items name names e none =
    ap (rights_with rights) e ∙ rights_step rights name names
    ∙ ap (option_and_then (λ right. rights_with (with_right rights right) names)) none

pub rights_some : (rights next : Rights) (items : List Word) (name : Word) (names : List Word) (right : Right) → items ≡ name ∷ names → right_of name ≡ Some right →
    next ≡ with_right rights right → rights_with rights items ≡ rights_with next names
rights_some rights next items name names right e some is_next =
    ap (rights_with rights) e ∙ rights_step rights name names
    ∙ ap (option_and_then (λ right. rights_with (with_right rights right) names)) some ∙ ap (λ rights. rights_with rights names) (sym is_next)
