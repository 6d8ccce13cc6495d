-- A fold, item by item.
use Rattle.std.proofs.Common.{◌≡◌, ℕ, ◌+◌, ◌<◌, List, ◌∷◌, drop, drop-cons, add-one, get_or, length, refl, sym, ◌∙◌, ap}
use Rattle.std.specs.Prelude.{fold}

at_place : {X : Type 0} (xs : List X) (i : ℕ) (d : X) → i < length xs → drop i xs ≡ get_or xs i d ∷ drop (i + 1) xs
at_place xs i d lt = rw (add-one, drop-cons xs i d) refl

-- what the rest of the items comes to from one item on, from the next item on
pub fold-next : {X Y : Type 0} (f : Y → X → Y) (xs : List X) (i : ℕ) (v : X) (before now whole : Y) → i < length xs → v ≡ get_or xs i v →
    now ≡ f before v → fold f before (drop i xs) ≡ whole → fold f now (drop (i + 1) xs) ≡ whole
fold-next f xs i v before now whole lt at grown so_far =
    ap (λ y. fold f y (drop (i + 1) xs)) (grown ∙ ap (λ x. f before x) at) ∙ sym (ap (λ ys. fold f before ys) (at_place xs i v lt)) ∙ so_far
