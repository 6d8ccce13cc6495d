-- Lists with commas (own).
use Rattle.std.specs.Prelude.{ℕ, Bool, true, false, List, [], ◌∷◌, ◌++◌, flat_map, codes, if◌then◌else◌}

-- a list has an item
abbrev pub has_items : {X : Type 0} → List X → Bool
has_items [] = false
has_items (item ∷ items) = true

-- a comma, where another item stands before
abbrev pub comma_if : Bool → List ℕ
comma_if behind = if behind then codes "," else []

-- what follows the first item of a list: each behind a comma
abbrev pub behind_commas : List (List ℕ) → List ℕ
behind_commas items = flat_map (λ item. codes "," ++ item) items

-- items with commas between them
abbrev pub with_commas : List (List ℕ) → List ℕ
with_commas [] = []
with_commas (item ∷ items) = item ++ behind_commas items

-- items with commas between them, or a dash where there is none
abbrev pub commas_or_dash : List (List ℕ) → List ℕ
commas_or_dash items = if has_items items then with_commas items else codes "-"
