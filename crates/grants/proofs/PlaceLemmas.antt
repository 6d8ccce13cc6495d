-- The places of cells: each lies in the table, and no two are the same.
use Rattle.std.proofs.Common.{[], ◌≡◌, ℕ, zero, suc, ◌+◌, ◌-◌, ◌*◌, ◌/◌, ◌<◌, ◌≤◌, Bool, true, false, ◌&&◌, List, ◌∷◌, length, Option, Some, None, refl, sym, ap, ◌∙◌, arith, true≢false}
use Rattle.grants.proofs.Terms.{Cell, ClientId, Object, Rules, both, is_some, item_at, knows_client, knows_object, leb-true, ltb-true, nat_le, nat_lt, object_count, object_place}
use Rattle.grants.proofs.Terms.{replacement, same_pair, same_pair_is, same_pair_itself, slice_get, slice_set}
use Rattle.std.specs.Prelude.{if◌then◌else◌}
use Rattle.std.proofs.Math.Nat.{mul-le-mul_right}
use Rattle.std.proofs.lemmas.Nat.{div-mul-add}
use Rattle.grants.specs.Cells.{place_of}

pub from_one : (n m : ℕ) → (nat_lt 0 n && nat_le n m) ≡ true → (0 < n) × (n ≤ m)
from_one n m h = let parts = both (nat_lt 0 n) (nat_le n m) h in (ltb-true 0 n parts.0, leb-true n m parts.1)

module _ (rules : Rules) where
  pub in_row : (o : Object) → knows_object rules o ≡ true → object_place rules o < object_count rules
  in_row o h2 = grind arith

  pub same_in_row : (o p : Object) → knows_object rules o ≡ true → knows_object rules p ≡ true → object_place rules o ≡ object_place rules p → o ≡ p
  same_in_row o p h3 h4 h5 = grind arith

  -- a place is one only for a declared client and object
  pub record IsPlace (c : ClientId) (o : Object) (place : ℕ) : Type 0 where
    pub client : knows_client rules c ≡ true
    pub object : knows_object rules o ≡ true
    pub is : place ≡ (c.0 - 1) * object_count rules + object_place rules o

  pub place-Some : (c : ClientId) (o : Object) (place : ℕ) → place_of rules c o ≡ Some place → IsPlace c o place
  place-Some c o place h = grind arith

  pub place-within : (c : ClientId) (o : Object) (place : ℕ) → place_of rules c o ≡ Some place → place < rules.clients * object_count rules
  place-within c o place h =
      let p = place-Some c o place h in
      let b = from_one c.0 rules.clients p.client in
      let row : suc (c.0 - 1) ≤ rules.clients = omega (arith, b.0, b.1) in
      let rows : suc (c.0 - 1) * object_count rules ≤ rules.clients * object_count rules = mul-le-mul_right (object_count rules) row in
      let here = in_row o p.object in
      let is = p.is in
      omega arith

  pub same_row : (a b i j : ℕ) → i < object_count rules → j < object_count rules → a * object_count rules + i ≡ b * object_count rules + j → a ≡ b
  same_row a b i j h k e = sym (div-mul-add a (object_count rules) i h) ∙ ap (λ n. n / object_count rules) e ∙ div-mul-add b (object_count rules) j k

  pub place-same : (c : ClientId) (o : Object) (c' : ClientId) (o' : Object) (place : ℕ) → place_of rules c o ≡ Some place → place_of rules c' o' ≡ Some place → (c ≡ c') × (o ≡ o')
  place-same c o c' o' place h h' = grind (
    arith,
    same_row (c.0 - 1) (c'.0 - 1) (object_place rules o) (object_place rules o') (in_row o (place-Some c o place h).object)
        (in_row o' (place-Some c' o' place h').object) (sym (place-Some c o place h).is ∙ (place-Some c' o' place h').is),
    same_in_row o o' (place-Some c o place h).object (place-Some c' o' place h').object,
  )

-- ---- a list with one item changed

pub get-set_here : {X : Type 0} (cells : List X) (i : ℕ) (cell : X) → i < length cells → slice_get (slice_set cells i cell) i ≡ Some cell
get-set_here [] i cell h = absurd (omega arith)
get-set_here (x ∷ xs) zero cell h = refl
get-set_here (x ∷ xs) (suc i) cell h = get-set_here xs i cell (omega arith)

pub get-set_other : {X : Type 0} (cells : List X) (i j : ℕ) (cell : X) → (i ≡ j → ⊥) → slice_get (slice_set cells i cell) j ≡ slice_get cells j
get-set_other [] i j cell other = refl
get-set_other (x ∷ xs) zero zero cell other = absurd (other refl)
get-set_other (x ∷ xs) zero (suc j) cell other = refl
get-set_other (x ∷ xs) (suc i) zero cell other = refl
get-set_other (x ∷ xs) (suc i) (suc j) cell other = get-set_other xs i j cell (λ e. other (ap suc e))

get-within : (cells : List Cell) (i : ℕ) (new : Cell) → i < length cells → replacement new (slice_get cells i) ≡ Some new
get-within [] i new h = absurd (omega arith)
get-within (x ∷ xs) zero new h = refl
get-within (x ∷ xs) (suc i) new h = get-within xs i new (omega arith)

module _ (rules : Rules) (cells : List Cell) (long : length cells ≡ rules.clients * object_count rules) (c : ClientId) (o : Object) (new : Cell) where
  -- what a changed cell leaves at every client and object
  pub cell-set : (place : ℕ) → place_of rules c o ≡ Some place → (c' : ClientId) (o' : Object)
      → item_at (slice_set cells place new) (place_of rules c' o') ≡
      (if same_pair c' o' c o then replacement new (item_at cells (place_of rules c' o')) else item_at cells (place_of rules c' o'))
  cell-set place at c' o' = by_test (same_pair c' o' c o) refl (place_of rules c' o') refl
    where
      within : place < length cells
      within = let w = place-within rules c o place at in omega arith

      by_test : (same : Bool) → same_pair c' o' c o ≡ same → (at' : Option ℕ) → place_of rules c' o' ≡ at'
          → item_at (slice_set cells place new) at' ≡ (if same then replacement new (item_at cells at') else item_at cells at')
      by_test true same None is = refl
      by_test false same None is = refl
      by_test true same (Some place') is = grind (arith, same_pair_is c' o' c o same, get-set_here cells place new within, get-within cells place new within)
      by_test false same (Some place') is =
          get-set_other cells place place' new (λ e.
          let these = place-same rules c' o' c o place (is ∙ ap Some (sym e)) at in
          true≢false (sym (same_pair_itself c o) ∙ (λ i. same_pair (sym these.0 i) (sym these.1 i) c o) ∙ same))

module _ (rules : Rules) (cells : List Cell) (long : length cells ≡ rules.clients * object_count rules) (c : ClientId) (o : Object) where
  -- there is a cell just for a declared client and object
  pub cell-declared : is_some (item_at cells (place_of rules c o)) ≡ (knows_client rules c && knows_object rules o)
  cell-declared = by_test (place_of rules c o) refl
    where
      some_within : (xs : List Cell) (i : ℕ) → i < length xs → is_some (slice_get xs i) ≡ true
      some_within [] i h = absurd (omega arith)
      some_within (x ∷ xs) zero h = refl
      some_within (x ∷ xs) (suc i) h = some_within xs i (omega arith)

      none_for : (a b : Bool) (n : ℕ) → (if a && b then Some n else None) ≡ None → (a && b) ≡ false
      none_for a b n h4 = grind arith

      by_test : (at : Option ℕ) → place_of rules c o ≡ at → is_some (item_at cells (place_of rules c o)) ≡ (knows_client rules c && knows_object rules o)
      by_test None is = ap (λ at. is_some (item_at cells at)) is ∙ sym (none_for (knows_client rules c) (knows_object rules o) _ is)
      by_test (Some place) is =
          let p = place-Some rules c o place is in
          let w = place-within rules c o place is in
          ap (λ at. is_some (item_at cells at)) is ∙ some_within cells place (omega arith) ∙ sym (rw (p.client, p.object) refl)
