-- Counts right by right, and what one changed cell leaves in the table.
use Rattle.std.proofs.Common.{◌≡◌, ℕ, ◌<◌, List, length, get_or, Bool, true, false, Option, Some, refl, ap, ◌∙◌, arith}
use Rattle.std.specs.Prelude.{if◌then◌else◌}
use Rattle.grants.proofs.Terms.{Cell, ClientId, Object, SameRights, Table, cell_of, has, has_right, list_all, list_all_at}
use Rattle.grants.proofs.Terms.{replacement, same_pair, same_pair_is}

module _ (old : Table) (c : ClientId) (o : Object) (before : Option Cell) (is : cell_of old c o ≡ before) (P : Bool → Option Cell → Option Cell → Type 0)
    (others : (s : Option Cell) → P false s s) where
  -- what is so of the changed cell, and of all that didn't change, is so everywhere
  pub at_each : (new : Table) (cell : Cell) → ((c' : ClientId) (o' : Object)
      → cell_of new c' o' ≡ (if same_pair c' o' c o then replacement cell (cell_of old c' o') else cell_of old c' o'))
      → P true before (replacement cell before) → (c' : ClientId) (o' : Object) → P (same_pair c' o' c o) (cell_of old c' o') (cell_of new c' o')
  at_each new cell change here c' o' = by_test (same_pair c' o' c o) refl (change c' o')
    where
      by_test : (same : Bool) → same_pair c' o' c o ≡ same → cell_of new c' o' ≡ (if same then replacement cell (cell_of old c' o') else cell_of old c' o')
          → P same (cell_of old c' o') (cell_of new c' o')
      by_test same h2 h3 = grind (arith, same_pair_is)

  -- the same where nothing changed
  pub at_each_same : P true before before → (c' : ClientId) (o' : Object) → P (same_pair c' o' c o) (cell_of old c' o') (cell_of old c' o')
  at_each_same here c' o' = grind (arith, same_pair_is)

-- a cell with the rights of the one before leaves all rights in force as they were
pub same_granted : (old : Table) (c : ClientId) (o : Object) (before : Cell) → cell_of old c o ≡ Some before
    → (new : Table) (cell : Cell) → new.rules ≡ old.rules
    → ((c' : ClientId) (o' : Object) → cell_of new c' o' ≡ (if same_pair c' o' c o then replacement cell (cell_of old c' o') else cell_of old c' o'))
    → cell.rights ≡ before.rights → SameRights old new
same_granted old c o before is new cell rules change rights = record {
  same_rules = rules;
  same_rights = λ client object right.
      at_each old c o (Some before) is (λ same s t. has_right right t ≡ has_right right s) (λ s. refl) new cell change (ap (λ r. has r right) rights) client object;
}

pub all_at : {X : Type 0} (p : X → Bool) (xs : List X) (i : ℕ) (d : X) → i < length xs → list_all p xs ≡ true → p (get_or xs i d) ≡ true
all_at p xs i d within all = grind (arith, list_all_at)

pub SameRights-then : (a b c : Table) → SameRights a b → SameRights b c → SameRights a c
SameRights-then a b c first then_ = record {
  same_rules = then_.same_rules ∙ first.same_rules;
  same_rights = λ client object right. then_.same_rights client object right ∙ first.same_rights client object right;
}
