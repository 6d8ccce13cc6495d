-- How many holds there are of a right, as holds come and go.
use Rattle.std.proofs.Common.{[], ◌≡◌, ℕ, zero, suc, ◌+◌, ◌<◌, ◌≤◌, Bool, true, false, ◌&&◌, List, ◌∷◌, ◌++◌, filter, map, take, drop, get_or, length, Some, refl, sym, ap, ◌∙◌, arith}
use Rattle.std.proofs.Common.{append_assoc, append-nil, cond}
use Rattle.std.specs.Prelude.{if◌then◌else◌}
use Rattle.grants.proofs.Terms.{Cell, ClientId, IsCounted, Object, PacketId, QueueId, Right, Rights, Table, all_rights, cell_of, count_in, count_of, drop_more, filter-append, has}
use Rattle.grants.proofs.Terms.{hold_count, holds_of, is_held, is_hold_of, list_any, map-append, nat_lt, one_for_right, same_pair_itself, take_all, take_more}
use Rattle.std.proofs.lemmas.List.Sums.{sum_by-append}
use Rattle.grants.specs.declared.hold.Hold.{Hold}

abbrev one_if : Bool → ℕ
one_if b = if b then 1 else 0

-- one for a hold of the right
abbrev pub one_for : ClientId → Object → Right → Hold → ℕ
one_for c o right h = one_if (is_hold_of c o right h)

pub holds_of-one : (h : Hold) (c : ClientId) (o : Object) (right : Right) → holds_of (h ∷ []) c o right ≡ one_for c o right h
holds_of-one h c o right = grind arith

pub holds_of-append : (xs ys : List Hold) (c : ClientId) (o : Object) (right : Right) → holds_of (xs ++ ys) c o right ≡ holds_of xs c o right + holds_of ys c o right
holds_of-append xs ys c o right = sum_by-append (λ h. cond (is_hold_of c o right h) 1 0) xs ys

pub holds_of-among : (before behind : List Hold) (h : Hold) (c : ClientId) (o : Object) (right : Right)
    → holds_of (before ++ h ∷ behind) c o right ≡ holds_of (before ++ behind) c o right + one_for c o right h
holds_of-among before behind h c o right = grind (
  arith,
  holds_of-append before (h ∷ behind) c o right,
  holds_of-append (h ∷ []) behind c o right,
  holds_of-append before behind c o right,
)

module _ (old new : Table) (h : Hold) where
  -- one more hold is counted
  pub counted_more : (holds : List Hold) → IsCounted old holds
      → ((c : ClientId) (o : Object) (right : Right) → hold_count new c o right ≡ hold_count old c o right + one_for c o right h) → IsCounted new (holds ++ h ∷ [])
  counted_more holds is more c o right =
      let a = holds_of-append holds (h ∷ []) c o right in
      let b = holds_of-one h c o right in
      let d = is c o right in
      let e = more c o right in
      omega arith

  -- one hold is counted no more
  pub counted_fewer : (before behind : List Hold) → IsCounted old (before ++ h ∷ behind)
      → ((c : ClientId) (o : Object) (right : Right) → hold_count old c o right ≡ hold_count new c o right + one_for c o right h) → IsCounted new (before ++ behind)
  counted_fewer before behind is fewer = grind (arith, holds_of-among)

-- a hold among others is counted
pub once-counted : (table : Table) (before behind : List Hold) (h : Hold) → IsCounted table (before ++ h ∷ behind)
    → (right : Right) → one_for_right h.rights right ≤ hold_count table h.client h.object right
once-counted table before behind h is right = grind (arith, holds_of-among before behind h h.client h.object right, same_pair_itself h.client h.object)

-- ---- holds that are dropped one after another

module _ (keep : Hold → Bool) (holds : List Hold) where
  -- those that are kept of the first holds, and all behind them
  abbrev pub kept_to : ℕ → List Hold
  kept_to i = filter keep (take i holds) ++ drop i holds

  pub kept_to-here : (i : ℕ) (d : Hold) → i < length holds → kept_to i ≡ filter keep (take i holds) ++ get_or holds i d ∷ drop (i + 1) holds
  kept_to-here i d within = ap (λ xs. filter keep (take i holds) ++ xs) (drop_more holds i d within)

  kept_to-next : (i : ℕ) (d : Hold) → i < length holds → kept_to (i + 1) ≡ filter keep (take i holds) ++ (filter keep (get_or holds i d ∷ []) ++ drop (i + 1) holds)
  kept_to-next i d within =
      ap (λ xs. filter keep xs ++ drop (i + 1) holds) (take_more holds i d within)
      ∙ ap (λ xs. xs ++ drop (i + 1) holds) (filter-append keep (take i holds) (get_or holds i d ∷ []))
      ∙ append_assoc (filter keep (take i holds)) (filter keep (get_or holds i d ∷ [])) (drop (i + 1) holds)

  pub kept_to-kept : (i : ℕ) (d : Hold) → i < length holds → keep (get_or holds i d) ≡ true → kept_to (i + 1) ≡ kept_to i
  kept_to-kept i d within keeps = grind (arith, kept_to-next i d within, kept_to-here i d within)

  pub kept_to-dropped : (i : ℕ) (d : Hold) → i < length holds → keep (get_or holds i d) ≡ false → kept_to (i + 1) ≡ filter keep (take i holds) ++ drop (i + 1) holds
  kept_to-dropped i d within drops = grind (arith, kept_to-next i d within)

  pub kept_to-all : (i : ℕ) → length holds ≤ i → kept_to i ≡ filter keep holds
  kept_to-all i past = ap (λ xs. filter keep xs ++ drop i holds) (take_all i holds past) ∙ ap (λ xs. filter keep holds ++ xs) (drop_past i holds past) ∙ append-nil (filter keep holds)
    where
      drop_past : (i : ℕ) (xs : List Hold) → length xs ≤ i → drop i xs ≡ []
      drop_past zero [] h = refl
      drop_past (suc i) [] h = refl
      drop_past zero (x ∷ xs) h = absurd (omega arith)
      drop_past (suc i) (x ∷ xs) h = drop_past i xs (omega arith)

-- a list with one more of what the items of another give
pub put-more : {X Y : Type 0} (f : X → Y) (first so_far more : List Y) (xs : List X) (i : ℕ) (d : X) → i < length xs → so_far ≡ first ++ map f (take i xs)
    → more ≡ so_far ++ f (get_or xs i d) ∷ []
    → more ≡ first ++ map f (take (i + 1) xs)
put-more f first so_far more xs i d within e put =
    put ∙ ap (λ ys. ys ++ f (get_or xs i d) ∷ []) e ∙ append_assoc first (map f (take i xs)) (f (get_or xs i d) ∷ [])
    ∙ ap (λ ys. first ++ ys) (sym (ap (map f) (take_more xs i d within) ∙ map-append f (take i xs) (get_or xs i d ∷ [])))

-- ---- no hold

none_of : (packet pair right : Bool) → one_if (pair && right) ≡ 0 → ((packet && pair) && right) ≡ false
none_of packet pair right h4 = grind arith

-- where no hold of a right is counted, no packet holds it
pub held-uncounted : (holds : List Hold) (q : QueueId) (p : PacketId) (c : ClientId) (o : Object) (right : Right) → holds_of holds c o right ≡ 0 → is_held holds q p c o right ≡ false
held-uncounted [] q p c o right h = refl
held-uncounted (x ∷ xs) q p c o right h = grind (arith, holds_of-append (x ∷ []) xs c o right, held-uncounted xs q p c o right)

uncounted_and : (a : Bool) (n : ℕ) (b : Bool) → (n ≡ 0 → b ≡ false) → (a && nat_lt 0 n) ≡ false → (a && b) ≡ false
uncounted_and a n b h4 h5 = grind arith

any_less : (f g : Right → Bool) → ((r : Right) → f r ≡ false → g r ≡ false) → (xs : List Right) → list_any f xs ≡ false → list_any g xs ≡ false
any_less f g less [] h = refl
any_less f g less (x ∷ xs) h = grind (arith, any_less f g less xs)

-- where no hold of any of some rights is counted, no packet holds one of them
pub unheld : (table : Table) (holds : List Hold) → IsCounted table holds → (c : ClientId) (o : Object) (rights : Rights) (cell : Cell) → cell_of table c o ≡ Some cell
    → list_any (λ right. has rights right && nat_lt 0 (count_of cell.held right)) all_rights ≡ false
    → (q : QueueId) (p : PacketId) → list_any (λ right. has rights right && is_held holds q p c o right) all_rights ≡ false
unheld table holds is c o rights cell at none q p = grind (
  arith,
  any_less (λ right. has rights right && nat_lt 0 (count_of cell.held right)) (λ right. has rights right && is_held holds q p c o right)
      (λ right. uncounted_and (has rights right) (count_of cell.held right) (is_held holds q p c o right)
      (λ zero_is. held-uncounted holds q p c o right (sym (is c o right) ∙ ap (count_in right) at ∙ zero_is))) all_rights none,
)
