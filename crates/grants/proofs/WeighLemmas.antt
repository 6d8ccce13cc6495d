-- What rows allow, gathered for a client in a line, and put in the table place by place.
use Rattle.std.proofs.Common.{[], ◌≡◌, ℕ, suc, ◌+◌, ◌-◌, ◌*◌, ◌<◌, ◌≤◌, ◌==◌, Bool, true, false, not, ◌&&◌, ◌||◌, List, ◌∷◌, length, Option, Some, None, refl, sym, ap, ◌∙◌, arith, true≢false, inl, inr}
use Rattle.std.specs.Prelude.{if◌then◌else◌}
use Rattle.std.proofs.Math.Nat.{mul-le-mul_right}
use Rattle.std.proofs.lemmas.Bool.{and_from, cases_lt, lt-ltb, le-leb, le-ltb}
use Rattle.std.proofs.lemmas.Bool.Decides.{nat_tests}
use Rattle.policy.specs.declared.object.Kind.{Kind}
use Rattle.policy.specs.declared.object.Kind.TheVariants as kind
use Rattle.policy.specs.declared.object.Object.TheVariants as object
use Rattle.policy.specs.declared.rights.Right.TheVariants.{Use, Read, Write, Wait, Change, Launch}
use Rattle.policy.specs.declared.row.Target.{Target}
use Rattle.policy.specs.declared.row.Target.TheVariants as target
use Rattle.policy.specs.declared.row.RightsRow.{RightsRow}
use Rattle.policy.specs.declared.rows.PolicyRows.{PolicyRows}
use Rattle.policy.specs.Object.{kind_of, same_kind, same_object}
use Rattle.policy.specs.Rules.{covers_right, is_for, is_on, rows_allow}
use Rattle.policy.proofs.PairLemmas.{itself, same_number, same_object_is, same_object_itself}
use Rattle.grants.specs.Cells.{objects_before, place_of}
use Rattle.grants.specs.inner.Weighing.{AllowsUpTo, AreWithin, IsWithin, IsAllowedBy, IsFilled, IsLine, settled_at, allowed_at, covered_at, covers_place, has_at, is_place, kind_place, kind_place_at, target_place}
use Rattle.grants.proofs.Terms.{Cell, ClientId, count, Object, Right, Rights, Rules, each_right, false_from_ne_true, has, has_right, item_at, knows_client, knows_object, list_any, nat_le, nat_lt, object_count, object_place, slice_get, slice_set}
use Rattle.grants.proofs.PlaceLemmas.{from_one, get-set_here, get-set_other, in_row, place-Some, place-within, same_in_row, same_row}

-- ---- tests

or-false : (a : Bool) → a ≡ (a || false)
or-false true = refl
or-false false = refl

apart : (m n : ℕ) → m < n → (m == n) ≡ false
apart m n h = grind (arith, nat_tests)

apart' : (m n : ℕ) → n < m → (m == n) ≡ false
apart' m n h = grind (arith, nat_tests)

-- ---- a row on its places

module _ (rules : Rules) where
  -- the place of a kind, by three tests
  abbrev chosen : Bool → Bool → Bool → ℕ
  chosen a b d = if a then object_count rules else if b then object_count rules + 1 else if d then object_count rules + 2 else object_count rules + 3

  -- the kind of a declared object, by the object's place
  pub kind_at : (o : Object) → knows_object rules o ≡ true → kind_place_at rules (object_place rules o) ≡ kind_place rules (kind_of o)
  kind_at o known = by_kind o known (object_place rules o) refl
    where
      by_kind : (o : Object) → knows_object rules o ≡ true → (place : ℕ) → object_place rules o ≡ place → kind_place_at rules place ≡ kind_place rules (kind_of o)
      by_kind (object.Agent h) known place is =
          let one = from_one h.0 rules.agents known in
          let first = one.0 in
          let last = one.1 in
          ap (λ a. chosen a (nat_lt place (rules.agents + rules.regions)) (nat_lt place (rules.agents + rules.regions + rules.signals))) (lt-ltb place rules.agents (omega arith))
      by_kind (object.Region h) known place is =
          let one = from_one h.0 rules.regions known in
          let first = one.0 in
          let last = one.1 in
          ap (λ a. chosen a (nat_lt place (rules.agents + rules.regions)) (nat_lt place (rules.agents + rules.regions + rules.signals))) (le-ltb place rules.agents (omega arith))
          ∙ ap (λ b. chosen false b (nat_lt place (rules.agents + rules.regions + rules.signals))) (lt-ltb place (rules.agents + rules.regions) (omega arith))
      by_kind (object.Signal h) known place is =
          let one = from_one h.0 rules.signals known in
          let first = one.0 in
          let last = one.1 in
          ap (λ a. chosen a (nat_lt place (rules.agents + rules.regions)) (nat_lt place (rules.agents + rules.regions + rules.signals))) (le-ltb place rules.agents (omega arith))
          ∙ ap (λ b. chosen false b (nat_lt place (rules.agents + rules.regions + rules.signals))) (le-ltb place (rules.agents + rules.regions) (omega arith))
          ∙ ap (λ d. chosen false false d) (lt-ltb place (rules.agents + rules.regions + rules.signals) (omega arith))
      by_kind (object.Kernel h) known place is =
          let one = from_one h.0 rules.kernels known in
          let first = one.0 in
          let last = one.1 in
          ap (λ a. chosen a (nat_lt place (rules.agents + rules.regions)) (nat_lt place (rules.agents + rules.regions + rules.signals))) (le-ltb place rules.agents (omega arith))
          ∙ ap (λ b. chosen false b (nat_lt place (rules.agents + rules.regions + rules.signals))) (le-ltb place (rules.agents + rules.regions) (omega arith))
          ∙ ap (λ d. chosen false false d) (le-ltb place (rules.agents + rules.regions + rules.signals) (omega arith))

  pub kind_within : (place : ℕ) → kind_place_at rules place < object_count rules + 4
  kind_within place = grind arith

  kinds_apart : (a b : Kind) → (kind_place rules a == kind_place rules b) ≡ same_kind a b
  kinds_apart kind.Agent kind.Agent = itself (kind_place rules kind.Agent)
  kinds_apart kind.Region kind.Region = itself (kind_place rules kind.Region)
  kinds_apart kind.Signal kind.Signal = itself (kind_place rules kind.Signal)
  kinds_apart kind.Kernel kind.Kernel = itself (kind_place rules kind.Kernel)
  kinds_apart kind.Agent kind.Region = apart (kind_place rules kind.Agent) (kind_place rules kind.Region) (omega arith)
  kinds_apart kind.Agent kind.Signal = apart (kind_place rules kind.Agent) (kind_place rules kind.Signal) (omega arith)
  kinds_apart kind.Agent kind.Kernel = apart (kind_place rules kind.Agent) (kind_place rules kind.Kernel) (omega arith)
  kinds_apart kind.Region kind.Signal = apart (kind_place rules kind.Region) (kind_place rules kind.Signal) (omega arith)
  kinds_apart kind.Region kind.Kernel = apart (kind_place rules kind.Region) (kind_place rules kind.Kernel) (omega arith)
  kinds_apart kind.Signal kind.Kernel = apart (kind_place rules kind.Signal) (kind_place rules kind.Kernel) (omega arith)
  kinds_apart kind.Region kind.Agent = apart' (kind_place rules kind.Region) (kind_place rules kind.Agent) (omega arith)
  kinds_apart kind.Signal kind.Agent = apart' (kind_place rules kind.Signal) (kind_place rules kind.Agent) (omega arith)
  kinds_apart kind.Kernel kind.Agent = apart' (kind_place rules kind.Kernel) (kind_place rules kind.Agent) (omega arith)
  kinds_apart kind.Signal kind.Region = apart' (kind_place rules kind.Signal) (kind_place rules kind.Region) (omega arith)
  kinds_apart kind.Kernel kind.Region = apart' (kind_place rules kind.Kernel) (kind_place rules kind.Region) (omega arith)
  kinds_apart kind.Kernel kind.Signal = apart' (kind_place rules kind.Kernel) (kind_place rules kind.Signal) (omega arith)

  behind_objects : (k : Kind) → object_count rules ≤ kind_place rules k
  behind_objects kind.Agent = omega arith
  behind_objects kind.Region = omega arith
  behind_objects kind.Signal = omega arith
  behind_objects kind.Kernel = omega arith

  -- a row is on a declared object by the object's place or by that of its kind
  on_place : (t : Target) (o : Object) → knows_object rules o ≡ true
      → is_on t o ≡ (is_place (object_place rules o) (target_place rules t) || is_place (kind_place rules (kind_of o)) (target_place rules t))
  on_place (target.Any k) o known =
      sym (ap (λ b. b || (kind_place rules k == kind_place rules (kind_of o))) (apart' (kind_place rules k) (object_place rules o) (let w = in_row rules o known in let b = behind_objects k in omega arith))
      ∙ kinds_apart k (kind_of o))
  on_place (target.One named) o known = by_test (knows_object rules named) refl
    where
      both_known : knows_object rules named ≡ true → (same : Bool) → same_object named o ≡ same
          → same_object named o ≡ ((object_place rules named == object_place rules o) || (object_place rules named == kind_place rules (kind_of o)))
      both_known k true same =
          let is = same_object_is named o same in
          same ∙ sym (ap (λ b. b || (object_place rules named == kind_place rules (kind_of o))) (ap (λ x. object_place rules x == object_place rules o) is ∙ itself (object_place rules o)))
      both_known k false same =
          let other : (object_place rules named == object_place rules o) ≡ false = false_from_ne_true (object_place rules named == object_place rules o) (λ e.
          true≢false (sym (same_object_itself o) ∙ ap (λ x. same_object x o) (sym (same_in_row rules named o k known (same_number (object_place rules named) (object_place rules o) e))) ∙ same)) in
          let no_kind : (object_place rules named == kind_place rules (kind_of o)) ≡ false =
          apart (object_place rules named) (kind_place rules (kind_of o)) (let w = in_row rules named k in let b = behind_objects (kind_of o) in omega arith) in
          same ∙ sym (ap (λ b. b || (object_place rules named == kind_place rules (kind_of o))) other ∙ no_kind)

      by_test : (b : Bool) → knows_object rules named ≡ b
          → same_object named o ≡ (is_place (object_place rules o) (if b then Some (object_place rules named) else None) || is_place (kind_place rules (kind_of o)) (if b then Some (object_place rules named) else None))
      by_test true k = both_known k (same_object named o) refl
      by_test false k = false_from_ne_true (same_object named o) (λ same. true≢false (sym known ∙ ap (knows_object rules) (sym (same_object_is named o same)) ∙ k))

  spread : (f a b h : Bool) → ((f && (a || b)) && h) ≡ (((f && a) && h) || ((f && b) && h))
  spread false a b h = refl
  spread true true true true = refl
  spread true true false true = refl
  spread true true true false = refl
  spread true true false false = refl
  spread true false b h = refl

  mixed : (a b m n : Bool) → ((a || b) || (m || n)) ≡ ((a || m) || (b || n))
  mixed true b m n = refl
  mixed false true true n = refl
  mixed false true false n = refl
  mixed false false m n = refl

  module _ (c : ClientId) (o : Object) (right : Right) (known : knows_object rules o ≡ true) where
    -- what rows cover for a client on a declared object stands in these two places
    covered-split : (rows : List RightsRow)
        → list_any (covers_right c o right) rows ≡ (covered_at rules c rows right (object_place rules o) || covered_at rules c rows right (kind_place rules (kind_of o)))
    covered-split [] = refl
    covered-split (x ∷ xs) =
        ap (λ b. ((is_for x.subject c && b) && has x.rights right) || list_any (covers_right c o right) xs) (on_place x.target o known)
        ∙ ap (λ b. b || list_any (covers_right c o right) xs) (spread (is_for x.subject c) (is_place (object_place rules o) (target_place rules x.target)) (is_place (kind_place rules (kind_of o)) (target_place rules x.target)) (has x.rights right))
        ∙ ap (λ b. (covers_place rules c right (object_place rules o) x || covers_place rules c right (kind_place rules (kind_of o)) x) || b) (covered-split xs)
        ∙ mixed (covers_place rules c right (object_place rules o) x) (covers_place rules c right (kind_place rules (kind_of o)) x)
        (covered_at rules c xs right (object_place rules o)) (covered_at rules c xs right (kind_place rules (kind_of o)))

    -- and what they allow there is what they allow
    allowed-there : (rows : PolicyRows) → allowed_at rules rows c right (object_place rules o) ≡ rows_allow rows c o right
    allowed-there rows =
        ap (λ k. (covered_at rules c rows.allows right (object_place rules o) || covered_at rules c rows.allows right k)
        && not (covered_at rules c rows.denies right (object_place rules o) || covered_at rules c rows.denies right k)) (kind_at o known)
        ∙ sym (ap (λ b. b && not (list_any (covers_right c o right) rows.denies)) (covered-split rows.allows)
        ∙ ap (λ b. (covered_at rules c rows.allows right (object_place rules o) || covered_at rules c rows.allows right (kind_place rules (kind_of o))) && not b) (covered-split rows.denies))

  -- ---- a line

  -- a row is added in its place
  pub row_added : (client : ClientId) (row : RightsRow) (place : ℕ) (line : List Rights) (more : Rights) → place < length line
      → is_for row.subject client ≡ true → target_place rules row.target ≡ Some place
      → ((right : Right) → has more right ≡ (has_at right (slice_get line place) || has row.rights right)) → (other : ℕ) (right : Right)
      → has_at right (slice_get (slice_set line place more) other) ≡ (has_at right (slice_get line other) || covers_place rules client right other row)
  row_added client row place line more within for_ at is other right =
      by_test (place == other) refl
      ∙ sym (ap (λ b. has_at right (slice_get line other) || ((b && is_place other (target_place rules row.target)) && has row.rights right)) for_
      ∙ ap (λ t. has_at right (slice_get line other) || ((true && is_place other t) && has row.rights right)) at)
    where
      by_test : (b : Bool) → (place == other) ≡ b
          → has_at right (slice_get (slice_set line place more) other) ≡ (has_at right (slice_get line other) || ((true && (place == other)) && has row.rights right))
      by_test true same =
          let e = same_number place other same in
          ap (λ n. has_at right (slice_get (slice_set line place more) n)) (sym e) ∙ ap (has_at right) (get-set_here line place more within) ∙ is right
          ∙ ap (λ n. has_at right (slice_get line n) || has row.rights right) e
          ∙ ap (λ b. has_at right (slice_get line other) || ((true && b) && has row.rights right)) (sym same)
      by_test false same =
          ap (has_at right) (get-set_other line place other more (λ e. true≢false (sym (itself other) ∙ ap (λ n. n == other) (sym e) ∙ same)))
          ∙ or-false (has_at right (slice_get line other))
          ∙ ap (λ b. has_at right (slice_get line other) || ((true && b) && has row.rights right)) (sym same)

  -- what two lines tell of a place is what the rows allow there
  pub settled_is : (rows : PolicyRows) (client : ClientId) (granted denied : List Rights) → IsLine rules client rows.allows granted → IsLine rules client rows.denies denied
      → (place : ℕ) → place < object_count rules → (right : Right)
      → settled_at rules granted denied right place ≡ allowed_at rules rows client right place
  settled_is rows client granted denied line line' place small right =
      let here : place < object_count rules + 4 = omega arith in
      let there = kind_within place in
      (λ i. (line place right here i || line (kind_place_at rules place) right there i) && not (line' place right here i || line' (kind_place_at rules place) right there i))

  counted : (n last : ℕ) → n < last → (nat_lt 0 (n + 1) && nat_le (n + 1) last) ≡ true
  counted n last h = and_from (nat_lt 0 (n + 1)) (nat_le (n + 1) last) (lt-ltb 0 (n + 1) (omega arith)) (le-leb (n + 1) last (omega arith))

  -- the objects of a kind in their order: each has a place, and the place of the kind
  pub kind_span : (k : Kind) (n : ℕ) → n < count rules k → (objects_before rules k + n < object_count rules) × (kind_place_at rules (objects_before rules k + n) ≡ kind_place rules k)
  kind_span kind.Agent n h =
      let e : n ≡ (n + 1) - 1 = omega arith in
      (omega arith, ap (λ m. kind_place_at rules (0 + m)) e ∙ kind_at (object.Agent (record { 0 = n + 1 })) (counted n rules.agents h))
  kind_span kind.Region n h =
      let e : n ≡ (n + 1) - 1 = omega arith in
      (omega arith, ap (λ m. kind_place_at rules (rules.agents + m)) e ∙ kind_at (object.Region (record { 0 = n + 1 })) (counted n rules.regions h))
  kind_span kind.Signal n h =
      let e : n ≡ (n + 1) - 1 = omega arith in
      (omega arith, ap (λ m. kind_place_at rules (rules.agents + rules.regions + m)) e ∙ kind_at (object.Signal (record { 0 = n + 1 })) (counted n rules.signals h))
  kind_span kind.Kernel n h =
      let e : n ≡ (n + 1) - 1 = omega arith in
      (omega arith, ap (λ m. kind_place_at rules (rules.agents + rules.regions + rules.signals + m)) e ∙ kind_at (object.Kernel (record { 0 = n + 1 })) (counted n rules.kernels h))

  -- what the lines tell of an object of a kind, by what they tell of the kind
  pub settled_kind : (rows : PolicyRows) (client : ClientId) (granted denied : List Rights) → IsLine rules client rows.allows granted → IsLine rules client rows.denies denied
      → (k : Kind) (n : ℕ) → n < count rules k → (all none rights : Rights)
      → ((r : Right) → has all r ≡ has_at r (slice_get granted (kind_place rules k))) → ((r : Right) → has none r ≡ has_at r (slice_get denied (kind_place rules k)))
      → ((r : Right) → has rights r ≡ ((has_at r (slice_get granted (objects_before rules k + n)) || has all r) && not (has_at r (slice_get denied (objects_before rules k + n)) || has none r)))
      → (right : Right) → has rights right ≡ allowed_at rules rows client right (objects_before rules k + n)
  settled_kind rows client granted denied line line' k n small all none rights is_all is_none is right =
      let place = objects_before rules k + n in
      let span = kind_span k n small in
      is right
      ∙ (λ i. (has_at right (slice_get granted place) || is_all right i) && not (has_at right (slice_get denied place) || is_none right i))
      ∙ ap (λ p. (has_at right (slice_get granted place) || has_at right (slice_get granted p)) && not (has_at right (slice_get denied place) || has_at right (slice_get denied p))) (sym span.1)
      ∙ settled_is rows client granted denied line line' place span.0 right

  -- ---- the table

  pub within_table : (b p : ℕ) → b < rules.clients → p < object_count rules → b * object_count rules + p < rules.clients * object_count rules
  within_table b p h k =
      let row : suc b ≤ rules.clients = omega arith in
      let rows : suc b * object_count rules ≤ rules.clients * object_count rules = mul-le-mul_right (object_count rules) row in
      omega arith

  -- one more place
  pub filled-more : (rows : PolicyRows) (b p : ℕ) (old : List Rights) (rights : Rights) → p < object_count rules → b * object_count rules + p < length old
      → ((right : Right) → has rights right ≡ allowed_at rules rows (record { 0 = b + 1 }) right p) → IsFilled rules rows (b * object_count rules + p) old
      → IsFilled rules rows (b * object_count rules + (p + 1)) (slice_set old (b * object_count rules + p) rights)
  filled-more rows b p old rights small within is before b' p' right small' h =
      elim (cases_lt (b' * object_count rules + p') (b * object_count rules + p)) [
        | inl less ↦ ap (has_at right) (get-set_other old (b * object_count rules + p) (b' * object_count rules + p') rights (λ e. absurd (omega arith))) ∙ before b' p' right small' less
        | inr past ↦ here past
      ]
    where
      here : b * object_count rules + p ≤ b' * object_count rules + p'
          → has_at right (slice_get (slice_set old (b * object_count rules + p) rights) (b' * object_count rules + p')) ≡ allowed_at rules rows (record { 0 = b' + 1 }) right p'
      here past =
          let e : b' * object_count rules + p' ≡ b * object_count rules + p = omega arith in
          let eb : b' ≡ b = same_row rules b' b p' p small' small e in
          let rows_same : b' * object_count rules ≡ b * object_count rules = ap (λ n. n * object_count rules) eb in
          let ep : p' ≡ p = omega arith in
          ap (λ n. has_at right (slice_get (slice_set old (b * object_count rules + p) rights) n)) e
          ∙ ap (has_at right) (get-set_here old (b * object_count rules + p) rights within) ∙ is right
          ∙ (λ i. allowed_at rules rows (record { 0 = sym eb i + 1 }) right (sym ep i))

  -- all places
  pub filled-all : (rows : PolicyRows) (n : ℕ) (allowed : List Rights) → rules.clients ≤ n → IsFilled rules rows (n * object_count rules) allowed → IsAllowedBy rules rows allowed
  filled-all rows n allowed past filled c o right place at =
      let p = place-Some rules c o place at in
      let within = place-within rules c o place at in
      let one = from_one c.0 rules.clients p.client in
      let first = one.0 in
      let whole : rules.clients * object_count rules ≤ n * object_count rules = mul-le-mul_right (object_count rules) past in
      let is = p.is in
      let small : (c.0 - 1) * object_count rules + object_place rules o < n * object_count rules = omega arith in
      let number : (c.0 - 1) + 1 ≡ c.0 = omega arith in
      ap (λ n. has_at right (slice_get allowed n)) is
      ∙ filled (c.0 - 1) (object_place rules o) right (in_row rules o p.object) small
      ∙ ap (λ (k : ClientId). allowed_at rules rows k right (object_place rules o)) (ap (λ n. record { 0 = n }) number)
      ∙ allowed-there c o right p.object rows

module _ (rules : Rules) (rows : PolicyRows) (allowed : List Rights) (by : IsAllowedBy rules rows allowed) (c : ClientId) (o : Object) where
  -- the rights in a place are all allowed where the rows allow each
  pub all_allowed : (place : ℕ) (rights there : Rights) → place_of rules c o ≡ Some place → ((right : Right) → has there right ≡ has_at right (slice_get allowed place))
      → each_right rights (has there) ≡ ((knows_client rules c && knows_object rules o) && each_right rights (rows_allow rows c o))
  all_allowed place rights there is at =
      let p = place-Some rules c o place is in
      (λ i. each_right rights (λ right. (at right ∙ by c o right place is) i))
      ∙ sym (ap (λ b. (b && knows_object rules o) && each_right rights (rows_allow rows c o)) p.client ∙ ap (λ b. (true && b) && each_right rights (rows_allow rows c o)) p.object)

-- ---- whether rows allow what is in force

all_of_six : (a b c d e f : Bool) → a ≡ true → b ≡ true → c ≡ true → d ≡ true → e ≡ true → f ≡ true → (a && (b && (c && (d && (e && (f && true)))))) ≡ true
all_of_six a b c d e f h i j k l m = rw (h, i, j, k, l, m) refl

implies : (a b : Bool) → (a ≡ true → b ≡ true) → (not a || b) ≡ true
implies true b h = h refl
implies false b h = refl

-- the rights of a cell are all in a set just where each is
pub each_in : (rights : Rights) (test : Right → Bool) → ((right : Right) → has rights right ≡ true → test right ≡ true) → each_right rights test ≡ true
each_in rights test h = all_of_six _ _ _ _ _ _
    (implies (has rights Use) (test Use) (h Use)) (implies (has rights Read) (test Read) (h Read)) (implies (has rights Write) (test Write) (h Write))
    (implies (has rights Wait) (test Wait) (h Wait)) (implies (has rights Change) (test Change) (h Change)) (implies (has rights Launch) (test Launch) (h Launch))

module _ (rules : Rules) where
  -- an object for each place
  pub record At (place : ℕ) : Type 0 where
    pub object : Object
    pub known : knows_object rules object ≡ true
    pub is : object_place rules object ≡ place

  pub at-place : (place : ℕ) → place < object_count rules → At place
  at-place place h = elim (cases_lt place rules.agents) [
    | inl agent ↦ record { object = object.Agent (record { 0 = place + 1 }); known = counted rules place rules.agents agent; is = omega arith }
    | inr past ↦ elim (cases_lt place (rules.agents + rules.regions)) [
      | inl region ↦ record { object = object.Region (record { 0 = (place - rules.agents) + 1 }); known = counted rules (place - rules.agents) rules.regions (omega arith); is = omega arith }
      | inr past' ↦ elim (cases_lt place (rules.agents + rules.regions + rules.signals)) [
        | inl signal ↦ record { object = object.Signal (record { 0 = (place - (rules.agents + rules.regions)) + 1 }); known = counted rules (place - (rules.agents + rules.regions)) rules.signals (omega arith); is = omega arith }
        | inr past'' ↦ record { object = object.Kernel (record { 0 = (place - (rules.agents + rules.regions + rules.signals)) + 1 }); known = counted rules (place - (rules.agents + rules.regions + rules.signals)) rules.kernels (omega arith); is = omega arith }
      ]
    ]
  ]

  module _ (rows : PolicyRows) (cells : List Cell) where
    -- what is in force by client and object is what is in force by place
    pub allows-all : AllowsUpTo rules rows rules.clients cells
        → (c : ClientId) (o : Object) (right : Right) → has_right right (item_at cells (place_of rules c o)) ≡ true → rows_allow rows c o right ≡ true
    allows-all allows c o right = by_place (place_of rules c o) refl
      where
        by_place : (at : Option ℕ) → place_of rules c o ≡ at → has_right right (item_at cells at) ≡ true → rows_allow rows c o right ≡ true
        by_place None is h = absurd (true≢false (sym h))
        by_place (Some place) is h =
            let p = place-Some rules c o place is in
            let one = from_one c.0 rules.clients p.client in
            let first = one.0 in
            let last = one.1 in
            let number : (c.0 - 1) + 1 ≡ c.0 = omega arith in
            let small : c.0 - 1 < rules.clients = omega arith in
            sym (ap (λ (k : ClientId). allowed_at rules rows k right (object_place rules o)) (ap (λ n. record { 0 = n }) number) ∙ allowed-there rules c o right p.object rows)
            ∙ allows (c.0 - 1) (object_place rules o) right small (in_row rules o p.object) (ap (λ n. has_right right (slice_get cells n)) (sym p.is) ∙ h)

    pub all-allows : ((c : ClientId) (o : Object) (right : Right) → has_right right (item_at cells (place_of rules c o)) ≡ true → rows_allow rows c o right ≡ true)
        → AllowsUpTo rules rows rules.clients cells
    all-allows all before place right small within h =
        let at = at-place place within in
        let client : ClientId = record { 0 = before + 1 } in
        let known : knows_client rules client ≡ true = counted rules before rules.clients small in
        let there : place_of rules client at.object ≡ Some (before * object_count rules + place) =
        ap (λ b. if b && knows_object rules at.object then Some ((client.0 - 1) * object_count rules + object_place rules at.object) else None) known
        ∙ ap (λ b. if true && b then Some ((client.0 - 1) * object_count rules + object_place rules at.object) else None) at.known
        ∙ ap Some (ap (λ n. n * object_count rules + object_place rules at.object) (let e : (before + 1) - 1 ≡ before = omega arith in e) ∙ ap (λ n. before * object_count rules + n) at.is) in
        ap (λ n. allowed_at rules rows client right n) (sym at.is) ∙ allowed-there rules client at.object right at.known rows
        ∙ all client at.object right (ap (λ p. has_right right (item_at cells p)) there ∙ h)

  module _ (rows : PolicyRows) (b : ℕ) (granted denied : List Rights) (line : IsLine rules (record { 0 = b + 1 }) rows.allows granted) (line' : IsLine rules (record { 0 = b + 1 }) rows.denies denied) (cells : List Cell) where
    -- a client's cells are within its lines just where the rows allow them
    pub next-allowed : AreWithin rules granted denied b (object_count rules) cells → AllowsUpTo rules rows b cells → AllowsUpTo rules rows (b + 1) cells
    next-allowed within allows before place right small here h = elim (cases_lt before b) [
      | inl less ↦ allows before place right less here h
      | inr past ↦
          let e : before ≡ b = omega arith in
          ap (λ n. allowed_at rules rows (record { 0 = n + 1 }) right place) e
          ∙ sym (settled_is rules rows (record { 0 = b + 1 }) granted denied line line' place here right)
          ∙ within place here right (ap (λ n. has_right right (slice_get cells (n * object_count rules + place))) (sym e) ∙ h)
    ]

    pub allowed-within : (last : ℕ) → b < last → AllowsUpTo rules rows last cells → AreWithin rules granted denied b (object_count rules) cells
    allowed-within last small allows place here right h =
        settled_is rules rows (record { 0 = b + 1 }) granted denied line line' place here right ∙ allows b place right small here h

  -- one cell more of a client
  pub next-within : (granted denied : List Rights) (before : ℕ) (cells : List Cell) (last : ℕ) → AreWithin rules granted denied before last cells
      → IsWithin rules granted denied last (slice_get cells (before * object_count rules + last)) → AreWithin rules granted denied before (last + 1) cells
  next-within granted denied before cells last within here place small right h = elim (cases_lt place last) [
    | inl less ↦ within place less right h
    | inr past ↦
        let e : place ≡ last = omega arith in
        ap (λ n. settled_at rules granted denied right n) e ∙ here right (ap (λ n. has_right right (slice_get cells (before * object_count rules + n))) (sym e) ∙ h)
  ]
