-- Items that are gone through in turn, each where it stands, their ids counted on.
use Rattle.std.proofs.Common.{◌≡◌, ℕ, zero, suc, ◌+◌, ◌-◌, ◌*◌, ◌/◌, ◌%◌, ◌<◌, ◌≤◌, Bool, true, false, List, [], ◌∷◌, refl, sym, ap, ◌∙◌, subst, arith}
use Rattle.std.proofs.Math.Nat.{mod-lt, mod-eq-sub-div-mul, div-le_self, zero-div, zero-mod}
use Rattle.std.proofs.lemmas.Nat.{div-mul-add, div-add-mod'}
use Rattle.executor.specs.Group.{Standing, ready, waiting, ended, context_of_item, behind, advance, Status, running, done, faulted, followed, follow, LeadsIn, Leads}
use Rattle.executor.specs.Items.{Contents, Surroundings}
use Rattle.executor.specs.Locations.{count_of, id_of}
use Rattle.executor.specs.inner.ItemRuns.{ItemRuns, ItemFails, ItemComes}
use Rattle.executor.specs.declared.fault.RunFault.{RunFault}
use Rattle.executor.specs.declared.fault.RunFault.TheVariants as fault
use Rattle.executor.specs.declared.location.Extent.{Extent}
use Rattle.executor.specs.declared.location.Location.{Location}
use Rattle.kernel_check.specs.Programs.{Program}

-- ---- one number more, divided

parts_of : (n d q r : ℕ) → n ≡ q * d + r → r < d → (n / d ≡ q) × (n % d ≡ r)
parts_of n d q r is less =
    let quotient : n / d ≡ q = ap (λ k. k / d) is ∙ div-mul-add q d r less in
    (quotient, mod-eq-sub-div-mul n d ∙ (ap (λ k. n - k * d) quotient ∙ left_of (q * d) is))
  where
    left_of : (m : ℕ) → n ≡ m + r → n - m ≡ r
    left_of m sum = omega arith

one_more : (n m r : ℕ) → m + r ≡ n → n + 1 ≡ m + (r + 1)
one_more n m r is = omega arith

-- within a row
row_goes_on : (n d : ℕ) → n % d + 1 < d → ((n + 1) / d ≡ n / d) × ((n + 1) % d ≡ n % d + 1)
row_goes_on n d less = parts_of (n + 1) d (n / d) (n % d + 1) (one_more n (n / d * d) (n % d) (div-add-mod' n d)) less

-- at its end
row_ends : (n d : ℕ) → n % d + 1 ≡ d → ((n + 1) / d ≡ n / d + 1) × ((n + 1) % d ≡ 0)
row_ends n d full =
    parts_of (n + 1) d (n / d + 1) 0
    (one_more n (n / d * d) (n % d) (div-add-mod' n d) ∙ (ap (λ k. n / d * d + k) full ∙ next_row (n / d) d)) (omega arith)
  where
    next_row : (q k : ℕ) → q * k + k ≡ (q + 1) * k + 0
    next_row q k = grind (arith)

-- ---- the id behind one

module _ (sizes : Extent) (n : ℕ) where
  there : Extent
  there = id_of sizes n

  pub along_x : (id : Extent) → id ≡ id_of sizes n → id.x + 1 < sizes.x
      → record { x = id.x + 1; y = id.y; z = id.z } ≡ id_of sizes (n + 1)
  along_x id is = subst (λ (i : Extent). i.x + 1 < sizes.x → record { x = i.x + 1; y = i.y; z = i.z } ≡ id_of sizes (n + 1)) (sym is) here
    where
      here : n % sizes.x + 1 < sizes.x → record { x = n % sizes.x + 1; y = n / sizes.x % sizes.y; z = n / sizes.x / sizes.y } ≡ id_of sizes (n + 1)
      here less =
          let row = row_goes_on n sizes.x less in
          ap (λ r. record { x = r; y = n / sizes.x % sizes.y; z = n / sizes.x / sizes.y }) (sym row.1)
          ∙ ap (λ q. record { x = (n + 1) % sizes.x; y = q % sizes.y; z = q / sizes.y }) (sym row.0)

  pub along_y : (id : Extent) → id ≡ id_of sizes n → id.x + 1 ≡ sizes.x → id.y + 1 < sizes.y
      → record { x = 0; y = id.y + 1; z = id.z } ≡ id_of sizes (n + 1)
  along_y id is = subst (λ (i : Extent). i.x + 1 ≡ sizes.x → i.y + 1 < sizes.y → record { x = 0; y = i.y + 1; z = i.z } ≡ id_of sizes (n + 1)) (sym is) here
    where
      here : n % sizes.x + 1 ≡ sizes.x → n / sizes.x % sizes.y + 1 < sizes.y
          → record { x = 0; y = n / sizes.x % sizes.y + 1; z = n / sizes.x / sizes.y } ≡ id_of sizes (n + 1)
      here full less =
          let row = row_ends n sizes.x full in
          let column = row_goes_on (n / sizes.x) sizes.y less in
          ap (λ r. record { x = r; y = n / sizes.x % sizes.y + 1; z = n / sizes.x / sizes.y }) (sym row.1)
          ∙ (ap (λ r. record { x = (n + 1) % sizes.x; y = r; z = n / sizes.x / sizes.y }) (sym column.1)
          ∙ (ap (λ q. record { x = (n + 1) % sizes.x; y = (n / sizes.x + 1) % sizes.y; z = q }) (sym column.0)
          ∙ ap (λ q. record { x = (n + 1) % sizes.x; y = q % sizes.y; z = q / sizes.y }) (sym row.0)))

  pub along_z : (id : Extent) → id ≡ id_of sizes n → id.x + 1 ≡ sizes.x → id.y + 1 ≡ sizes.y
      → record { x = 0; y = 0; z = id.z + 1 } ≡ id_of sizes (n + 1)
  along_z id is = subst (λ (i : Extent). i.x + 1 ≡ sizes.x → i.y + 1 ≡ sizes.y → record { x = 0; y = 0; z = i.z + 1 } ≡ id_of sizes (n + 1)) (sym is) here
    where
      here : n % sizes.x + 1 ≡ sizes.x → n / sizes.x % sizes.y + 1 ≡ sizes.y
          → record { x = 0; y = 0; z = n / sizes.x / sizes.y + 1 } ≡ id_of sizes (n + 1)
      here full whole =
          let row = row_ends n sizes.x full in
          let column = row_ends (n / sizes.x) sizes.y whole in
          ap (λ r. record { x = r; y = 0; z = n / sizes.x / sizes.y + 1 }) (sym row.1)
          ∙ (ap (λ r. record { x = (n + 1) % sizes.x; y = r; z = n / sizes.x / sizes.y + 1 }) (sym column.1)
          ∙ (ap (λ q. record { x = (n + 1) % sizes.x; y = (n / sizes.x + 1) % sizes.y; z = q }) (sym column.0)
          ∙ ap (λ q. record { x = (n + 1) % sizes.x; y = q % sizes.y; z = q / sizes.y }) (sym row.0)))

-- the first
first_id : (sizes : Extent) → record { x = 0; y = 0; z = 0 } ≡ id_of sizes 0
first_id sizes =
    let none : 0 ≡ 0 / sizes.x = sym (zero-div sizes.x) in
    ap (λ r. record { x = r; y = 0; z = 0 }) (sym (zero-mod sizes.x))
    ∙ (ap (λ r. record { x = 0 % sizes.x; y = r; z = 0 }) (sym (zero-mod sizes.y))
    ∙ (ap (λ q. record { x = 0 % sizes.x; y = 0 % sizes.y; z = q }) (sym (zero-div sizes.y))
    ∙ ap (λ q. record { x = 0 % sizes.x; y = q % sizes.y; z = q / sizes.y }) none))

pub first_at : (a : Surroundings) → record a { location = record a.location { item = record { x = 0; y = 0; z = 0 } } } ≡ context_of_item a 0
first_at a = ap (λ (i : Extent). record a { location = record a.location { item = i } }) (first_id a.location.current_size)

-- ---- an item where it stands

pub in_place : (a : Surroundings) (n : ℕ) → a.location.item ≡ id_of a.location.current_size n → a ≡ context_of_item a n
in_place a n is = ap (λ (i : Extent). record a { location = record a.location { item = i } }) is

some_along : (x y z n count : ℕ) → count ≡ x * y * z → n < count → (0 < x) × (0 < y)
some_along zero y z n count is less = grind (arith)
some_along (suc x) zero z n count is less = grind (arith)
some_along (suc x) (suc y) z n count is less = (omega arith, omega arith)

-- one item stands at its place of a group
module _ (own group : Surroundings) (n : ℕ) (is : own ≡ context_of_item group n) where
  pub item_is : own.location.item ≡ id_of own.location.current_size n
  item_is = subst (λ (o : Surroundings). o.location.item ≡ id_of o.location.current_size n) (sym is) refl

  pub arguments_are : own.arguments ≡ group.arguments
  arguments_are = ap (λ (o : Surroundings). o.arguments) is

  sizes_are : own.location.current_size ≡ group.location.current_size
  sizes_are = ap (λ (o : Surroundings). o.location.current_size) is

  next_at : (i : Extent) → i ≡ id_of own.location.current_size (n + 1)
      → record own { location = record own.location { item = i } } ≡ context_of_item group (n + 1)
  next_at i next =
      subst (λ (o : Surroundings). i ≡ id_of o.location.current_size (n + 1) → record o { location = record o.location { item = i } } ≡ context_of_item group (n + 1)) (sym is)
      (λ e. ap (λ (j : Extent). record group { location = record group.location { item = j } }) e) next

  pub moved_at : (l : Location) (i sizes id : Extent) → l ≡ record own.location { item = i } → sizes ≡ own.location.current_size → id ≡ own.location.item
      → (id ≡ id_of sizes n → i ≡ id_of sizes (n + 1)) → record own { location = l } ≡ context_of_item group (n + 1)
  moved_at l i sizes id moved same there next =
      let here : id ≡ id_of sizes n = there ∙ (item_is ∙ ap (λ (s : Extent). id_of s n) (sym same)) in
      ap (λ (k : Location). record own { location = k }) moved ∙ next_at i (next here ∙ ap (λ (s : Extent). id_of s (n + 1)) same)

  module _ (count : ℕ) (all : count ≡ count_of group.location.current_size) (less : n < count) where
    some : (0 < own.location.current_size.x) × (0 < own.location.current_size.y)
    some =
        subst (λ (s : Extent). (0 < s.x) × (0 < s.y)) (sym sizes_are)
        (some_along group.location.current_size.x group.location.current_size.y group.location.current_size.z n count all less)

    pub x_within : own.location.item.x < own.location.current_size.x
    x_within = subst (λ (i : Extent). i.x < own.location.current_size.x) (sym item_is) (mod-lt n some.0)

    pub y_within : own.location.item.y < own.location.current_size.y
    y_within = subst (λ (i : Extent). i.y < own.location.current_size.y) (sym item_is) (mod-lt (n / own.location.current_size.x) some.1)

    pub z_within : own.location.item.z ≤ n
    z_within =
        let sizes = own.location.current_size in
        let fewer : n / sizes.x / sizes.y ≤ n / sizes.x = div-le_self (n / sizes.x) sizes.y in
        let few : n / sizes.x ≤ n = div-le_self n sizes.x in
        let within : n / sizes.x / sizes.y ≤ n = omega (arith, fewer, few) in
        subst (λ (i : Extent). i.z ≤ n) (sym item_is) within

  -- a group's turns are the same, whichever of its items surroundings are told of
  module _ (p : Program) where
    advance_alike : (items : List Standing) (k : ℕ) (m : Contents) → advance (context_of_item group n) p k items m ≡ advance group p k items m
    advance_alike [] k m = refl
    advance_alike (ended ∷ rest) k m = ap (behind ended) (advance_alike rest (k + 1) m)
    advance_alike (waiting i executed ∷ rest) k m = ap (behind (waiting i executed)) (advance_alike rest (k + 1) m)
    advance_alike (ready i executed ∷ rest) k m = refl

    follow_alike : (s : Status) → follow (context_of_item group n) p s ≡ follow group p s
    follow_alike (running items m) = ap (followed p items m) (advance_alike items 0 m)
    follow_alike (done m) = refl
    follow_alike (faulted f) = refl

    leads_in_alike : (k : ℕ) (from to : Status) → LeadsIn (context_of_item group n) p k from to → LeadsIn group p k from to
    leads_in_alike zero from to leads = leads
    leads_in_alike (suc k) from to leads =
        subst (λ (s : Status). LeadsIn group p k s to) (follow_alike from) (leads_in_alike k (follow (context_of_item group n) p from) to leads)

    leads_alike : (from to : Status) → Leads own p from to → Leads group p from to
    leads_alike from to leads =
        let there : Leads (context_of_item group n) p from to = subst (λ (o : Surroundings). Leads o p from to) is leads in
        (there.0, leads_in_alike there.0 from to there.1)

    module _ (from : Standing) (before : Contents) where
      runs_there : (to : Standing) (now : Contents) → ItemRuns own p n from before to now → ItemRuns group p n from before to now
      runs_there to now runs = λ earlier rest are many. leads_alike _ _ (runs earlier rest are many)

      fails_there : (f : RunFault) → ItemFails own p n from before f → ItemFails group p n from before f
      fails_there fault.OutOfMemory fails = tt
      fails_there (fault.Fault f) fails = λ earlier rest are many. leads_alike _ _ (fails earlier rest are many)

      pub comes_well : (b : Bool) (to : Standing) (now : Contents) (f : RunFault) → ItemComes own p n from before b to now f → b ≡ true
          → ItemRuns group p n from before to now
      comes_well true to now f comes well = runs_there to now comes
      comes_well false to now f comes well = absurd cc

      pub comes_ill : (b : Bool) (to : Standing) (now : Contents) (f : RunFault) → ItemComes own p n from before b to now f → b ≡ false
          → ItemFails group p n from before f
      comes_ill true to now f comes ill = absurd cc
      comes_ill false to now f comes ill = fails_there f comes
