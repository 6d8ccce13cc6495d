-- A group takes a bounded number of turns, and so comes to one end.
use Rattle.std.proofs.Common.{◌≡◌, ℕ, zero, suc, ◌+◌, ◌-◌, ◌*◌, ◌<◌, ◌≤◌, List, [], ◌∷◌, replicate, slice_index, arith, refl, sym, ap, ◌∙◌, subst, Bool, true, false, Option, Some, None, inl, inr, ◌⊎◌}
use Rattle.std.specs.Prelude.{◌==◌, map, slice_get, if◌then◌else◌}
use Rattle.std.specs.List.{list_all}
use Rattle.std.proofs.lemmas.Bool.{cases_lt}
use Rattle.std.proofs.lemmas.Bool.Decides.{nat_tests}
use Rattle.executor.specs.Group.{Standing, ready, waiting, ended, Advance, stepped, settled, failed, context_of_item, taken, behind, advance, Status, running, done, faulted, least_waiting, waits_before, released, met, followed, follow, LeadsIn, Leads, beginning, divergence}
use Rattle.executor.specs.Items.{Contents, Surroundings, fresh}
use Rattle.executor.specs.Meaning.{Act, goes_on, arrives, ends, broke, act, turn, turn_at}
use Rattle.executor.specs.Results.{IsOver, after_turns, most_turns}
use Rattle.executor.specs.declared.item.Item.{Item}
use Rattle.executor.specs.declared.rounds.Waiter.{Waiter}
use Rattle.kernel_check.specs.Programs.{Program}
use Rattle.kernel_check.specs.declared.step.Step.{Step}
use Rattle.queue_error.specs.declared.rule.Rule.TheVariants.{A5}

-- as many turns as items have left, and one more for each that waits
abbrev pub left : List Standing → ℕ
left [] = 0
left (ready i executed ∷ rest) = 2 * (65537 - executed) + left rest
left (waiting i executed ∷ rest) = 2 * (65537 - executed) + 1 + left rest
left (ended ∷ rest) = left rest

-- that none executed more than it may
abbrev pub Few : List Standing → Type 0
Few [] = Unit {0}
Few (ready i executed ∷ rest) = (executed ≤ 65536) × Few rest
Few (waiting i executed ∷ rest) = (executed ≤ 65536) × Few rest
Few (ended ∷ rest) = Few rest

-- that fewer turns are left
abbrev Less : List Standing → Advance → Type 0
Less before (stepped items m) = Few items × (left items < left before)
Less before settled = Unit {0}
Less before (failed f) = Unit {0}

taken_less : (n line executed : ℕ) (i : Item) (rest : List Standing) (act : Act) → executed < 65536 → Few rest → Less (ready i executed ∷ rest) (taken n line executed rest act)
taken_less n line executed i rest (goes_on now m) some few = ((omega arith, few), omega arith)
taken_less n line executed i rest (arrives now m) some few = ((omega arith, few), omega arith)
taken_less n line executed i rest (ends m) some few = (few, omega arith)
taken_less n line executed i rest (broke rule address) some few = tt

module _ (a : Surroundings) (p : Program) where
  turn_less : (n : ℕ) (i : Item) (executed : ℕ) (rest : List Standing) (m : Contents) → executed ≤ 65536 → Few rest
      → Less (ready i executed ∷ rest) (taken n (slice_index p.lines i.next) executed rest (turn (context_of_item a n) p.steps i executed m))
  turn_less n i executed rest m within few = by_step (slice_get p.steps i.next)
    where
      line : ℕ
      line = slice_index p.lines i.next

      by_test : (b : Bool) (x : Act) → (executed == 65536) ≡ b → Less (ready i executed ∷ rest) (taken n line executed rest (if b then broke A5 None else x))
      by_test true x is = tt
      by_test false x is = let some : executed < 65536 = grind (arith, nat_tests) in taken_less n line executed i rest x some few

      by_step : (o : Option Step) → Less (ready i executed ∷ rest) (taken n line executed rest (turn_at (context_of_item a n) i executed m o))
      by_step None = (few, omega arith)
      by_step (Some s) = by_test (executed == 65536) (act (context_of_item a n) i m s) refl

  behind_ended_less : (rest : List Standing) (next : Advance) → Less rest next → Less (ended ∷ rest) (behind ended next)
  behind_ended_less rest (stepped items m) less = less
  behind_ended_less rest settled less = tt
  behind_ended_less rest (failed f) less = tt

  behind_waiting_less : (i : Item) (executed : ℕ) (rest : List Standing) (next : Advance) → executed ≤ 65536 → Less rest next → Less (waiting i executed ∷ rest) (behind (waiting i executed) next)
  behind_waiting_less i executed rest (stepped items m) few less = let fewer : left items < left rest = less.1 in ((few, less.0), omega arith)
  behind_waiting_less i executed rest settled few less = tt
  behind_waiting_less i executed rest (failed f) few less = tt

  advance_less : (items : List Standing) (n : ℕ) (m : Contents) → Few items → Less items (advance a p n items m)
  advance_less [] n m few = tt
  advance_less (ended ∷ rest) n m few = behind_ended_less rest (advance a p (n + 1) rest m) (advance_less rest (n + 1) m few)
  advance_less (waiting i executed ∷ rest) n m few = behind_waiting_less i executed rest (advance a p (n + 1) rest m) few.0 (advance_less rest (n + 1) m few.1)
  advance_less (ready i executed ∷ rest) n m few = turn_less n i executed rest m few.0 few.1

  -- ---- a meeting

  pub released_few : (items : List Standing) → Few items → Few (map released items)
  released_few [] few = tt
  released_few (ready i executed ∷ rest) few = (few.0, released_few rest few.1)
  released_few (waiting i executed ∷ rest) few = (few.0, released_few rest few.1)
  released_few (ended ∷ rest) few = released_few rest few

  released_left : (items : List Standing) → left (map released items) ≤ left items
  released_left [] = omega arith
  released_left (ready i executed ∷ rest) = let less = released_left rest in omega arith
  released_left (waiting i executed ∷ rest) = let less = released_left rest in omega arith
  released_left (ended ∷ rest) = released_left rest

  -- of items of which one waits, a turn is left less
  pub released_less : (items : List Standing) (n : ℕ) (w : Waiter) → least_waiting n items ≡ Some w → left (map released items) < left items
  released_less [] n w is = absurd cc
  released_less (ready i executed ∷ rest) n w is = let less = released_less rest (n + 1) w is in omega arith
  released_less (waiting i executed ∷ rest) n w is = let less = released_left rest in omega arith
  released_less (ended ∷ rest) n w is = released_less rest (n + 1) w is

  -- that fewer turns are left where a group goes on
  abbrev LessThan : List Standing → Status → Type 0
  LessThan before (running items m) = Few items × (left items < left before)
  LessThan before (done m) = Unit {0}
  LessThan before (faulted f) = Unit {0}

  met_less : (items : List Standing) (m : Contents) (o : Option Waiter) → least_waiting 0 items ≡ o → Few items → LessThan items (met p items m o)
  met_less items m None is few = tt
  met_less items m (Some w) is few = by_test (list_all (waits_before w.next) items)
    where
      by_test : (b : Bool) → LessThan items (if b then running (map released items) m else faulted (divergence p w))
      by_test true = (released_few items few, released_less items 0 w is)
      by_test false = tt

  follow_less : (items : List Standing) (m : Contents) → Few items → LessThan items (follow a p (running items m))
  follow_less items m few = by_advance (advance a p 0 items m) (advance_less items 0 m few)
    where
      by_advance : (next : Advance) → Less items next → LessThan items (followed p items m next)
      by_advance (stepped after now) less = less
      by_advance settled less = met_less items m (least_waiting 0 items) refl few
      by_advance (failed f) less = tt

  -- ---- turns

  in_turns : (n : ℕ) (from to : Status) → LeadsIn a p n from to → after_turns a p n from ≡ to
  in_turns zero from to leads = leads
  in_turns (suc n) from to leads = in_turns n (follow a p from) to leads

  over_stays : (n : ℕ) (s : Status) → IsOver s → after_turns a p n s ≡ s
  over_stays zero s over = refl
  over_stays (suc n) (running items m) over = absurd over
  over_stays (suc n) (done m) over = over_stays n (done m) over
  over_stays (suc n) (faulted f) over = over_stays n (faulted f) over

  more_turns : (n k : ℕ) (from : Status) → after_turns a p (n + k) from ≡ after_turns a p k (after_turns a p n from)
  more_turns zero k from = let e : 0 + k ≡ k = omega arith in ap (λ j. after_turns a p j from) e
  more_turns (suc n) k from =
      let e : suc n + k ≡ suc (n + k) = omega arith in
      ap (λ j. after_turns a p j from) e ∙ more_turns n k (follow a p from)

  -- as many turns as are left, and one more, are enough
  over_within : (n : ℕ) (items : List Standing) (m : Contents) → Few items → left items < n → IsOver (after_turns a p n (running items m))
  over_within zero items m few within = absurd (omega arith)
  over_within (suc n) items m few within = by_status (follow a p (running items m)) (follow_less items m few) (over_within n)
    where
      by_status : (s : Status) → LessThan items s → ((others : List Standing) (later : Contents) → Few others → left others < n → IsOver (after_turns a p n (running others later)))
          → IsOver (after_turns a p n s)
      by_status (running after now) less rest = rest after now less.0 (let fewer : left after < left items = less.1 in omega arith)
      by_status (done now) less rest = subst IsOver (sym (over_stays n (done now) tt)) tt
      by_status (faulted f) less rest = subst IsOver (sym (over_stays n (faulted f) tt)) tt

  -- where a group still runs after some turns, at least as many fewer are left
  falls_in : (n : ℕ) (items others : List Standing) (m now : Contents) → Few items → after_turns a p n (running items m) ≡ running others now → Few others × (left others + n ≤ left items)
  falls_in zero items others m now few is = let same : items ≡ others = cc in (subst Few same few, subst (λ xs. left xs + 0 ≤ left items) same (omega arith))
  falls_in (suc n) items others m now few is = by_status (follow a p (running items m)) (follow_less items m few) is (falls_in n)
    where
      by_status : (s : Status) → LessThan items s → after_turns a p n s ≡ running others now
          → ((xs ys : List Standing) (x y : Contents) → Few xs → after_turns a p n (running xs x) ≡ running ys y → Few ys × (left ys + n ≤ left xs))
          → Few others × (left others + suc n ≤ left items)
      by_status (running after later) less same rest =
          let r = rest after others later now less.0 same in
          let fewer : left after < left items = less.1 in
          let fall : left others + n ≤ left after = r.1 in
          (r.0, omega arith)
      by_status (done later) less same rest = let over : done later ≡ running others now = sym (over_stays n (done later) tt) ∙ same in absurd cc
      by_status (faulted f) less same rest = let over : faulted f ≡ running others now = sym (over_stays n (faulted f) tt) ∙ same in absurd cc

  pub falls : (items others : List Standing) (m now : Contents) → Few items → Leads a p (running items m) (running others now) → Few others × (left others ≤ left items)
  falls items others m now few leads =
      let r = falls_in leads.0 items others m now few (in_turns leads.0 (running items m) (running others now) leads.1) in
      let fall : left others + leads.0 ≤ left items = r.1 in
      (r.0, omega arith)

  pub fresh_few : (count : ℕ) → Few (replicate count (ready fresh 0))
  fresh_few zero = tt
  fresh_few (suc count) = (omega arith, fresh_few count)

  fresh_left : (count : ℕ) → left (replicate count (ready fresh 0)) ≡ 2 * (count * 65537)
  fresh_left zero = refl
  fresh_left (suc count) = let rest = fresh_left count in omega arith

  enough : (count : ℕ) → count ≤ 1024 → 2 * (count * 65537) < most_turns
  unfolding most_turns
  enough count few = omega arith

  -- a group has come to an end after the most turns
  pub ends_within : (count : ℕ) (first : Contents) → count ≤ 1024 → IsOver (after_turns a p most_turns (beginning count first))
  ends_within count first few =
      let all = fresh_left count in
      let most = enough count few in
      over_within most_turns (replicate count (ready fresh 0)) first (fresh_few count) (omega arith)

  -- where a group comes to an end, that is where it stands after the most turns
  pub one_end : (count : ℕ) (first : Contents) (to : Status) → count ≤ 1024 → IsOver to → Leads a p (beginning count first) to → after_turns a p most_turns (beginning count first) ≡ to
  one_end count first to few over leads = by_order (cases_lt most_turns leads.0)
    where
      from : Status
      from = beginning count first

      reached : after_turns a p leads.0 from ≡ to
      reached = in_turns leads.0 from to leads.1

      by_order : (most_turns < leads.0) ⊎ (leads.0 ≤ most_turns) → after_turns a p most_turns from ≡ to
      by_order (inl longer) =
          let split : leads.0 ≡ most_turns + (leads.0 - most_turns) = omega arith in
          sym (over_stays (leads.0 - most_turns) (after_turns a p most_turns from) (ends_within count first few))
          ∙ (sym (more_turns most_turns (leads.0 - most_turns) from) ∙ (sym (ap (λ n. after_turns a p n from) split) ∙ reached))
      by_order (inr shorter) =
          let split : most_turns ≡ leads.0 + (most_turns - leads.0) = omega arith in
          ap (λ n. after_turns a p n from) split
          ∙ (more_turns leads.0 (most_turns - leads.0) from ∙ (ap (after_turns a p (most_turns - leads.0)) reached ∙ over_stays (most_turns - leads.0) to over))
