-- Items that run from barrier to barrier, one after another, are the least item first.
use Rattle.std.proofs.Common.{◌≡◌, Option, Some, None, length, ℕ, zero, suc, ◌+◌, ◌-◌, ◌<◌, ◌≤◌, List, [], ◌∷◌, ◌++◌, replicate, slice_set, get_or, arith, refl, sym, ap, ◌∙◌, subst, Bool, true, false}
use Rattle.std.specs.Prelude.{drop, map, take, if◌then◌else◌}
use Rattle.std.specs.List.{list_all}
use Rattle.std.proofs.lemmas.Bool.{and_parts}
use Rattle.std.proofs.Math.Seq.{take-append_seam}
use Rattle.executor.specs.Group.{Standing, ready, ended, Status, running, done, faulted, least_waiting, waits_before, released, met, Leads, beginning, divergence}
use Rattle.executor.specs.Items.{Contents, Surroundings, fresh}
use Rattle.executor.specs.Runs.{Fails}
use Rattle.executor.specs.inner.ItemRuns.{ItemRuns, ItemFails}
use Rattle.executor.specs.inner.Stops.{executed_by, after, is_barrier, standing, standing_at, stopped_again, keep_stopped, waits, AreStopped, CanGoOn, CanGoOnFrom}
use Rattle.executor.specs.declared.fault.RunFault.{RunFault}
use Rattle.executor.specs.declared.fault.RunFault.TheVariants as fault
use Rattle.executor.specs.declared.item.Item.{Item}
use Rattle.executor.specs.declared.item.Stop.{Stop}
use Rattle.executor.specs.declared.item.Stop.TheVariants as stop
use Rattle.executor.specs.declared.item.StoppedItem.{StoppedItem}
use Rattle.executor.specs.declared.rounds.Waiter.{Waiter}
use Rattle.kernel_check.specs.Programs.{Program}
use Rattle.executor.proofs.GroupLemmas.{leads_trans, leads_none, leads_one, meet}
use Rattle.executor.proofs.TurnLemmas.{left, Few, falls, fresh_few, released_few, released_less}

-- ---- lists of items that stopped

one_stopped : (s : Stop) (i : Item) (executed : ℕ) (rest : List Standing) → AreStopped rest → AreStopped (standing_at s i executed ∷ rest)
one_stopped stop.Barrier i executed rest are = are
one_stopped stop.End i executed rest are = are

all_stopped : (xs : List StoppedItem) → AreStopped (map standing xs)
all_stopped [] = tt
all_stopped (x ∷ xs) = one_stopped x.stop x.item (executed_by x) (map standing xs) (all_stopped xs)

stopped_after : (n : ℕ) (xs : List Standing) → AreStopped xs → AreStopped (after n xs)
stopped_after zero xs are = are
stopped_after (suc n) xs are = stopped_after n xs are

length_after : (n : ℕ) (xs : List Standing) → length (after n xs) ≡ n + length xs
length_after zero xs = omega arith
length_after (suc n) xs = let rest = length_after n xs in omega arith

length_standing : (xs : List StoppedItem) → length (map standing xs) ≡ length xs
length_standing [] = refl
length_standing (x ∷ xs) = ap suc (length_standing xs)

after_append : (n : ℕ) (xs ys : List Standing) → after n xs ++ ys ≡ after n (xs ++ ys)
after_append zero xs ys = refl
after_append (suc n) xs ys = ap (λ zs. ended ∷ zs) (after_append n xs ys)

after_suc : (n : ℕ) (xs : List Standing) → after (suc n) xs ≡ after n (ended ∷ xs)
after_suc zero xs = refl
after_suc (suc n) xs = ap (λ ys. ended ∷ ys) (after_suc n xs)

map_append : (xs ys : List StoppedItem) → map standing (xs ++ ys) ≡ map standing xs ++ map standing ys
map_append [] ys = refl
map_append (x ∷ xs) ys = ap (λ zs. standing x ∷ zs) (map_append xs ys)

append_assoc : (xs ys zs : List Standing) → (xs ++ ys) ++ zs ≡ xs ++ (ys ++ zs)
append_assoc [] ys zs = refl
append_assoc (x ∷ xs) ys zs = ap (λ ws. x ∷ ws) (append_assoc xs ys zs)

append_none : (xs : List Standing) → xs ++ [] ≡ xs
append_none [] = refl
append_none (x ∷ xs) = ap (λ ws. x ∷ ws) (append_none xs)

-- ---- the least that waits

pub least_after : (k n : ℕ) (xs : List Standing) → least_waiting n (after k xs) ≡ least_waiting (n + k) xs
least_after zero n xs = let e : n ≡ n + 0 = omega arith in ap (λ j. least_waiting j xs) e
least_after (suc k) n xs = let e : n + 1 + k ≡ n + suc k = omega arith in least_after k (n + 1) xs ∙ ap (λ j. least_waiting j xs) e

least_here : (s : Stop) (i : Item) (executed n : ℕ) (rest : List Standing) → is_barrier s ≡ true
    → least_waiting n (standing_at s i executed ∷ rest) ≡ Some (record { number = n; next = i.next })
least_here stop.Barrier i executed n rest is = refl
least_here stop.End i executed n rest is = absurd cc

least_behind : (s : Stop) (i : Item) (executed n : ℕ) (rest : List Standing) → is_barrier s ≡ false
    → least_waiting n (standing_at s i executed ∷ rest) ≡ least_waiting (n + 1) rest
least_behind stop.Barrier i executed n rest is = absurd cc
least_behind stop.End i executed n rest is = refl

pub least_there : (xs : List StoppedItem) (k n : ℕ) (d : StoppedItem) → k < length xs → waits (get_or xs k d) ≡ true
    → least_waiting n (map standing (drop k xs)) ≡ Some (record { number = n; next = (get_or xs k d).item.next })
least_there [] k n d lt is = absurd (omega arith)
least_there (x ∷ xs) zero n d lt is = least_here x.stop x.item (executed_by x) n (map standing xs) is
least_there (x ∷ xs) (suc k) n d lt is = least_there xs k n d (omega arith) is

pub least_past : (xs : List StoppedItem) (k n : ℕ) (d : StoppedItem) → k < length xs → waits (get_or xs k d) ≡ false
    → least_waiting n (map standing (drop k xs)) ≡ least_waiting (n + 1) (map standing (drop (suc k) xs))
least_past [] k n d lt is = absurd (omega arith)
least_past (x ∷ xs) zero n d lt is = least_behind x.stop x.item (executed_by x) n (map standing xs) is
least_past (x ∷ xs) (suc k) n d lt is = least_past xs k n d (omega arith) is

pub least_none : (xs : List StoppedItem) (k n : ℕ) → length xs ≤ k → least_waiting n (map standing (drop k xs)) ≡ None
least_none [] zero n p = refl
least_none [] (suc k) n p = refl
least_none (x ∷ xs) zero n p = absurd (omega arith)
least_none (x ∷ xs) (suc k) n p = least_none xs k n (omega arith)

-- ---- items that begin

module _ (a : Surroundings) (p : Program) (count : ℕ) (first : Contents) where
  -- so many items that have not begun
  abbrev begun : ℕ → List Standing
  begun n = replicate n (ready fresh 0)

  abbrev from : Status
  from = beginning count first

  -- that the first items have run, those that ended before the first that waits being left out
  abbrev pub HaveRun : ℕ → List StoppedItem → Contents → Type 0
  HaveRun n xs m = (length xs ≤ n) × Leads a p from (running (after (n - length xs) (map standing xs) ++ begun (count - n)) m)

  pub none_ran : HaveRun 0 [] first
  none_ran =
      let all : count ≡ count - 0 = omega arith in
      (omega arith, subst (λ c. Leads a p from (running (begun c) first)) all (leads_none a p from))

  module _ (n : ℕ) (xs : List StoppedItem) (m : Contents) (lt : n < count) (run : HaveRun n xs m) where
    abbrev earlier : List Standing
    earlier = after (n - length xs) (map standing xs)

    are : AreStopped earlier
    are = stopped_after (n - length xs) (map standing xs) (all_stopped xs)

    many : length earlier ≡ n
    many = let e = length_after (n - length xs) (map standing xs) in let l = length_standing xs in let few = run.0 in omega arith

    before : Leads a p from (running (earlier ++ ready fresh 0 ∷ begun (count - (n + 1))) m)
    before =
        let more : count - n ≡ suc (count - (n + 1)) = omega arith in
        subst (λ c. Leads a p from (running (earlier ++ begun c) m)) more run.1

    pub first_fails : (e : RunFault) → ItemFails a p n (ready fresh 0) m e → Fails a p from e
    first_fails fault.OutOfMemory fails = tt
    first_fails (fault.Fault f) fails =
        leads_trans a p from (running (earlier ++ ready fresh 0 ∷ begun (count - (n + 1))) m) (faulted f) before
        (fails earlier (begun (count - (n + 1))) are many)

    module _ (x : StoppedItem) (now : Contents) (runs : ItemRuns a p n (ready fresh 0) m (standing x) now) where
      stopped_there : Leads a p from (running (earlier ++ standing x ∷ begun (count - (n + 1))) now)
      stopped_there =
          leads_trans a p from (running (earlier ++ ready fresh 0 ∷ begun (count - (n + 1))) m) (running (earlier ++ standing x ∷ begun (count - (n + 1))) now) before
          (runs earlier (begun (count - (n + 1))) are many)

      one_told : (ys : List StoppedItem) → ys ≡ xs ++ x ∷ [] → HaveRun (n + 1) ys now
      one_told ys is =
          let rest = begun (count - (n + 1)) in
          let longer : length (xs ++ x ∷ []) ≡ length xs + 1 = length_one xs in
          let same : n + 1 - length (xs ++ x ∷ []) ≡ n - length xs = let few = run.0 in omega arith in
          let place : after (n + 1 - length (xs ++ x ∷ [])) (map standing (xs ++ x ∷ [])) ++ rest ≡ earlier ++ standing x ∷ rest =
          ap (λ k. after k (map standing (xs ++ x ∷ [])) ++ rest) same
          ∙ ap (λ zs. after (n - length xs) zs ++ rest) (map_append xs (x ∷ []))
          ∙ after_append (n - length xs) (map standing xs ++ standing x ∷ []) rest
          ∙ ap (after (n - length xs)) (append_assoc (map standing xs) (standing x ∷ []) rest)
          ∙ sym (after_append (n - length xs) (map standing xs) (standing x ∷ rest)) in
          subst (λ zs. HaveRun (n + 1) zs now) (sym is) (let few = run.0 in omega arith, subst (λ zs. Leads a p from (running zs now)) (sym place) stopped_there)
        where
          length_one : (zs : List StoppedItem) → length (zs ++ x ∷ []) ≡ length zs + 1
          length_one [] = refl
          length_one (z ∷ zs) = let rest = length_one zs in omega arith

      one_left_out : length xs ≡ 0 → waits x ≡ false → HaveRun (n + 1) xs now
      one_left_out none is = by_list xs none stopped_there
        where
          no_less : n - 0 ≡ n
          no_less = omega arith

          is_ended : (s : Stop) (i : Item) (executed : ℕ) → is_barrier s ≡ false → standing_at s i executed ≡ ended
          is_ended stop.Barrier i executed no_stop = absurd cc
          is_ended stop.End i executed no_stop = refl

          by_list : (ys : List StoppedItem) → length ys ≡ 0 → Leads a p from (running (after (n - length ys) (map standing ys) ++ standing x ∷ begun (count - (n + 1))) now) → HaveRun (n + 1) ys now
          by_list (y ∷ ys) empty leads = absurd (omega arith)
          by_list [] empty leads =
              let rest = begun (count - (n + 1)) in
              let place : after n [] ++ standing x ∷ rest ≡ after (n + 1) [] ++ rest =
              ap (λ s. after n [] ++ s ∷ rest) (is_ended x.stop x.item (executed_by x) is)
              ∙ after_append n [] (ended ∷ rest) ∙ sym (after_suc n rest) ∙ sym (after_append (suc n) [] rest)
              ∙ (let one : suc n ≡ n + 1 = omega arith in ap (λ k. after k [] ++ rest) one) in
              let less : n + 1 - 0 ≡ n + 1 = omega arith in
              let there : Leads a p from (running (after n [] ++ standing x ∷ rest) now) = subst (λ k. Leads a p from (running (after k [] ++ standing x ∷ rest) now)) no_less leads in
              (omega arith, subst (λ k. Leads a p from (running (after k [] ++ rest) now)) (sym less) (subst (λ zs. Leads a p from (running zs now)) place there))

      pub one_ran : (ys : List StoppedItem) → ys ≡ keep_stopped xs x → HaveRun (n + 1) ys now
      one_ran ys is = by_list xs refl
        where
          by_waits : (b : Bool) → waits x ≡ b → xs ≡ [] → HaveRun (n + 1) (if b then x ∷ [] else []) now
          by_waits true waits_there none = one_told (x ∷ []) (ap (λ zs. zs ++ x ∷ []) (sym none))
          by_waits false waits_there none = subst (λ zs. HaveRun (n + 1) zs now) none (one_left_out (ap length none) waits_there)

          by_list : (zs : List StoppedItem) → xs ≡ zs → HaveRun (n + 1) ys now
          by_list [] same = subst (λ ws. HaveRun (n + 1) ws now) (sym (is ∙ ap (λ ws. keep_stopped ws x) same)) (by_waits (waits x) refl same)
          by_list (z ∷ zs) same = one_told ys (is ∙ ap (λ ws. keep_stopped ws x) same ∙ ap (λ ws. ws ++ x ∷ []) (sym same))

  pub all_ran : (n : ℕ) (xs : List StoppedItem) (m : Contents) → n ≡ count → HaveRun n xs m
      → Leads a p from (running (after (count - length xs) (map standing xs)) m)
  all_ran n xs m all run =
      let none : count - n ≡ 0 = omega arith in
      subst (λ zs. Leads a p from (running zs m)) (append_none (after (count - length xs) (map standing xs)))
      (subst (λ k. Leads a p from (running (after (k - length xs) (map standing xs) ++ []) m)) all
      (subst (λ c. Leads a p from (running (after (n - length xs) (map standing xs) ++ begun c) m)) none run.1))

-- ---- items that go on

-- what stands where a list of items has none
abbrev pub no_item : StoppedItem
no_item = record {
  item = record { registers = record { control = []; single = []; double = [] }; next = 0 };
  left = 0;
  stop = stop.Barrier;
}

released_here : (s : Stop) (i : Item) (executed : ℕ) → is_barrier s ≡ true → released (standing_at s i executed) ≡ ready i executed
released_here stop.Barrier i executed is = refl
released_here stop.End i executed is = absurd cc

again_split : (xs : List StoppedItem) (k : ℕ) (d : StoppedItem) → k < length xs
    → stopped_again k xs ≡ map standing (take k xs) ++ released (standing (get_or xs k d)) ∷ stopped_again 0 (drop (suc k) xs)
again_split [] k d lt = absurd (omega arith)
again_split (x ∷ xs) zero d lt = refl
again_split (x ∷ xs) (suc k) d lt = ap (λ ys. standing x ∷ ys) (again_split xs k d (omega arith))

again_set : (xs : List StoppedItem) (k : ℕ) (y : StoppedItem) → k < length xs
    → stopped_again (suc k) (slice_set xs k y) ≡ map standing (take k xs) ++ standing y ∷ stopped_again 0 (drop (suc k) xs)
again_set [] k y lt = absurd (omega arith)
again_set (x ∷ xs) zero y lt = refl
again_set (x ∷ xs) (suc k) y lt = ap (λ ys. standing x ∷ ys) (again_set xs k y (omega arith))

again_all : (xs : List StoppedItem) (k : ℕ) → length xs ≤ k → stopped_again k xs ≡ map standing xs
again_all [] zero p = refl
again_all [] (suc k) p = refl
again_all (x ∷ xs) zero p = absurd (omega arith)
again_all (x ∷ xs) (suc k) p = ap (λ ys. standing x ∷ ys) (again_all xs k (omega arith))

again_none : (xs : List StoppedItem) → map released (map standing xs) ≡ stopped_again 0 xs
again_none [] = refl
again_none (x ∷ xs) = ap (λ ys. released (standing x) ∷ ys) (again_none xs)

pub can_here : (xs : List StoppedItem) (k : ℕ) (d : StoppedItem) → k < length xs → CanGoOnFrom k xs → CanGoOn (get_or xs k d)
can_here [] k d lt can = absurd (omega arith)
can_here (x ∷ xs) zero d lt can = can.0
can_here (x ∷ xs) (suc k) d lt can = can_here xs k d (omega arith) can

can_later : (xs : List StoppedItem) (k : ℕ) (y : StoppedItem) → k < length xs → CanGoOnFrom k xs → CanGoOnFrom (suc k) (slice_set xs k y)
can_later [] k y lt can = absurd (omega arith)
can_later (x ∷ xs) zero y lt can = can.1
can_later (x ∷ xs) (suc k) y lt can = can_later xs k y (omega arith) can

length_taken : (xs : List StoppedItem) (k : ℕ) → k < length xs → length (map standing (take k xs)) ≡ k
length_taken [] k lt = absurd (omega arith)
length_taken (x ∷ xs) zero lt = refl
length_taken (x ∷ xs) (suc k) lt = ap suc (length_taken xs k (omega arith))

length_set : (xs : List StoppedItem) (k : ℕ) (y : StoppedItem) → length (slice_set xs k y) ≡ length xs
length_set [] zero y = refl
length_set [] (suc k) y = refl
length_set (x ∷ xs) zero y = refl
length_set (x ∷ xs) (suc k) y = ap suc (length_set xs k y)

module _ (a : Surroundings) (p : Program) (all : List StoppedItem) (first : Contents) where
  abbrev start : Status
  start = running (stopped_again 0 all) first

  -- that the first items have gone on
  abbrev pub HaveGoneOn : ℕ → List StoppedItem → Contents → Type 0
  HaveGoneOn n xs m = (length xs ≡ length all) × (CanGoOnFrom n xs × Leads a p start (running (stopped_again n xs) m))

  pub none_went : CanGoOnFrom 0 all → HaveGoneOn 0 all first
  none_went can = (refl, (can, leads_none a p start))

  module _ (n : ℕ) (xs : List StoppedItem) (m : Contents) (d : StoppedItem) (lt : n < length xs) (gone : HaveGoneOn n xs m) where
    abbrev x : StoppedItem
    x = get_or xs n d

    abbrev prior : List Standing
    prior = map standing (take n xs)

    abbrev rest : List Standing
    rest = stopped_again 0 (drop (suc n) xs)

    pub may_go : CanGoOn x
    may_go = can_here xs n d lt gone.1.0

    ready_there : Leads a p start (running (prior ++ ready x.item (executed_by x) ∷ rest) m)
    ready_there =
        let place : stopped_again n xs ≡ prior ++ ready x.item (executed_by x) ∷ rest =
        again_split xs n d lt ∙ ap (λ s. prior ++ s ∷ rest) (released_here x.stop x.item (executed_by x) may_go.at_barrier) in
        subst (λ zs. Leads a p start (running zs m)) place gone.1.1

    pub next_fails : (e : RunFault) → ItemFails a p n (ready x.item (executed_by x)) m e → Fails a p start e
    next_fails fault.OutOfMemory fails = tt
    next_fails (fault.Fault f) fails =
        leads_trans a p start (running (prior ++ ready x.item (executed_by x) ∷ rest) m) (faulted f) ready_there
        (fails prior rest (all_stopped (take n xs)) (length_taken xs n lt))

    pub next_goes : (y : StoppedItem) (now : Contents) → ItemRuns a p n (ready x.item (executed_by x)) m (standing y) now → HaveGoneOn (n + 1) (slice_set xs n y) now
    next_goes y now runs =
        let one : suc n ≡ n + 1 = omega arith in
        let went : Leads a p start (running (prior ++ standing y ∷ rest) now) =
        leads_trans a p start (running (prior ++ ready x.item (executed_by x) ∷ rest) m) (running (prior ++ standing y ∷ rest) now) ready_there
        (runs prior rest (all_stopped (take n xs)) (length_taken xs n lt)) in (
          length_set xs n y ∙ gone.0,
          (
            subst (λ k. CanGoOnFrom k (slice_set xs n y)) one (can_later xs n y lt gone.1.0),
            subst (λ k. Leads a p start (running (stopped_again k (slice_set xs n y)) now)) one (subst (λ zs. Leads a p start (running zs now)) (sym (again_set xs n y lt)) went),
          ),
        )

  pub all_went : (n : ℕ) (xs : List StoppedItem) (m : Contents) → length xs ≤ n → HaveGoneOn n xs m → Leads a p start (running (map standing xs) m)
  all_went n xs m past gone = subst (λ zs. Leads a p start (running zs m)) (again_all xs n past) gone.1.1

-- ---- a meeting

-- items that were changed where they stand
pub changed_whole : (n : ℕ) (xs ys : List StoppedItem) → n ≡ length ys → take n (ys ++ drop (length ys) xs) ≡ ys
changed_whole n xs ys same = ap (λ k. take k (ys ++ drop (length ys) xs)) same ∙ take-append_seam ys (drop (length ys) xs)

can_one : (next : ℕ) (s : Stop) (i : Item) (executed : ℕ) (rest : List Standing) → list_all (waits_before next) (standing_at s i executed ∷ rest) ≡ true
    → Few (standing_at s i executed ∷ rest) → (is_barrier s ≡ true) × ((list_all (waits_before next) rest ≡ true) × Few rest)
can_one next stop.Barrier i executed rest is few = (refl, ((and_parts _ (list_all (waits_before next) rest) is).1, few.1))
can_one next stop.End i executed rest is few = absurd cc

can_all : (next : ℕ) (xs : List StoppedItem) → list_all (waits_before next) (map standing xs) ≡ true → Few (map standing xs) → CanGoOnFrom 0 xs
can_all next [] is few = tt
can_all next (x ∷ xs) is few =
    let r = can_one next x.stop x.item (executed_by x) (map standing xs) is few in
    (record { at_barrier = r.0 }, can_all next xs r.1.0 r.1.1)

none_ended : (n next : ℕ) (xs : List Standing) → list_all (waits_before next) (after n xs) ≡ true → n ≡ 0
none_ended zero next xs is = refl
none_ended (suc n) next xs is = absurd cc

module _ (a : Surroundings) (p : Program) (count : ℕ) (first : Contents) where
  module _ (gone : ℕ) (xs : List StoppedItem) (m : Contents) (leads : Leads a p (beginning count first) (running (after gone (map standing xs)) m)) where
    abbrev items : List Standing
    items = after gone (map standing xs)

    stopped : AreStopped items
    stopped = stopped_after gone (map standing xs) (all_stopped xs)

    pub few_left : Few items
    few_left = (falls a p (replicate count (ready fresh 0)) items first m (fresh_few a p count) leads).0

    met_is : (o : Option Waiter) (to : Status) → least_waiting 0 items ≡ o → met p items m o ≡ to → Leads a p (beginning count first) to
    met_is o to least is =
        leads_trans a p (beginning count first) (running items m) to leads
        (leads_one a p (running items m) to (meet a p items m o stopped least ∙ is))

    -- none waits
    pub is_done : least_waiting 0 items ≡ None → Leads a p (beginning count first) (done m)
    is_done least = met_is None (done m) least refl

    module _ (w : Waiter) (least : least_waiting 0 items ≡ Some w) where
      -- not all wait at one barrier
      pub is_apart : list_all (waits_before w.next) items ≡ false → Leads a p (beginning count first) (faulted (divergence p w))
      is_apart apart =
          met_is (Some w) (faulted (divergence p w)) least
          (ap (λ b. if b then running (map released items) m else faulted (divergence p w)) apart)

      module _ (together : list_all (waits_before w.next) items ≡ true) where
        none : gone ≡ 0
        none = none_ended gone w.next (map standing xs) together

        all_here : items ≡ map standing xs
        all_here = ap (λ k. after k (map standing xs)) none

        pub can_go : CanGoOnFrom 0 xs
        can_go = can_all w.next xs (sym (ap (list_all (waits_before w.next)) all_here) ∙ together) (subst Few all_here few_left)

        released_now : Leads a p (beginning count first) (running (stopped_again 0 xs) m)
        released_now =
            met_is (Some w) (running (stopped_again 0 xs) m) least
            (ap (λ b. if b then running (map released items) m else faulted (divergence p w))
            together
            ∙ ap (λ zs. running zs m) (ap (map released) all_here ∙ again_none xs))

        pub round_fails : (e : RunFault) → Fails a p (running (stopped_again 0 xs) m) e → Fails a p (beginning count first) e
        round_fails fault.OutOfMemory fails = tt
        round_fails (fault.Fault f) fails =
            leads_trans a p (beginning count first) (running (stopped_again 0 xs) m) (faulted f) released_now fails

        module _ (ys : List StoppedItem) (now : Contents) (went : Leads a p (running (stopped_again 0 xs) m) (running (map standing ys) now)) where
          pub round_goes : Leads a p (beginning count first) (running (after gone (map standing ys)) now)
          round_goes =
              subst (λ k. Leads a p (beginning count first) (running (after k (map standing ys)) now)) (sym none)
              (leads_trans a p (beginning count first) (running (stopped_again 0 xs) m) (running (map standing ys) now) released_now went)

          pub round_falls : left (after gone (map standing ys)) < left items
          round_falls =
              let again : map released items ≡ stopped_again 0 xs = ap (map released) all_here ∙ again_none xs in
              let fewer : left (map released items) < left items = released_less a p items 0 w least in
              let after_release : left (map standing ys) ≤ left (map released items) =
              (falls a p (map released items) (map standing ys) m now (released_few a p items few_left)
              (subst (λ zs. Leads a p (running zs m) (running (map standing ys) now)) (sym again) went)).1 in
              subst (λ k. left (after k (map standing ys)) < left items) (sym none) (omega arith)
