-- Always the least item first is a run without a conflict: so each group that is done has one.
use Rattle.std.proofs.Common.{◌≡◌, ℕ, zero, suc, ◌+◌, ◌≤◌, Bool, true, false, List, [], ◌∷◌, ◌++◌, length, map, Option, Some, None, refl, sym, ap, ◌∙◌, subst, arith, replicate}
use Rattle.std.specs.Prelude.{if◌then◌else◌, slice_get, slice_index, slice_set}
use Rattle.std.specs.List.{list_all}
use Rattle.executor.specs.Footprints.{Bytes, LeadsTo, TouchesAsNamed, at_address, contents_of, group_bytes, in_group, places_read, with_writes}
use Rattle.executor.specs.Group.{Standing, ready, waiting, ended, Status, running, done, faulted, Leads, LeadsIn, context_of_item, divergence, followed, least_waiting, met, released, taken, waits_before}
use Rattle.executor.specs.Items.{Contents, Surroundings, blank, fresh}
use Rattle.executor.specs.Locations.{count_of}
use Rattle.executor.specs.LockStep.{HaveStopped, Marks, Moment, PassesPhases, RunsInLockStep, RunsToStop, TakesTurn}
use Rattle.executor.specs.Meaning.{Act, goes_on, arrives, ends, broke, turn}
use Rattle.executor.specs.Runs.{GroupInput, begun, surroundings_of}
use Rattle.executor.specs.Written.{nothing}
use Rattle.executor.specs.inner.Stops.{AreStopped}
use Rattle.executor.specs.declared.fault.ItemFault.{ItemFault}
use Rattle.executor.specs.declared.item.Item.{Item}
use Rattle.executor.specs.declared.rounds.Waiter.{Waiter}
use Rattle.kernel_check.specs.Programs.{Program}
use Rattle.executor.proofs.GroupLemmas.{advance_after, behind_all, failed_behind, meet, stepped_behind}
use Rattle.executor.proofs.LockLemmas.{one_behind, one_longer, stopped_both}
use Rattle.executor.proofs.TurnFootprints.{touches_as_named}

have_stopped : (items : List Standing) → AreStopped items → HaveStopped items
have_stopped [] are = tt
have_stopped (ready i executed ∷ items) are = absurd are
have_stopped (waiting i executed ∷ items) are = have_stopped items are
have_stopped (ended ∷ items) are = have_stopped items are

get_middle : (earlier : List Standing) (s : Standing) (rest : List Standing) → slice_get (earlier ++ s ∷ rest) (length earlier) ≡ Some s
get_middle [] s rest = refl
get_middle (x ∷ earlier) s rest = get_middle earlier s rest

set_middle : (earlier : List Standing) (s next : Standing) (rest : List Standing) → earlier ++ next ∷ rest ≡ slice_set (earlier ++ s ∷ rest) (length earlier) next
set_middle [] s next rest = refl
set_middle (x ∷ earlier) s next rest = ap (λ t. x ∷ t) (set_middle earlier s next rest)

-- an act leaves one memory
one_memory : (executed : ℕ) (x : Act) (next : Standing) (c d : Contents) → LeadsTo executed x next c → LeadsTo executed x next d → c ≡ d
one_memory executed (goes_on i m) next c d one two = sym one.1 ∙ two.1
one_memory executed (arrives i m) next c d one two = sym one.1 ∙ two.1
one_memory executed (ends m) next c d one two = sym one.1 ∙ two.1
one_memory executed (broke rule address) next c d one two = absurd one

-- memory as a group begins
abbrev blank_bytes : Bytes
blank_bytes (in_group x) = Some 0
blank_bytes (at_address x) = None

blank_from : (k from : ℕ) → group_bytes k from blank_bytes ≡ replicate k 0
blank_from zero from = refl
blank_from (suc k) from = ap (λ t. 0 ∷ t) (blank_from k (from + 1))

blank_is : (size : ℕ) → contents_of size blank_bytes ≡ blank size
blank_is size = λ i. record { group = blank_from size 0 i; written = nothing }

abbrev marks_at : ℕ → Marks
marks_at low = record { read = λ x. low; wrote = λ x. low }

abbrev moment : List Standing → Bytes → ℕ → Moment
moment items m low = record { items = items; memory = m; marks = marks_at low }

module _ (a : Surroundings) (p : Program) (size : ℕ) (end : Contents) where
  done_stays : (k : ℕ) (c : Contents) → LeadsIn a p k (done c) (done end) → done c ≡ done end
  done_stays zero c leads = leads
  done_stays (suc k) c leads = done_stays k c leads

  no_fault : (k : ℕ) (f : ItemFault) → LeadsIn a p k (faulted f) (done end) → ⊥
  no_fault zero f leads = cc
  no_fault (suc k) f leads = no_fault k f leads

  abbrev Runs : Moment → Type 0
  Runs before =
      (after : Moment) × RunsToStop a p size 0 before after × (phases : ℕ)
      × PassesPhases a p size phases (met p after.items (contents_of size after.memory) (least_waiting 0 after.items)) (done end)

  abbrev Goes : ℕ → Type 0
  Goes k =
      (low : ℕ) (earlier rest : List Standing) (m : Bytes) → AreStopped earlier → low ≤ length earlier + 1
      → LeadsIn a p k (running (earlier ++ rest) (contents_of size m)) (done end) → Runs (moment (earlier ++ rest) m low)

  module _ (k : ℕ) (then_goes : Goes k) where
    -- one turn of the least item that is ready, and the others behind it
    module _ (low : ℕ) (earlier rest : List Standing) (i : Item) (executed : ℕ) (m : Bytes) (are : AreStopped earlier) (le : low ≤ length earlier + 1) where
      abbrev number : ℕ
      number = 0 + length earlier

      abbrev acts : Act
      acts = turn (context_of_item a number) p.steps i executed (contents_of size m)

      takes : (next : Standing) (t : TouchesAsNamed a p size number i executed next m)
          → TakesTurn a p size 0 (length earlier) (moment (earlier ++ ready i executed ∷ rest) m low) (moment (earlier ++ next ∷ rest) (with_writes t.0 m) (number + 1))
      takes next t = record {
        item = ready i executed;
        there = get_middle earlier (ready i executed) rest;
        next = next;
        footprint = record { reads = places_read i (slice_get p.steps i.next); writes = t.0 };
        turns = t.2;
        no_conflict = record { read_unwritten = λ x is. omega (arith, le); written_unwritten = λ x is. omega (arith, le); written_unread = λ x is. omega (arith, le) };
        items = set_middle earlier (ready i executed) next rest;
        memory = refl;
        marks = record { read_kept = λ x. omega (arith, le); wrote_kept = λ x. omega (arith, le); reader_marked = λ x is. omega arith; writer_marked = λ x is. omega arith };
      }

      on : (next : Standing) (c : Contents) → LeadsTo executed acts next c → LeadsIn a p k (running (earlier ++ next ∷ rest) c) (done end)
          → Runs (moment (earlier ++ ready i executed ∷ rest) m low)
      on next c led leads =
          let t : TouchesAsNamed a p size number i executed next m = touches_as_named a p size number i executed m next c led in
          let same : c ≡ contents_of size (with_writes t.0 m) = one_memory executed acts next c (contents_of size (with_writes t.0 m)) led (t.2 m (λ x is. refl)) in
          let r : Runs (moment (earlier ++ next ∷ rest) (with_writes t.0 m) (number + 1)) =
          then_goes (number + 1) earlier (next ∷ rest) (with_writes t.0 m) are (omega arith)
          (subst (λ w. LeadsIn a p k (running (earlier ++ next ∷ rest) w) (done end)) same leads) in
          (r.0, (length earlier ∷ r.1.0, (moment (earlier ++ next ∷ rest) (with_writes t.0 m) (number + 1), takes next t, r.1.1), r.1.2), r.2, r.3)

      by_act : (x : Act) → acts ≡ x
          → LeadsIn a p k (followed p (earlier ++ ready i executed ∷ rest) (contents_of size m) (behind_all earlier (taken number (slice_index p.lines i.next) executed rest x))) (done end)
          → Runs (moment (earlier ++ ready i executed ∷ rest) m low)
      by_act (goes_on j c) is leads =
          on (ready j (executed + 1)) c (subst (λ x. LeadsTo executed x (ready j (executed + 1)) c) (sym is) (refl, refl))
          (subst (λ v. LeadsIn a p k (followed p (earlier ++ ready i executed ∷ rest) (contents_of size m) v) (done end)) (stepped_behind earlier (ready j (executed + 1) ∷ rest) c) leads)
      by_act (arrives j c) is leads =
          on (waiting j (executed + 1)) c (subst (λ x. LeadsTo executed x (waiting j (executed + 1)) c) (sym is) (refl, refl))
          (subst (λ v. LeadsIn a p k (followed p (earlier ++ ready i executed ∷ rest) (contents_of size m) v) (done end)) (stepped_behind earlier (waiting j (executed + 1) ∷ rest) c) leads)
      by_act (ends c) is leads =
          on ended c (subst (λ x. LeadsTo executed x ended c) (sym is) (refl, refl))
          (subst (λ v. LeadsIn a p k (followed p (earlier ++ ready i executed ∷ rest) (contents_of size m) v) (done end)) (stepped_behind earlier (ended ∷ rest) c) leads)
      by_act (broke rule address) is leads =
          absurd (no_fault k _ (subst (λ v. LeadsIn a p k (followed p (earlier ++ ready i executed ∷ rest) (contents_of size m) v) (done end)) (failed_behind earlier _) leads))

      one_goes : LeadsIn a p (suc k) (running (earlier ++ ready i executed ∷ rest) (contents_of size m)) (done end) → Runs (moment (earlier ++ ready i executed ∷ rest) m low)
      one_goes leads =
          by_act acts refl
          (subst (λ v. LeadsIn a p k (followed p (earlier ++ ready i executed ∷ rest) (contents_of size m) v) (done end))
          (advance_after a p earlier 0 number i executed rest (contents_of size m) are refl) leads)

    -- all have stopped
    module _ (items : List Standing) (m : Bytes) where
      abbrev Passed : Status → Type 0
      Passed from = (phases : ℕ) × PassesPhases a p size phases from (done end)

      by_all : (w : Waiter) (b : Bool) → LeadsIn a p k (if b then running (map released items) (contents_of size m) else faulted (divergence p w)) (done end)
          → Passed (if b then running (map released items) (contents_of size m) else faulted (divergence p w))
      by_all w true leads =
          let r : Runs (moment (map released items) m 0) = then_goes 0 [] (map released items) m tt (omega arith) leads in
          (suc r.2, (moment (map released items) m 0, r.0, refl, r.1, r.3))
      by_all w false leads = absurd (no_fault k (divergence p w) leads)

      by_wait : (o : Option Waiter) → LeadsIn a p k (met p items (contents_of size m) o) (done end) → Passed (met p items (contents_of size m) o)
      by_wait None leads = (0, done_stays k (contents_of size m) leads)
      by_wait (Some w) leads = by_all w (list_all (waits_before w.next) items) leads

      all_stopped : (low : ℕ) → AreStopped items → LeadsIn a p (suc k) (running items (contents_of size m)) (done end) → Runs (moment items m low)
      all_stopped low are leads =
          let r = by_wait (least_waiting 0 items) (subst (λ s. LeadsIn a p k s (done end)) (meet a p items (contents_of size m) (least_waiting 0 items) are refl) leads) in
          (moment items m low, ([], refl, have_stopped items are), r.0, r.1)

    -- the least item that is ready is looked for
    goes_on_from : Goes (suc k)
    goes_on_from low earlier [] m are le leads = all_stopped (earlier ++ []) m low (stopped_both earlier [] are tt) leads
    goes_on_from low earlier (ready i executed ∷ rest) m are le leads = one_goes low earlier rest i executed m are le leads
    goes_on_from low earlier (waiting i executed ∷ rest) m are le leads =
        let long = one_longer earlier (waiting i executed) (length earlier) refl in
        subst (λ xs. Runs (moment xs m low)) (one_behind earlier (waiting i executed) rest)
        (goes_on_from low (earlier ++ waiting i executed ∷ []) rest m (stopped_both earlier (waiting i executed ∷ []) are tt) (omega (arith, le, long))
        (subst (λ xs. LeadsIn a p (suc k) (running xs (contents_of size m)) (done end)) (sym (one_behind earlier (waiting i executed) rest)) leads))
    goes_on_from low earlier (ended ∷ rest) m are le leads =
        let long = one_longer earlier ended (length earlier) refl in
        subst (λ xs. Runs (moment xs m low)) (one_behind earlier ended rest)
        (goes_on_from low (earlier ++ ended ∷ []) rest m (stopped_both earlier (ended ∷ []) are tt) (omega (arith, le, long))
        (subst (λ xs. LeadsIn a p (suc k) (running xs (contents_of size m)) (done end)) (sym (one_behind earlier ended rest)) leads))

  goes : (k : ℕ) → Goes k
  goes zero = λ low earlier rest m are le leads. absurd cc
  goes (suc k) = goes_on_from k (goes k)

-- a group that is done ran so
pub group_ran : (i : GroupInput) (m : Contents) → Leads (surroundings_of i) i.program (begun i) (done m) → RunsInLockStep i m
group_ran i m leads =
    let size = i.group_segment_size in
    let items = replicate (count_of (surroundings_of i).location.current_size) (ready fresh 0) in
    let r = goes (surroundings_of i) i.program size m leads.0 0 [] items blank_bytes tt (omega arith)
    (subst (λ c. LeadsIn (surroundings_of i) i.program leads.0 (running items c) (done m)) (sym (blank_is size)) leads.1) in
    (suc r.2, (moment items blank_bytes 0, r.0, ap (running items) (sym (blank_is size)), r.1, r.3))
