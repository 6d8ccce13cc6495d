-- What a group has written lies in regions that are held with WRITE.
use Rattle.std.proofs.Common.{◌≡◌, ℕ, zero, suc, ◌+◌, ◌/◌, ◌%◌, ◌^◌, ◌<◌, ◌≤◌, List, [], ◌∷◌, length, take, slice_index, arith, refl, sym, ap, ◌∙◌, subst, Bool, true, false, Option, Some, None, Result, Ok, Err}
use Rattle.byteorder.specs.Endian.{little_number}
use Rattle.std.specs.List.{list_all}
use Rattle.std.specs.Prelude.{All, map, ◌==◌, ◌&&◌, nat_lt, nat_le, not, slice_get, if◌then◌else◌}
use Rattle.std.specs.Int.{w32, w64, to_le_bytes}
use Rattle.std.proofs.lemmas.Bool.{and_parts, and_from, lt-ltb, ltb-true, leb-true}
use Rattle.std.proofs.lemmas.Bool.Decides.{nat_tests}
use Rattle.std.proofs.lemmas.List.{length-take}
use Rattle.std.proofs.lemmas.List.Elements.{All-nil, All-head, All-tail, All-weaker}
use Rattle.policy.specs.Rights.{has}
use Rattle.policy.specs.declared.rights.Right.TheVariants.{Read, Write}
use Rattle.queue_error.specs.declared.rule.Rule.{Rule}
use Rattle.queue_error.specs.declared.rule.Rule.TheVariants.{A2, A3, A5}
use Rattle.kernel_check.specs.Programs.{Program}
use Rattle.kernel_check.specs.Steps.{number_bytes}
use Rattle.kernel_check.specs.declared.step.Step.{Step}
use Rattle.kernel_check.specs.declared.step.Step.TheVariants as step
use Rattle.executor.specs.Accesses.{covers_address, region_of, atomic_broken, atomic_broken_in, broken, broken_in, group_loaded, group_stored, lent, loaded, or_misaligned, stored, unless_broken}
use Rattle.executor.specs.Addresses.{address_of, group_address_of}
use Rattle.executor.specs.Atomics.{bytes_found, left32, left64, place_of, put, replacing32, replacing64}
use Rattle.executor.specs.Group.{Standing, ready, waiting, ended, Advance, stepped, settled, failed, context_of_item, taken, behind, advance, Status, running, done, faulted, least_waiting, waits_before, released, met, followed, follow, divergence}
use Rattle.executor.specs.Items.{Contents, LentRegion, Surroundings}
use Rattle.executor.specs.Laws.{AreShort, IsHeldAt, IsHeldRun}
use Rattle.executor.specs.Meaning.{Act, goes_on, arrives, ends, broke, act, after_load, after_store, after_group_store, after_atomic32, after_atomic64, turn, turn_at}
use Rattle.executor.specs.Registers.{read_any}
use Rattle.executor.specs.Results.{wrote, after_turns, most_turns, result_at, group_result}
use Rattle.executor.specs.Runs.{GroupInput, begun, surroundings_of}
use Rattle.executor.specs.Told.{runs_of}
use Rattle.executor.specs.Written.{laid, seen}
use Rattle.queue_error.specs.declared.error.SegmentAddress.{SegmentAddress}
use Rattle.queue_error.specs.declared.error.SegmentAddress.TheVariants as segment
use Rattle.executor.specs.declared.item.Item.{Item}
use Rattle.executor.specs.declared.rounds.Waiter.{Waiter}
use Rattle.executor.specs.declared.written_range.WrittenRange.{WrittenRange}
use Rattle.executor.proofs.Maps.{by_range, laid_below, laid_past}
use Rattle.executor.proofs.OnlyRuns.{each_covered}
use Rattle.executor.proofs.RunLemmas.{told_below, told_cut}

-- ---- a later address of an access lies in the same region

other_misses : (number region from to size : ℕ) → from ≤ to → (number == region && nat_lt from size) ≡ false → (number == region && nat_lt to size) ≡ false
other_misses number region from to size later misses = grind (arith, nat_tests)

found_later : (view : List LentRegion) (a x : ℕ) (region : LentRegion) → x / 2 ^ 32 ≡ a / 2 ^ 32 → a % 2 ^ 32 ≤ x % 2 ^ 32 → x % 2 ^ 32 < length region.bytes
    → region_of view a ≡ Some region → region_of view x ≡ Some region
found_later [] a x region same later within found = absurd cc
found_later (r ∷ rs) a x region same later within found = by_test (covers_address r a) refl found (found_later rs a x region same later within)
  where
    by_test : (b : Bool) → covers_address r a ≡ b → (if b then Some r else region_of rs a) ≡ Some region → (region_of rs a ≡ Some region → region_of rs x ≡ Some region) → region_of (r ∷ rs) x ≡ Some region
    by_test true is was rest =
        let here : r ≡ region = cc in
        let parts = and_parts (r.number == a / 2 ^ 32) _ is in
        let short : x % 2 ^ 32 < length r.bytes = subst (λ (s : LentRegion). x % 2 ^ 32 < length s.bytes) (sym here) within in
        let number : (r.number == x / 2 ^ 32) ≡ true = ap (λ n. r.number == n) same ∙ parts.0 in
        let covered : covers_address r x ≡ true = and_from _ _ number (lt-ltb (x % 2 ^ 32) (length r.bytes) short) in
        rw covered (ap Some here)
    by_test false is was rest =
        let missed : covers_address r x ≡ false =
        ap (λ n. r.number == n && nat_lt (x % 2 ^ 32) (length r.bytes)) same
        ∙ other_misses r.number (a / 2 ^ 32) (a % 2 ^ 32) (x % 2 ^ 32) (length r.bytes) later is in
        rw missed (rest was)

found_short : (view : List LentRegion) (a : ℕ) (region : LentRegion) → AreShort view → region_of view a ≡ Some region → length region.bytes ≤ 2 ^ 32
found_short [] a region short found = absurd cc
found_short (r ∷ rs) a region short found = by_test (covers_address r a) refl found (found_short rs a region (All-tail (λ (s : LentRegion). length s.bytes ≤ 2 ^ 32) r rs short))
  where
    by_test : (b : Bool) → covers_address r a ≡ b → (if b then Some r else region_of rs a) ≡ Some region → (region_of rs a ≡ Some region → length region.bytes ≤ 2 ^ 32) → length region.bytes ≤ 2 ^ 32
    by_test true is was rest = let here : r ≡ region = cc in subst (λ (s : LentRegion). length s.bytes ≤ 2 ^ 32) here (All-head (λ (s : LentRegion). length s.bytes ≤ 2 ^ 32) r rs short)
    by_test false is was rest = rest was

-- ---- a store

module _ (view : List LentRegion) (short : AreShort view) where
  -- each byte that is written lies where WRITE is held
  abbrev Kept : (ℕ → Option ℕ) → Type 0
  Kept written = (x byte : ℕ) → written x ≡ Some byte → IsHeldAt view Write x

  module _ (written : ℕ → Option ℕ) (kept : Kept written) (address n : ℕ) (bytes : List ℕ) (few : length bytes ≤ n) where
    laid_kept : (region : LentRegion) → region_of view address ≡ Some region → has region.rights Write ≡ true → address % 2 ^ 32 + n ≤ length region.bytes → Kept (laid written address bytes)
    laid_kept region found right inside x byte is =
        by_range address (length bytes) x
        (λ p. kept x byte (sym (laid_below written address bytes x p) ∙ is))
        (λ p q. let all = found_short view address region short found in let most = few in
        record {
          region = region;
          is_found = found_later view address x region (omega arith) (omega arith) (omega arith) found;
          has_right = right;
        })
        (λ p. kept x byte (sym (laid_past written address bytes x p) ∙ is))

    -- bytes that are laid where WRITE allows an access
    allowed_kept : (o : Option LentRegion) → region_of view address ≡ o → broken_in o Write address n ≡ None → Kept (laid written address bytes)
    allowed_kept None found fine = absurd cc
    allowed_kept (Some region) found fine = by_right (has region.rights Write) refl fine
      where
        by_end : has region.rights Write ≡ true → (b : Bool) → nat_le (address % 2 ^ 32 + n) (length region.bytes) ≡ b → (if not b then Some A3 else None) ≡ None → Kept (laid written address bytes)
        by_end right true fits same = laid_kept region found right (leb-true _ _ fits)
        by_end right false fits same = absurd cc

        by_right : (b : Bool) → has region.rights Write ≡ b → (if not b then Some A2 else if not (nat_le (address % 2 ^ 32 + n) (length region.bytes)) then Some A3 else None) ≡ None → Kept (laid written address bytes)
        by_right true right same = by_end right (nat_le (address % 2 ^ 32 + n) (length region.bytes)) refl same
        by_right false right same = absurd cc

  unbroken : {X : Type 0} (o : Option Rule) (x y : X) → unless_broken o x ≡ Ok y → (o ≡ None) × (x ≡ y)
  unbroken None x y is = (refl, cc)
  unbroken (Some rule) x y is = absurd cc

  stored_kept : (written : ℕ → Option ℕ) → Kept written → (address n value : ℕ) → (now : ℕ → Option ℕ) → stored view written address n value ≡ Ok now → Kept now
  stored_kept written kept address n value now is =
      let bytes : List ℕ = take n (to_le_bytes w64 value) in
      let few : length bytes ≤ n = omega (arith, length-take n (to_le_bytes w64 value)) in
      let r = unbroken (broken view Write address n) (laid written address bytes) now is in
      subst Kept r.1 (allowed_kept written kept address n bytes few (region_of view address) refl r.0)

  -- ---- an atomic operation

  aligned : (o : Option Rule) (address n : ℕ) → or_misaligned o address n ≡ None → o ≡ None
  aligned None address n is = refl
  aligned (Some rule) address n is = absurd cc

  atomic_allowed : (o : Option LentRegion) (address n : ℕ) → atomic_broken_in o address n ≡ None → broken_in o Write address n ≡ None
  atomic_allowed None address n is = absurd cc
  atomic_allowed (Some region) address n is = by_read (has region.rights Read) is
    where
      by_read : (b : Bool) → (if b then or_misaligned (broken_in (Some region) Write address n) address n else Some A2) ≡ None → broken_in (Some region) Write address n ≡ None
      by_read true same = aligned (broken_in (Some region) Write address n) address n same
      by_read false same = absurd cc

  put_kept : (m : Contents) → Kept m.written → (x : SegmentAddress) (n : ℕ) (old bytes : List ℕ) → length bytes ≤ n → bytes_found view m x n ≡ Ok old → Kept (put m x bytes).written
  put_kept m kept (segment.Global x) n old bytes few is =
      let r = unbroken (atomic_broken view x n) (seen m.written x (lent view x n)) old is in
      allowed_kept m.written kept x n bytes few (region_of view x) refl (atomic_allowed (region_of view x) x n r.0)
  put_kept m kept (segment.Group x) n old bytes few is = kept

  left32_kept : (m : Contents) → Kept m.written → (x : SegmentAddress) (old : List ℕ) (o : Option ℕ) → bytes_found view m x 4 ≡ Ok old → Kept (left32 m x o).written
  left32_kept m kept x old None is = kept
  left32_kept m kept x old (Some value) is = put_kept m kept x 4 old (to_le_bytes w32 value) (omega arith) is

  left64_kept : (m : Contents) → Kept m.written → (x : SegmentAddress) (old : List ℕ) (o : Option ℕ) → bytes_found view m x 8 ≡ Ok old → Kept (left64 m x o).written
  left64_kept m kept x old None is = kept
  left64_kept m kept x old (Some value) is = put_kept m kept x 8 old (to_le_bytes w64 value) (omega arith) is

  -- ---- a turn

  abbrev KeptAct : Act → Type 0
  KeptAct (goes_on i m) = Kept m.written
  KeptAct (arrives i m) = Kept m.written
  KeptAct (ends m) = Kept m.written
  KeptAct (broke rule address) = Unit {0}

  abbrev KeptAdvance : Advance → Type 0
  KeptAdvance (stepped items m) = Kept m.written
  KeptAdvance settled = Unit {0}
  KeptAdvance (failed f) = Unit {0}

  abbrev KeptStatus : Status → Type 0
  KeptStatus (running items m) = Kept m.written
  KeptStatus (done m) = Kept m.written
  KeptStatus (faulted f) = Unit {0}

  module _ (p : Program) where
    act_kept : (a : Surroundings) → a.view ≡ view → (i : Item) (m : Contents) (s : Step) → Kept m.written → KeptAct (act a i m s)
    act_kept a same i m (step.Control s) kept = kept
    act_kept a same i m (step.Single s) kept = kept
    act_kept a same i m (step.Double s) kept = kept
    act_kept a same i m (step.Convert c) kept = kept
    act_kept a same i m (step.Argument l) kept = kept
    act_kept a same i m (step.Load l) kept = by_result (loaded a.view m.written (address_of i.registers l.pointer) (number_bytes l.kind))
      where
        by_result : (r : Result ℕ Rule) → KeptAct (after_load i m l.target l.kind (segment.Global (address_of i.registers l.pointer)) r)
        by_result (Ok value) = kept
        by_result (Err rule) = tt
    act_kept a same i m (step.Store s) kept = by_result (stored a.view m.written (address_of i.registers s.pointer) (number_bytes s.kind) (read_any i.registers s.source)) refl
      where
        by_result : (r : Result (ℕ → Option ℕ) Rule) → stored a.view m.written (address_of i.registers s.pointer) (number_bytes s.kind) (read_any i.registers s.source) ≡ r → KeptAct (after_store i m (segment.Global (address_of i.registers s.pointer)) r)
        by_result (Ok now) is =
            stored_kept m.written kept (address_of i.registers s.pointer) (number_bytes s.kind) (read_any i.registers s.source) now
            (subst (λ v. stored v m.written (address_of i.registers s.pointer) (number_bytes s.kind) (read_any i.registers s.source) ≡ Ok now) same is)
        by_result (Err rule) is = tt
    act_kept a same i m (step.LoadGroup l) kept = by_result (group_loaded m.group (group_address_of i.registers l.pointer) (number_bytes l.kind))
      where
        by_result : (r : Result ℕ Rule) → KeptAct (after_load i m l.target l.kind (segment.Group (group_address_of i.registers l.pointer)) r)
        by_result (Ok value) = kept
        by_result (Err rule) = tt
    act_kept a same i m (step.StoreGroup s) kept =
        by_result (group_stored m.group (group_address_of i.registers s.pointer) (number_bytes s.kind) (read_any i.registers s.source))
      where
        by_result : (r : Result (List ℕ) Rule) → KeptAct (after_group_store i m (segment.Group (group_address_of i.registers s.pointer)) r)
        by_result (Ok group) = kept
        by_result (Err rule) = tt
    act_kept a same i m (step.Atomic32 s) kept = by_result (bytes_found a.view m (place_of i.registers s.pointer) 4) refl
      where
        by_result : (r : Result (List ℕ) Rule) → bytes_found a.view m (place_of i.registers s.pointer) 4 ≡ r → KeptAct (after_atomic32 i m s r)
        by_result (Ok old) is =
            left32_kept m kept (place_of i.registers s.pointer) old (replacing32 i.registers s.operation (little_number 4 old))
            (subst (λ v. bytes_found v m (place_of i.registers s.pointer) 4 ≡ Ok old) same is)
        by_result (Err rule) is = tt
    act_kept a same i m (step.Atomic64 s) kept = by_result (bytes_found a.view m (place_of i.registers s.pointer) 8) refl
      where
        by_result : (r : Result (List ℕ) Rule) → bytes_found a.view m (place_of i.registers s.pointer) 8 ≡ r → KeptAct (after_atomic64 i m s r)
        by_result (Ok old) is =
            left64_kept m kept (place_of i.registers s.pointer) old (replacing64 i.registers s.operation (little_number 8 old))
            (subst (λ v. bytes_found v m (place_of i.registers s.pointer) 8 ≡ Ok old) same is)
        by_result (Err rule) is = tt
    act_kept a same i m step.Barrier kept = kept
    act_kept a same i m (step.Branch next) kept = kept
    act_kept a same i m (step.ConditionalBranch b) kept = kept
    act_kept a same i m step.Return kept = kept
    act_kept a same i m (step.WorkItemQuery q) kept = kept

    turn_kept : (a : Surroundings) → a.view ≡ view → (i : Item) (executed : ℕ) (m : Contents) → Kept m.written → KeptAct (turn a p.steps i executed m)
    turn_kept a same i executed m kept = by_step (slice_get p.steps i.next)
      where
        by_test : (s : Step) (b : Bool) → KeptAct (if b then broke A5 None else act a i m s)
        by_test s true = tt
        by_test s false = act_kept a same i m s kept

        by_step : (o : Option Step) → KeptAct (turn_at a i executed m o)
        by_step None = kept
        by_step (Some s) = by_test s (executed == 65536)

    taken_kept : (n line executed : ℕ) (rest : List Standing) (x : Act) → KeptAct x → KeptAdvance (taken n line executed rest x)
    taken_kept n line executed rest (goes_on i m) kept = kept
    taken_kept n line executed rest (arrives i m) kept = kept
    taken_kept n line executed rest (ends m) kept = kept
    taken_kept n line executed rest (broke rule address) kept = tt

    behind_kept : (before : Standing) (next : Advance) → KeptAdvance next → KeptAdvance (behind before next)
    behind_kept before (stepped items m) kept = kept
    behind_kept before settled kept = tt
    behind_kept before (failed f) kept = tt

    advance_kept : (a : Surroundings) → a.view ≡ view → (items : List Standing) (n : ℕ) (m : Contents) → Kept m.written → KeptAdvance (advance a p n items m)
    advance_kept a same [] n m kept = tt
    advance_kept a same (ended ∷ rest) n m kept = behind_kept ended (advance a p (n + 1) rest m) (advance_kept a same rest (n + 1) m kept)
    advance_kept a same (waiting i executed ∷ rest) n m kept = behind_kept (waiting i executed) (advance a p (n + 1) rest m) (advance_kept a same rest (n + 1) m kept)
    advance_kept a same (ready i executed ∷ rest) n m kept =
        taken_kept n (slice_index p.lines i.next) executed rest (turn (context_of_item a n) p.steps i executed m) (turn_kept (context_of_item a n) same i executed m kept)

    met_kept : (items : List Standing) (m : Contents) (o : Option Waiter) → Kept m.written → KeptStatus (met p items m o)
    met_kept items m None kept = kept
    met_kept items m (Some w) kept = by_test (list_all (waits_before w.next) items)
      where
        by_test : (b : Bool) → KeptStatus (if b then running (map released items) m else faulted (divergence p w))
        by_test true = kept
        by_test false = tt

    followed_kept : (items : List Standing) (m : Contents) (next : Advance) → Kept m.written → KeptAdvance next → KeptStatus (followed p items m next)
    followed_kept items m (stepped after now) kept more = more
    followed_kept items m settled kept more = met_kept items m (least_waiting 0 items) kept
    followed_kept items m (failed f) kept more = tt

    follow_kept : (a : Surroundings) → a.view ≡ view → (s : Status) → KeptStatus s → KeptStatus (follow a p s)
    follow_kept a same (running items m) kept = followed_kept items m (advance a p 0 items m) kept (advance_kept a same items 0 m kept)
    follow_kept a same (done m) kept = kept
    follow_kept a same (faulted f) kept = tt

    turns_kept : (a : Surroundings) → a.view ≡ view → (n : ℕ) (s : Status) → KeptStatus s → KeptStatus (after_turns a p n s)
    turns_kept a same zero s kept = kept
    turns_kept a same (suc n) s kept = turns_kept a same n (follow a p s) (follow_kept a same s kept)

  -- ---- what a group comes to

  within_limit : (limit x byte : ℕ) (written : ℕ → Option ℕ) → (if nat_lt x limit then written x else None) ≡ Some byte → written x ≡ Some byte
  within_limit limit x byte written is = by_test (nat_lt x limit) is
    where
      by_test : (b : Bool) → (if b then written x else None) ≡ Some byte → written x ≡ Some byte
      by_test true same = same
      by_test false same = absurd cc

  runs_held : (written : ℕ → Option ℕ) → Kept written → All (IsHeldRun view Write) (runs_of written)
  runs_held written kept =
      All-weaker (λ (run : WrittenRange). (0 < length run.bytes) × ((x : ℕ) → run.address ≤ x → x < run.address + length run.bytes → IsHeldAt view Write x)) (IsHeldRun view Write)
      (λ run holds. record { has_bytes = holds.0; each = λ x inside. let both = and_parts (nat_le run.address x) _ inside in holds.1 x (leb-true _ _ both.0) (ltb-true _ _ both.1) })
      (runs_of written)
      (each_covered (IsHeldAt view Write) (λ x. if nat_lt x (2 ^ 64) then written x else None) (runs_of written) (told_cut written (2 ^ 64) (runs_of written) (told_below written (2 ^ 64)))
      (λ x byte is. kept x byte (within_limit (2 ^ 64) x byte written is)))

  result_held : (s : Status) (runs : List WrittenRange) → KeptStatus s → result_at s ≡ wrote runs → All (IsHeldRun view Write) runs
  result_held (running items m) runs kept is = let e : [] ≡ runs = cc in subst (All (IsHeldRun view Write)) e (All-nil (IsHeldRun view Write))
  result_held (done m) runs kept is = let e : runs_of m.written ≡ runs = cc in subst (All (IsHeldRun view Write)) e (runs_held m.written kept)
  result_held (faulted f) runs kept is = absurd cc

pub group_held : (i : GroupInput) (runs : List WrittenRange) → AreShort i.view → group_result i ≡ wrote runs → All (IsHeldRun i.view Write) runs
unfolding group_result
group_held i runs short is =
    result_held i.view short (after_turns (surroundings_of i) i.program most_turns (begun i)) runs
    (turns_kept i.view short i.program (surroundings_of i) refl most_turns (begun i) (λ x byte none. absurd cc)) is
