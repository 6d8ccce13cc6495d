-- Items of a checked kernel stand at its steps or at its end, as long as their group runs.
use Rattle.std.proofs.Common.{◌≡◌, ℕ, zero, suc, ◌+◌, ◌<◌, ◌≤◌, List, [], ◌∷◌, length, map, replicate, slice_get, slice_index, arith, refl, sym, ap, ◌∙◌, subst, Bool, true, false, if◌then◌else◌, Option, Some, None, Result, Ok, Err, ◌==◌}
use Rattle.std.specs.List.{All, list_all}
use Rattle.std.proofs.lemmas.Option.{get_or_from_slice_get, slice_get_within}
use Rattle.byteorder.specs.Endian.{little_number}
use Rattle.executor.specs.Accesses.{group_loaded, group_stored, loaded, stored}
use Rattle.executor.specs.Addresses.{address_of, group_address_of}
use Rattle.executor.specs.Atomics.{bytes_found, place_of}
use Rattle.executor.specs.Group.{Advance, Standing, Status, advance, context_of_item, behind, done, ended, failed, faulted, follow, followed, least_waiting, met, ready, released, running, settled, stepped, taken, waiting, waits_before, divergence}
use Rattle.executor.specs.Items.{Contents, Surroundings, fresh}
use Rattle.executor.specs.Laws.{AllStand, IsRight, RunsRight, StandRight, StandsAt}
use Rattle.executor.specs.Meaning.{Act, act, after_atomic32, after_atomic64, after_group_store, after_load, after_store, arrives, broke, ends, goes_on, turn, turn_at}
use Rattle.executor.specs.Registers.{read1, read_any}
use Rattle.executor.specs.Results.{after_turns}
use Rattle.executor.specs.Runs.{GroupInput, begun, surroundings_of}
use Rattle.executor.specs.Locations.{count_of}
use Rattle.executor.specs.declared.item.Item.{Item}
use Rattle.executor.specs.declared.rounds.Waiter.{Waiter}
use Rattle.kernel_check.specs.Programs.{ArgumentPlace, HasItsClasses, IsSound, LoadsOneOf, Program, StaysWithin}
use Rattle.kernel_check.specs.Steps.{number_bytes}
use Rattle.kernel_check.specs.declared.step.Step.{Step}
use Rattle.kernel_check.specs.declared.step.Step.TheVariants as step
use Rattle.queue_error.specs.declared.error.SegmentAddress.TheVariants as segment
use Rattle.queue_error.specs.declared.rule.Rule.{Rule}
use Rattle.queue_error.specs.declared.rule.Rule.TheVariants.{A5}

-- of an item that has had its turn the next step is one of so many, or behind the last
abbrev StepsWithin : ℕ → Act → Type 0
StepsWithin count (goes_on i m) = i.next ≤ count
StepsWithin count (arrives i m) = i.next ≤ count
StepsWithin count (ends m) = Unit {0}
StepsWithin count (broke rule address) = Unit {0}

branched : (count to next : ℕ) (b : Bool) → to ≤ count → next ≤ count → (if b then to else next) ≤ count
branched count to next true one other = one
branched count to next false one other = other

-- what holds of each element holds of the one at a place
pub at_place : {X : Type 0} (P : X → Type 0) (xs : List X) (n : ℕ) (x : X) → All P xs → slice_get xs n ≡ Some x → P x
at_place P xs n x all is = subst P (get_or_from_slice_get xs n x x is) (all n x (slice_get_within xs n x is))

module _ (count bytes : ℕ) where
  act_within : (a : Surroundings) (i : Item) (m : Contents) (s : Step) → i.next + 1 ≤ count → StaysWithin count bytes s → StepsWithin count (act a i m s)
  act_within a i m (step.Control s) next stays = next
  act_within a i m (step.Single s) next stays = next
  act_within a i m (step.Double s) next stays = next
  act_within a i m (step.Convert c) next stays = next
  act_within a i m (step.Argument l) next stays = next
  act_within a i m (step.Load l) next stays = by_result (loaded a.view m.written (address_of i.registers l.pointer) (number_bytes l.kind))
    where
      by_result : (r : Result ℕ Rule) → StepsWithin count (after_load i m l.target l.kind (segment.Global (address_of i.registers l.pointer)) r)
      by_result (Ok value) = next
      by_result (Err rule) = tt
  act_within a i m (step.Store s) next stays =
      by_result (stored a.view m.written (address_of i.registers s.pointer) (number_bytes s.kind) (read_any i.registers s.source))
    where
      by_result : (r : Result (ℕ → Option ℕ) Rule) → StepsWithin count (after_store i m (segment.Global (address_of i.registers s.pointer)) r)
      by_result (Ok now) = next
      by_result (Err rule) = tt
  act_within a i m (step.LoadGroup l) next stays = by_result (group_loaded m.group (group_address_of i.registers l.pointer) (number_bytes l.kind))
    where
      by_result : (r : Result ℕ Rule) → StepsWithin count (after_load i m l.target l.kind (segment.Group (group_address_of i.registers l.pointer)) r)
      by_result (Ok value) = next
      by_result (Err rule) = tt
  act_within a i m (step.StoreGroup s) next stays =
      by_result (group_stored m.group (group_address_of i.registers s.pointer) (number_bytes s.kind) (read_any i.registers s.source))
    where
      by_result : (r : Result (List ℕ) Rule) → StepsWithin count (after_group_store i m (segment.Group (group_address_of i.registers s.pointer)) r)
      by_result (Ok group) = next
      by_result (Err rule) = tt
  act_within a i m (step.Atomic32 s) next stays = by_result (bytes_found a.view m (place_of i.registers s.pointer) 4)
    where
      by_result : (r : Result (List ℕ) Rule) → StepsWithin count (after_atomic32 i m s r)
      by_result (Ok old) = next
      by_result (Err rule) = tt
  act_within a i m (step.Atomic64 s) next stays = by_result (bytes_found a.view m (place_of i.registers s.pointer) 8)
    where
      by_result : (r : Result (List ℕ) Rule) → StepsWithin count (after_atomic64 i m s r)
      by_result (Ok old) = next
      by_result (Err rule) = tt
  act_within a i m step.Barrier next stays = next
  act_within a i m (step.Branch to) next stays = stays
  act_within a i m (step.ConditionalBranch b) next stays = branched count b.next (i.next + 1) (read1 i.registers b.condition) stays next
  act_within a i m step.Return next stays = tt
  act_within a i m (step.WorkItemQuery q) next stays = next

module _ (p : Program) (arguments : List ArgumentPlace) (right : (n : ℕ) (s : Step) → slice_get p.steps n ≡ Some s → IsRight p arguments s) where
  stands : (next : ℕ) → next ≤ length p.steps → StandsAt p arguments next
  stands next within = record { within = within; right = right next }

  turn_within : (a : Surroundings) (i : Item) (executed : ℕ) (m : Contents) → StepsWithin (length p.steps) (turn a p.steps i executed m)
  turn_within a i executed m = by_step (slice_get p.steps i.next) refl
    where
      by_test : (s : Step) (b : Bool) → i.next < length p.steps → IsRight p arguments s → StepsWithin (length p.steps) (if b then broke A5 None else act a i m s)
      by_test s true some is = tt
      by_test s false some is = act_within (length p.steps) p.argument_bytes a i m s (omega (arith, some)) is.stays

      by_step : (o : Option Step) → slice_get p.steps i.next ≡ o → StepsWithin (length p.steps) (turn_at a i executed m o)
      by_step None is = tt
      by_step (Some s) is = by_test s (executed == 65536) (slice_get_within p.steps i.next s is) (right i.next s is)

  abbrev AdvanceStands : Advance → Type 0
  AdvanceStands (stepped items m) = AllStand p arguments items
  AdvanceStands settled = Unit {0}
  AdvanceStands (failed f) = Unit {0}

  taken_stands : (n line executed : ℕ) (rest : List Standing) (x : Act) → StepsWithin (length p.steps) x → AllStand p arguments rest
      → AdvanceStands (taken n line executed rest x)
  taken_stands n line executed rest (goes_on i m) within others = (stands i.next within, others)
  taken_stands n line executed rest (arrives i m) within others = (stands i.next within, others)
  taken_stands n line executed rest (ends m) within others = others
  taken_stands n line executed rest (broke rule address) within others = tt

  behind_ended_stands : (next : Advance) → AdvanceStands next → AdvanceStands (behind ended next)
  behind_ended_stands (stepped items m) others = others
  behind_ended_stands settled others = tt
  behind_ended_stands (failed f) others = tt

  behind_waiting_stands : (i : Item) (executed : ℕ) (next : Advance) → StandsAt p arguments i.next → AdvanceStands next
      → AdvanceStands (behind (waiting i executed) next)
  behind_waiting_stands i executed (stepped items m) here others = (here, others)
  behind_waiting_stands i executed settled here others = tt
  behind_waiting_stands i executed (failed f) here others = tt

  advance_stands : (a : Surroundings) (items : List Standing) (n : ℕ) (m : Contents) → AllStand p arguments items → AdvanceStands (advance a p n items m)
  advance_stands a [] n m all = tt
  advance_stands a (ended ∷ rest) n m all = behind_ended_stands (advance a p (n + 1) rest m) (advance_stands a rest (n + 1) m all)
  advance_stands a (waiting i executed ∷ rest) n m all =
      behind_waiting_stands i executed (advance a p (n + 1) rest m) all.0 (advance_stands a rest (n + 1) m all.1)
  advance_stands a (ready i executed ∷ rest) n m all =
      taken_stands n (slice_index p.lines i.next) executed rest (turn (context_of_item a n) p.steps i executed m) (turn_within (context_of_item a n) i executed m) all.1

  released_stand : (items : List Standing) → AllStand p arguments items → AllStand p arguments (map released items)
  released_stand [] all = tt
  released_stand (ready i executed ∷ rest) all = (all.0, released_stand rest all.1)
  released_stand (waiting i executed ∷ rest) all = (all.0, released_stand rest all.1)
  released_stand (ended ∷ rest) all = released_stand rest all

  met_stands : (items : List Standing) (m : Contents) (o : Option Waiter) → AllStand p arguments items → StandRight p arguments (met p items m o)
  met_stands items m None all = tt
  met_stands items m (Some w) all = by_test (list_all (waits_before w.next) items)
    where
      by_test : (b : Bool) → StandRight p arguments (if b then running (map released items) m else faulted (divergence p w))
      by_test true = released_stand items all
      by_test false = tt

  followed_stands : (items : List Standing) (m : Contents) (next : Advance) → AllStand p arguments items → AdvanceStands next
      → StandRight p arguments (followed p items m next)
  followed_stands items m (stepped after now) all more = more
  followed_stands items m settled all more = met_stands items m (least_waiting 0 items) all
  followed_stands items m (failed f) all more = tt

  follow_stands : (a : Surroundings) (s : Status) → StandRight p arguments s → StandRight p arguments (follow a p s)
  follow_stands a (running items m) all = followed_stands items m (advance a p 0 items m) all (advance_stands a items 0 m all)
  follow_stands a (done m) all = tt
  follow_stands a (faulted f) all = tt

  turns_stand : (a : Surroundings) (n : ℕ) (s : Status) → StandRight p arguments s → StandRight p arguments (after_turns a p n s)
  turns_stand a zero s all = all
  turns_stand a (suc n) s all = turns_stand a n (follow a p s) (follow_stands a s all)

  fresh_stand : (count : ℕ) → AllStand p arguments (replicate count (ready fresh 0))
  fresh_stand zero = tt
  fresh_stand (suc count) = (stands 0 (omega arith), fresh_stand count)

-- a group of a checked kernel
pub runs_right : (i : GroupInput) → IsSound i.program → RunsRight i
runs_right i sound =
    let p = i.program in
    let places : List ArgumentPlace = sound.arguments.places in
    let right : (n : ℕ) (s : Step) → slice_get p.steps n ≡ Some s → IsRight p places s = λ n s is. record {
      classes = at_place HasItsClasses p.steps n s sound.classes is;
      stays = at_place (StaysWithin (length p.steps) p.argument_bytes) p.steps n s sound.steps_stay is;
      argument = at_place (LoadsOneOf places) p.steps n s sound.arguments.loaded is;
    } in
    (places, (sound.arguments.laid, λ n. turns_stand p places right (surroundings_of i) n (begun i) (fresh_stand p places right (count_of (surroundings_of i).location.current_size))))
