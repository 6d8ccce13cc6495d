-- A group sees no bytes of a region on which READ is not held.
use Rattle.std.proofs.Common.{◌≡◌, ℕ, zero, suc, ◌+◌, ◌/◌, ◌%◌, ◌^◌, List, [], ◌∷◌, slice_index, refl, sym, ap, ◌∙◌, Bool, true, false, Option, Some, None, Result}
use Rattle.std.specs.Prelude.{◌==◌, ◌&&◌, nat_lt, nat_le, not, slice_get, if◌then◌else◌}
use Rattle.byteorder.specs.Endian.{little_number}
use Rattle.policy.specs.Rights.{has}
use Rattle.policy.specs.declared.rights.Right.TheVariants.{Read, Write}
use Rattle.queue_error.specs.declared.rule.Rule.{Rule}
use Rattle.queue_error.specs.declared.rule.Rule.TheVariants.{A2, A3, A5}
use Rattle.kernel_check.specs.Programs.{Program}
use Rattle.kernel_check.specs.Steps.{number_bytes}
use Rattle.kernel_check.specs.declared.step.Step.{Step}
use Rattle.kernel_check.specs.declared.step.Step.TheVariants as step
use Rattle.executor.specs.Accesses.{covers_address, region_of, atomic_broken_in, broken_in, lent_in, unless_broken}
use Rattle.executor.specs.Addresses.{address_of}
use Rattle.executor.specs.Atomics.{bytes_found, place_of}
use Rattle.executor.specs.Group.{Standing, ready, waiting, ended, context_of_item, taken, behind, advance, Status, running, done, faulted, followed, follow}
use Rattle.executor.specs.Items.{Contents, LentRegion, Surroundings}
use Rattle.executor.specs.Laws.{AreLentAlike, IsLentAlike}
use Rattle.executor.specs.Meaning.{broke, act, after_load, after_store, after_atomic32, after_atomic64, turn_at}
use Rattle.executor.specs.Results.{after_turns, most_turns, result_at, group_result}
use Rattle.executor.specs.Runs.{GroupInput, begun, surroundings_of}
use Rattle.executor.specs.Written.{seen}
use Rattle.queue_error.specs.declared.error.SegmentAddress.{SegmentAddress}
use Rattle.queue_error.specs.declared.error.SegmentAddress.TheVariants as segment
use Rattle.executor.specs.declared.item.Item.{Item}

-- regions that are found alike, or none of both
abbrev FoundAlike : Option LentRegion → Option LentRegion → Type 0
FoundAlike None None = Unit {0}
FoundAlike (Some one) (Some other) = IsLentAlike one other
FoundAlike _ _ = ⊥

found_alike : (ones others : List LentRegion) (address : ℕ) → AreLentAlike ones others → FoundAlike (region_of ones address) (region_of others address)
found_alike [] [] address alike = tt
found_alike [] (o ∷ os) address alike = absurd alike
found_alike (x ∷ xs) [] address alike = absurd alike
found_alike (x ∷ xs) (y ∷ ys) address alike =
    by_test (covers_address x address) (covers_address y address)
    (λ i. alike.0.number_is i == address / 2 ^ 32 && nat_lt (address % 2 ^ 32) (alike.0.length_is i)) (found_alike xs ys address alike.1)
  where
    by_test : (b c : Bool) → b ≡ c → FoundAlike (region_of xs address) (region_of ys address) → FoundAlike (if b then Some x else region_of xs address) (if c then Some y else region_of ys address)
    by_test true true same rest = alike.0
    by_test false false same rest = rest
    by_test true false same rest = absurd cc
    by_test false true same rest = absurd cc

module _ (written : ℕ → Option ℕ) (address n : ℕ) where
  abbrev load_in : Option LentRegion → Result ℕ Rule
  load_in o = unless_broken (broken_in o Read address n) (little_number n (seen written address (lent_in o address n)))

  load_alike : (o p : Option LentRegion) → FoundAlike o p → load_in o ≡ load_in p
  load_alike None None alike = refl
  load_alike None (Some y) alike = absurd alike
  load_alike (Some x) None alike = absurd alike
  load_alike (Some x) (Some y) alike = by_right (has x.rights Read) refl
    where
      by_right : (b : Bool) → has x.rights Read ≡ b → load_in (Some x) ≡ load_in (Some y)
      by_right true readable = λ i. load_in (Some (record { number = alike.number_is i; rights = alike.rights_are i; bytes = alike.bytes_are readable i }))
      by_right false unreadable =
          let other : has y.rights Read ≡ false = ap (λ r. has r Read) (sym alike.rights_are) ∙ unreadable in
          rw (unreadable, other) refl

  module _ (value : ℕ → Option ℕ) where
    abbrev store_in : Option LentRegion → Result (ℕ → Option ℕ) Rule
    store_in o = unless_broken (broken_in o Write address n) value

    store_alike : (o p : Option LentRegion) → FoundAlike o p → store_in o ≡ store_in p
    store_alike None None alike = refl
    store_alike None (Some y) alike = absurd alike
    store_alike (Some x) None alike = absurd alike
    store_alike (Some x) (Some y) alike =
        λ i. unless_broken (if not (has (alike.rights_are i) Write) then Some A2 else if not (nat_le (address % 2 ^ 32 + n) (alike.length_is i)) then Some A3 else None) value

  -- the bytes that an atomic operation finds: it wants READ too
  abbrev find_in : Option LentRegion → Result (List ℕ) Rule
  find_in o = unless_broken (atomic_broken_in o address n) (seen written address (lent_in o address n))

  bytes_alike : (o p : Option LentRegion) → FoundAlike o p → find_in o ≡ find_in p
  bytes_alike None None alike = refl
  bytes_alike None (Some y) alike = absurd alike
  bytes_alike (Some x) None alike = absurd alike
  bytes_alike (Some x) (Some y) alike = by_right (has x.rights Read) refl
    where
      by_right : (b : Bool) → has x.rights Read ≡ b → find_in (Some x) ≡ find_in (Some y)
      by_right true readable = λ i. find_in (Some (record { number = alike.number_is i; rights = alike.rights_are i; bytes = alike.bytes_are readable i }))
      by_right false unreadable =
          let other : has y.rights Read ≡ false = ap (λ r. has r Read) (sym alike.rights_are) ∙ unreadable in
          rw (unreadable, other) refl

place_alike : (ones others : List LentRegion) (m : Contents) (x : SegmentAddress) (n : ℕ) → AreLentAlike ones others → bytes_found ones m x n ≡ bytes_found others m x n
place_alike ones others m (segment.Global x) n alike = bytes_alike m.written x n (region_of ones x) (region_of others x) (found_alike ones others x alike)
place_alike ones others m (segment.Group x) n alike = refl

module _ (ones others : List LentRegion) (alike : AreLentAlike ones others) (p : Program) where
  abbrev seeing : List LentRegion → Surroundings → Surroundings
  seeing view a = record a { view = view }

  same_act : (a : Surroundings) (i : Item) (m : Contents) (s : Step) → act (seeing ones a) i m s ≡ act (seeing others a) i m s
  same_act a i m (step.Control s) = refl
  same_act a i m (step.Single s) = refl
  same_act a i m (step.Double s) = refl
  same_act a i m (step.Convert c) = refl
  same_act a i m (step.Argument l) = refl
  same_act a i m (step.Load l) =
      let address = address_of i.registers l.pointer in
      ap (after_load i m l.target l.kind (segment.Global address)) (load_alike m.written address (number_bytes l.kind) (region_of ones address) (region_of others address) (found_alike ones others address alike))
  same_act a i m (step.Store s) =
      let address = address_of i.registers s.pointer in
      ap (after_store i m (segment.Global address)) (store_alike m.written address (number_bytes s.kind) _ (region_of ones address) (region_of others address) (found_alike ones others address alike))
  same_act a i m (step.LoadGroup l) = refl
  same_act a i m (step.StoreGroup s) = refl
  same_act a i m (step.Atomic32 s) = ap (after_atomic32 i m s) (place_alike ones others m (place_of i.registers s.pointer) 4 alike)
  same_act a i m (step.Atomic64 s) = ap (after_atomic64 i m s) (place_alike ones others m (place_of i.registers s.pointer) 8 alike)
  same_act a i m step.Barrier = refl
  same_act a i m (step.Branch next) = refl
  same_act a i m (step.ConditionalBranch b) = refl
  same_act a i m step.Return = refl
  same_act a i m (step.WorkItemQuery q) = refl

  same_turn : (a : Surroundings) (i : Item) (executed : ℕ) (m : Contents) (o : Option Step) → turn_at (seeing ones a) i executed m o ≡ turn_at (seeing others a) i executed m o
  same_turn a i executed m None = refl
  same_turn a i executed m (Some s) = ap (λ x. if executed == 65536 then broke A5 None else x) (same_act a i m s)

  same_advance : (a : Surroundings) (items : List Standing) (n : ℕ) (m : Contents) → advance (seeing ones a) p n items m ≡ advance (seeing others a) p n items m
  same_advance a [] n m = refl
  same_advance a (ended ∷ rest) n m = ap (behind ended) (same_advance a rest (n + 1) m)
  same_advance a (waiting i executed ∷ rest) n m = ap (behind (waiting i executed)) (same_advance a rest (n + 1) m)
  same_advance a (ready i executed ∷ rest) n m =
      ap (taken n (slice_index p.lines i.next) executed rest) (same_turn (context_of_item a n) i executed m (slice_get p.steps i.next))

  same_follow : (a : Surroundings) (s : Status) → follow (seeing ones a) p s ≡ follow (seeing others a) p s
  same_follow a (running items m) = ap (followed p items m) (same_advance a items 0 m)
  same_follow a (done m) = refl
  same_follow a (faulted f) = refl

  same_turns : (a : Surroundings) (n : ℕ) (s : Status) → after_turns (seeing ones a) p n s ≡ after_turns (seeing others a) p n s
  same_turns a zero s = refl
  same_turns a (suc n) s = same_turns a n (follow (seeing ones a) p s) ∙ ap (after_turns (seeing others a) p n) (same_follow a s)

pub same_result : (i : GroupInput) (others : List LentRegion) → AreLentAlike i.view others → group_result i ≡ group_result (record i { view = others })
unfolding group_result
same_result i others alike = ap result_at (same_turns i.view others alike i.program (surroundings_of i) most_turns (begun i))
