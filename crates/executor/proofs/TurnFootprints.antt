-- Each turn that breaks no rule touches what its step names.
use Rattle.std.proofs.Common.{◌≡◌, ℕ, ◌+◌, ◌≤◌, Bool, true, false, List, length, take, Option, Some, None, Result, Ok, Err, refl, sym, ap, ◌∙◌, subst, arith}
use Rattle.std.specs.Prelude.{◌==◌, if◌then◌else◌, IsTrue, nat_le, slice_get}
use Rattle.std.specs.Int.{w32, w64, to_le_bytes}
use Rattle.std.proofs.lemmas.Bool.Decides.{nat_tests}
use Rattle.std.proofs.lemmas.List.{length-take}
use Rattle.aql_packet.specs.Memory.{covers}
use Rattle.byteorder.specs.Endian.{little_number}
use Rattle.kernel_check.specs.Programs.{Program}
use Rattle.kernel_check.specs.Steps.{number_bytes}
use Rattle.kernel_check.specs.declared.step.AtomicStep.{AtomicStep}
use Rattle.kernel_check.specs.declared.step.GroupLoadStep.{GroupLoadStep}
use Rattle.kernel_check.specs.declared.step.GroupStoreStep.{GroupStoreStep}
use Rattle.kernel_check.specs.declared.step.LoadStep.{LoadStep}
use Rattle.kernel_check.specs.declared.step.Source.{Source}
use Rattle.kernel_check.specs.declared.step.Step.{Step}
use Rattle.kernel_check.specs.declared.step.Step.TheVariants as step
use Rattle.kernel_check.specs.declared.step.StoreStep.{StoreStep}
use Rattle.policy.specs.declared.rights.Right.TheVariants.{Write}
use Rattle.queue_error.specs.declared.error.SegmentAddress.TheVariants as segment
use Rattle.queue_error.specs.declared.rule.Rule.{Rule}
use Rattle.queue_error.specs.declared.rule.Rule.TheVariants.{A5, A7}
use Rattle.executor.specs.Accesses.{broken, group_broken, group_loaded, loaded, overlaid, unless_broken}
use Rattle.executor.specs.Addresses.{address_of, group_address_of}
use Rattle.executor.specs.Atomics.{bytes_found, place_of, replacing32, replacing64}
use Rattle.executor.specs.Footprints.{Bytes, HasFootprint, IsTurn, LeadsTo, Place, TouchesAsNamed, TouchesOnly, at_address, contents_of, global_places, group_bytes, group_places, in_group, places_read, places_written}
use Rattle.executor.specs.Group.{Standing, ready, context_of_item}
use Rattle.executor.specs.Items.{Contents, Surroundings}
use Rattle.executor.specs.Limits.{budget}
use Rattle.executor.specs.Meaning.{goes_on, broke, act, after_atomic32, after_atomic64, after_group_store, after_load, after_store, onward, turn_at}
use Rattle.executor.specs.Registers.{read_any}
use Rattle.executor.specs.Written.{laid}
use Rattle.executor.specs.declared.item.Item.{Item}
use Rattle.executor.proofs.AtomicFootprints.{atomic32_footprint, atomic64_footprint, over_if, over_if_accessed}
use Rattle.executor.proofs.GlobalFootprints.{barrier_footprint, end_footprint, load_footprint, over_addresses, over_touched, plain_footprint, reading, return_footprint, store_footprint}
use Rattle.executor.proofs.GroupFootprints.{group_length, load_group_footprint, over_places, places_touched, store_group_footprint, within}

-- more bytes from the same one on
wider : (first k n x : ℕ) → k ≤ n → IsTrue (covers first k x) → IsTrue (covers first n x)
wider first k n x le is = grind (arith, nat_tests)

wider_global : (address k n : ℕ) (x : Place) → k ≤ n → IsTrue (global_places address k x) → IsTrue (global_places address n x)
wider_global address k n (in_group x) le is = is
wider_global address k n (at_address x) le is = wider address k n x le is

wider_group : (address k n : ℕ) (x : Place) → k ≤ n → IsTrue (group_places address k x) → IsTrue (group_places address n x)
wider_group address k n (in_group x) le is = wider address k n x le is
wider_group address k n (at_address x) le is = is

few_taken : (n : ℕ) (bytes : List ℕ) → length (take n bytes) ≤ n
few_taken n bytes = let short = length-take n bytes in omega (arith, short)

module _ (a : Surroundings) (p : Program) (size n : ℕ) (i : Item) (executed : ℕ) (m : Bytes) (next : Standing) (after : Contents) where
  abbrev own : Surroundings
  own = context_of_item a n

  abbrev now : Contents
  now = contents_of size m

  abbrev Touched : Option Step → Type 0
  Touched o = TouchesOnly a p size n (ready i executed) next m (places_read i o) (places_written i o)

  -- a turn that writes nothing
  silent : (reads written : Place → Bool) (to : Standing) → next ≡ to → HasFootprint a p size n (ready i executed) to m (reading reads)
      → TouchesOnly a p size n (ready i executed) next m reads written
  silent reads written to is has = (
    λ x. None,
    λ x none. absurd (let e : false ≡ true = none in cc),
    subst (λ t. HasFootprint a p size n (ready i executed) t m (reading reads)) (sym is) has,
  )

  module _ (within_budget : (executed == budget) ≡ false) where
    plain : (s : Step) (written : Place → Bool) (then_item : Item) → slice_get p.steps i.next ≡ Some s → ((c : Contents) → act own i c s ≡ goes_on then_item c)
        → next ≡ ready then_item (executed + 1) → TouchesOnly a p size n (ready i executed) next m (λ x. false) written
    plain s written then_item found is led =
        silent (λ x. false) written (ready then_item (executed + 1)) led (plain_footprint a p size n i executed within_budget m s then_item found is)

    load : (l : LoadStep) → slice_get p.steps i.next ≡ Some (step.Load l)
        → (r : Result ℕ Rule) → loaded a.view (λ x. m (at_address x)) (address_of i.registers l.pointer) (number_bytes l.kind) ≡ r
        → LeadsTo executed (after_load i now l.target l.kind (segment.Global (address_of i.registers l.pointer)) r) next after
        → Touched (Some (step.Load l))
    load l found (Ok value) is led =
        silent (places_read i (Some (step.Load l))) (λ x. false) (ready (onward i _) (executed + 1)) led.0 (load_footprint a p size n i executed within_budget l m value found is)
    load l found (Err rule) is led = absurd led

    load_group : (l : GroupLoadStep) → slice_get p.steps i.next ≡ Some (step.LoadGroup l)
        → (r : Result ℕ Rule) → group_loaded (group_bytes size 0 m) (group_address_of i.registers l.pointer) (number_bytes l.kind) ≡ r
        → LeadsTo executed (after_load i now l.target l.kind (segment.Group (group_address_of i.registers l.pointer)) r) next after
        → Touched (Some (step.LoadGroup l))
    load_group l found (Ok value) is led =
        silent (places_read i (Some (step.LoadGroup l))) (λ x. false) (ready (onward i _) (executed + 1)) led.0 (load_group_footprint a p size n i executed within_budget l m value found is)
    load_group l found (Err rule) is led = absurd led

    store : (s : StoreStep) → slice_get p.steps i.next ≡ Some (step.Store s)
        → (o : Option Rule) → broken a.view Write (address_of i.registers s.pointer) (number_bytes s.kind) ≡ o
        → LeadsTo executed (after_store i now (segment.Global (address_of i.registers s.pointer))
        (unless_broken o (laid (λ x. m (at_address x)) (address_of i.registers s.pointer) (take (number_bytes s.kind) (to_le_bytes w64 (read_any i.registers s.source)))))) next after
        → Touched (Some (step.Store s))
    store s found None fine led =
        let address = address_of i.registers s.pointer in
        let bytes = take (number_bytes s.kind) (to_le_bytes w64 (read_any i.registers s.source)) in (
          over_addresses address bytes,
          λ x some. wider_global address (length bytes) (number_bytes s.kind) x (few_taken (number_bytes s.kind) (to_le_bytes w64 (read_any i.registers s.source))) (over_touched address bytes x some),
          subst (λ t. HasFootprint a p size n (ready i executed) t m (record { reads = λ x. false; writes = over_addresses address bytes })) (sym led.0)
              (store_footprint a p size n i executed within_budget s m found fine),
        )
    store s found (Some rule) fine led = absurd led

    store_group : (s : GroupStoreStep) → slice_get p.steps i.next ≡ Some (step.StoreGroup s)
        → (o : Option Rule) → group_broken (group_bytes size 0 m) (group_address_of i.registers s.pointer) (number_bytes s.kind) ≡ o
        → LeadsTo executed (after_group_store i now (segment.Group (group_address_of i.registers s.pointer))
        (unless_broken o (overlaid (group_bytes size 0 m) (group_address_of i.registers s.pointer) (take (number_bytes s.kind) (to_le_bytes w64 (read_any i.registers s.source)))))) next after
        → Touched (Some (step.StoreGroup s))
    store_group s found None fine led =
        let address = group_address_of i.registers s.pointer in
        let bytes = take (number_bytes s.kind) (to_le_bytes w64 (read_any i.registers s.source)) in
        let long = group_length size 0 m in
        let fits : address + number_bytes s.kind ≤ size =
        within size address (number_bytes s.kind) (ap (λ k. if nat_le (address + number_bytes s.kind) k then None else Some A7) (sym long) ∙ fine) in (
          over_places address bytes,
          λ x some. wider_group address (length bytes) (number_bytes s.kind) x (few_taken (number_bytes s.kind) (to_le_bytes w64 (read_any i.registers s.source))) (places_touched address bytes x some),
          subst (λ t. HasFootprint a p size n (ready i executed) t m (record { reads = λ x. false; writes = over_places address bytes })) (sym led.0)
              (store_group_footprint a p size n i executed within_budget s m found fits),
        )
    store_group s found (Some rule) fine led = absurd led

    atomic32 : (s : AtomicStep (Source ℕ)) → slice_get p.steps i.next ≡ Some (step.Atomic32 s)
        → (r : Result (List ℕ) Rule) → bytes_found a.view now (place_of i.registers s.pointer) 4 ≡ r
        → LeadsTo executed (after_atomic32 i now s r) next after → Touched (Some (step.Atomic32 s))
    atomic32 s found (Ok bytes) is led =
        let left = replacing32 i.registers s.operation (little_number 4 bytes) in (
          over_if (place_of i.registers s.pointer) (to_le_bytes w32) left,
          λ x some. over_if_accessed (place_of i.registers s.pointer) 4 (to_le_bytes w32) (λ value. refl) left x some,
          subst (λ t. HasFootprint a p size n (ready i executed) t m (record { reads = places_read i (Some (step.Atomic32 s)); writes = over_if (place_of i.registers s.pointer) (to_le_bytes w32) left })) (sym led.0)
              (atomic32_footprint a p size n i executed within_budget s m bytes found is),
        )
    atomic32 s found (Err rule) is led = absurd led

    atomic64 : (s : AtomicStep (Source ℕ)) → slice_get p.steps i.next ≡ Some (step.Atomic64 s)
        → (r : Result (List ℕ) Rule) → bytes_found a.view now (place_of i.registers s.pointer) 8 ≡ r
        → LeadsTo executed (after_atomic64 i now s r) next after → Touched (Some (step.Atomic64 s))
    atomic64 s found (Ok bytes) is led =
        let left = replacing64 i.registers s.operation (little_number 8 bytes) in (
          over_if (place_of i.registers s.pointer) (to_le_bytes w64) left,
          λ x some. over_if_accessed (place_of i.registers s.pointer) 8 (to_le_bytes w64) (λ value. refl) left x some,
          subst (λ t. HasFootprint a p size n (ready i executed) t m (record { reads = places_read i (Some (step.Atomic64 s)); writes = over_if (place_of i.registers s.pointer) (to_le_bytes w64) left })) (sym led.0)
              (atomic64_footprint a p size n i executed within_budget s m bytes found is),
        )
    atomic64 s found (Err rule) is led = absurd led

    by_step : (s : Step) → slice_get p.steps i.next ≡ Some s → LeadsTo executed (act own i now s) next after → Touched (Some s)
    by_step (step.Control s) found led = plain (step.Control s) (λ x. false) _ found (λ c. refl) led.0
    by_step (step.Single s) found led = plain (step.Single s) (λ x. false) _ found (λ c. refl) led.0
    by_step (step.Double s) found led = plain (step.Double s) (λ x. false) _ found (λ c. refl) led.0
    by_step (step.Convert c) found led = plain (step.Convert c) (λ x. false) _ found (λ c. refl) led.0
    by_step (step.Argument l) found led = plain (step.Argument l) (λ x. false) _ found (λ c. refl) led.0
    by_step (step.Load l) found led = load l found _ refl led
    by_step (step.Store s) found led = store s found _ refl led
    by_step (step.LoadGroup l) found led = load_group l found _ refl led
    by_step (step.StoreGroup s) found led = store_group s found _ refl led
    by_step (step.Atomic32 s) found led = atomic32 s found _ refl led
    by_step (step.Atomic64 s) found led = atomic64 s found _ refl led
    by_step (step.Branch to) found led = plain (step.Branch to) (λ x. false) _ found (λ c. refl) led.0
    by_step (step.ConditionalBranch b) found led = plain (step.ConditionalBranch b) (λ x. false) _ found (λ c. refl) led.0
    by_step step.Return found led = silent (λ x. false) (λ x. false) _ led.0 (return_footprint a p size n i executed within_budget m found)
    by_step step.Barrier found led = silent (λ x. false) (λ x. false) _ led.0 (barrier_footprint a p size n i executed within_budget m found)
    by_step (step.WorkItemQuery q) found led = plain (step.WorkItemQuery q) (λ x. false) _ found (λ c. refl) led.0

  by_budget : (s : Step) → slice_get p.steps i.next ≡ Some s → (b : Bool) → (executed == budget) ≡ b
      → LeadsTo executed (if b then broke A5 None else act own i now s) next after → Touched (Some s)
  by_budget s found true is led = absurd led
  by_budget s found false is led = by_step is s found led

  by_next : (o : Option Step) → slice_get p.steps i.next ≡ o → LeadsTo executed (turn_at own i executed now o) next after → Touched o
  by_next None found led = silent (λ x. false) (λ x. false) _ led.0 (end_footprint a p size n i executed m found)
  by_next (Some s) found led = by_budget s found (executed == budget) refl led

  pub touches_as_named : IsTurn a p size n (ready i executed) m next after → TouchesAsNamed a p size n i executed next m
  touches_as_named led = by_next (slice_get p.steps i.next) refl led
