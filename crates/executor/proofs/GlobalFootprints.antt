-- What a turn touches that leaves memory alone, or that is an access to global memory.
use Rattle.std.proofs.Common.{◌≡◌, ℕ, zero, suc, ◌+◌, ◌-◌, ◌%◌, ◌^◌, ◌<◌, ◌≤◌, Bool, true, false, List, [], ◌∷◌, length, take, drop, Option, Some, None, Ok, refl, sym, ap, ◌∙◌, subst, arith}
use Rattle.std.specs.Prelude.{◌==◌, if◌then◌else◌, IsTrue, is_some, slice_get, unwrap_or}
use Rattle.std.specs.Int.{w64, to_le_bytes}
use Rattle.std.proofs.lemmas.List.{length-take}
use Rattle.byteorder.specs.Endian.{little_number}
use Rattle.aql_packet.specs.Memory.{covers}
use Rattle.kernel_check.specs.Programs.{Program}
use Rattle.kernel_check.specs.Steps.{number_bytes}
use Rattle.kernel_check.specs.declared.step.LoadStep.{LoadStep}
use Rattle.kernel_check.specs.declared.step.Step.{Step}
use Rattle.kernel_check.specs.declared.step.Step.TheVariants as step
use Rattle.kernel_check.specs.declared.step.StoreStep.{StoreStep}
use Rattle.queue_error.specs.declared.error.SegmentAddress.TheVariants as segment
use Rattle.queue_error.specs.declared.rule.Rule.TheVariants.{A5}
use Rattle.policy.specs.declared.rights.Right.TheVariants.{Read, Write}
use Rattle.executor.specs.Accesses.{broken, lent, lent_in, loaded, region_of, unless_broken}
use Rattle.executor.specs.Addresses.{address_of}
use Rattle.executor.specs.Conversions.{converted}
use Rattle.executor.specs.Footprints.{Bytes, Footprint, HasFootprint, LeadsTo, Place, at_address, contents_of, global_places, group_bytes, in_group, with_writes}
use Rattle.executor.specs.Group.{Standing, ready, waiting, ended, context_of_item}
use Rattle.executor.specs.Items.{Contents, LentRegion, Surroundings}
use Rattle.executor.specs.Limits.{budget}
use Rattle.executor.specs.Meaning.{Act, goes_on, arrives, ends, broke, act, after_load, after_store, onward, turn, turn_at}
use Rattle.executor.specs.Registers.{read_any, with_any}
use Rattle.executor.specs.Written.{laid, seen}
use Rattle.executor.specs.declared.item.Item.{Item}
use Rattle.executor.proofs.Maps.{inside}

-- a footprint of reads alone, or of writes alone
abbrev pub reading : (Place → Bool) → Footprint
reading places = record { reads = places; writes = λ x. None }

abbrev pub writing : (Place → Option (Option ℕ)) → Footprint
writing writes = record { reads = λ x. false; writes = writes }

turn_is : (a : Surroundings) (steps : List Step) (i : Item) (executed : ℕ) (c : Contents) (s : Step) → slice_get steps i.next ≡ Some s → (executed == budget) ≡ false
    → turn a steps i executed c ≡ act a i c s
turn_is a steps i executed c s found within =
    ap (turn_at a i executed c) found ∙ ap (λ b. if b then broke A5 None else act a i c s) within

-- bytes that two maps see alike
pub seen_alike : (w v : ℕ → Option ℕ) (address : ℕ) (below : List ℕ) → ((x : ℕ) → address ≤ x → x < address + length below → w x ≡ v x) → seen w address below ≡ seen v address below
seen_alike w v address [] same = refl
seen_alike w v address (b ∷ below) same =
    λ i. unwrap_or (same address (omega arith) (omega arith) i) b
    ∷ seen_alike w v (address + 1) below (λ x from to. same x (omega arith) (omega arith)) i

pub lent_short : (o : Option LentRegion) (address n : ℕ) → length (lent_in o address n) ≤ n
lent_short None address n = omega arith
lent_short (Some region) address n = let short = length-take n (drop (address % 2 ^ 32) region.bytes) in omega (arith, short)

loaded_alike : (view : List LentRegion) (w v : ℕ → Option ℕ) (address n : ℕ) → ((x : ℕ) → IsTrue (covers address n x) → w x ≡ v x) → loaded view w address n ≡ loaded view v address n
loaded_alike view w v address n same =
    ap (λ bytes. unless_broken (broken view Read address n) (little_number n bytes))
    (seen_alike w v address (lent view address n) (λ x from to. same x (inside address n x from (let short = lent_short (region_of view address) address n in omega (arith, short)))))

-- what a store lays over places
abbrev pub over_addresses : ℕ → List ℕ → Place → Option (Option ℕ)
over_addresses address bytes (in_group g) = None
over_addresses address bytes (at_address x) = if covers address (length bytes) x then Some (slice_get bytes (x - address)) else None

pub some_at : {V : Type 0} (b : Bool) (v : V) → IsTrue (is_some (if b then Some v else None)) → IsTrue b
some_at true v is = refl
some_at false v is = absurd cc

pub laid_at : {V : Type 0} (b : Bool) (v d : V) → unwrap_or (if b then Some v else None) d ≡ (if b then v else d)
laid_at true v d = refl
laid_at false v d = refl

pub over_touched : (address : ℕ) (bytes : List ℕ) (x : Place) → IsTrue (is_some (over_addresses address bytes x)) → IsTrue (global_places address (length bytes) x)
over_touched address bytes (in_group g) is = absurd (let e : false ≡ true = is in cc)
over_touched address bytes (at_address x) is = some_at (covers address (length bytes) x) (slice_get bytes (x - address)) is

group_over : (k from address : ℕ) (bytes : List ℕ) (m : Bytes) → group_bytes k from (with_writes (over_addresses address bytes) m) ≡ group_bytes k from m
group_over zero from address bytes m = refl
group_over (suc k) from address bytes m = ap (λ t. unwrap_or (m (in_group from)) 0 ∷ t) (group_over k (from + 1) address bytes m)

pub contents_over : (size address : ℕ) (bytes : List ℕ) (m : Bytes)
    → record (contents_of size m) { written = laid (λ x. m (at_address x)) address bytes } ≡ contents_of size (with_writes (over_addresses address bytes) m)
contents_over size address bytes m =
    λ i. record {
      group = sym (group_over size 0 address bytes m) i;
      written = λ x. sym (laid_at (covers address (length bytes) x) (slice_get bytes (x - address)) (m (at_address x))) i;
    }

module _ (a : Surroundings) (p : Program) (size n : ℕ) (i : Item) (executed : ℕ) (within : (executed == budget) ≡ false) where
  abbrev own : Surroundings
  own = context_of_item a n

  pub went : (s : Step) (next : Standing) (c after : Contents) (x : Act) → slice_get p.steps i.next ≡ Some s → act own i c s ≡ x → LeadsTo executed x next after
      → LeadsTo executed (turn own p.steps i executed c) next after
  went s next c after x found is did = subst (λ t. LeadsTo executed t next after) (sym (turn_is own p.steps i executed c s found within ∙ is)) did

  -- steps that leave memory alone
  pub plain_footprint : (m : Bytes) (s : Step) (now : Item) → slice_get p.steps i.next ≡ Some s → ((c : Contents) → act own i c s ≡ goes_on now c)
      → HasFootprint a p size n (ready i executed) (ready now (executed + 1)) m (reading (λ x. false))
  plain_footprint m s now found is =
      λ seen same. went s (ready now (executed + 1)) (contents_of size seen) (contents_of size seen) (goes_on now (contents_of size seen)) found (is (contents_of size seen)) (refl, refl)

  pub barrier_footprint : (m : Bytes) → slice_get p.steps i.next ≡ Some step.Barrier
      → HasFootprint a p size n (ready i executed) (waiting (onward i i.registers) (executed + 1)) m (reading (λ x. false))
  barrier_footprint m found =
      λ seen same. went step.Barrier (waiting (onward i i.registers) (executed + 1)) (contents_of size seen) (contents_of size seen) (arrives (onward i i.registers) (contents_of size seen)) found refl (refl, refl)

  pub return_footprint : (m : Bytes) → slice_get p.steps i.next ≡ Some step.Return → HasFootprint a p size n (ready i executed) ended m (reading (λ x. false))
  return_footprint m found =
      λ seen same. went step.Return ended (contents_of size seen) (contents_of size seen) (ends (contents_of size seen)) found refl (refl, refl)

  -- a load of global memory reads the bytes of its access
  pub load_footprint : (l : LoadStep) (m : Bytes) (value : ℕ) → slice_get p.steps i.next ≡ Some (step.Load l)
      → loaded a.view (λ x. m (at_address x)) (address_of i.registers l.pointer) (number_bytes l.kind) ≡ Ok value
      → HasFootprint a p size n (ready i executed) (ready (onward i (with_any i.registers l.target (converted l.kind l.kind value))) (executed + 1)) m (reading (global_places (address_of i.registers l.pointer) (number_bytes l.kind)))
  load_footprint l m value found is =
      λ seen same.
      went (step.Load l) (ready now (executed + 1)) (contents_of size seen) (contents_of size seen) (goes_on now (contents_of size seen)) found
      (ap (after_load i (contents_of size seen) l.target l.kind (segment.Global address))
      (loaded_alike a.view (λ x. seen (at_address x)) (λ x. m (at_address x)) address (number_bytes l.kind) (λ x covered. same (at_address x) covered) ∙ is))
      (refl, refl)
    where
      address : ℕ
      address = address_of i.registers l.pointer

      now : Item
      now = onward i (with_any i.registers l.target (converted l.kind l.kind value))

  -- a store to global memory writes the bytes of its access
  pub store_footprint : (s : StoreStep) (m : Bytes) → slice_get p.steps i.next ≡ Some (step.Store s)
      → broken a.view Write (address_of i.registers s.pointer) (number_bytes s.kind) ≡ None
      → HasFootprint a p size n (ready i executed) (ready (onward i i.registers) (executed + 1)) m
      (writing (over_addresses (address_of i.registers s.pointer) (take (number_bytes s.kind) (to_le_bytes w64 (read_any i.registers s.source)))))
  store_footprint s m found fine =
      λ seen same.
      went (step.Store s) (ready (onward i i.registers) (executed + 1)) (contents_of size seen) (contents_of size (with_writes (over_addresses address bytes) seen))
      (goes_on (onward i i.registers) (record (contents_of size seen) { written = laid (λ x. seen (at_address x)) address bytes })) found
      (ap (λ o. after_store i (contents_of size seen) (segment.Global address) (unless_broken o (laid (λ x. seen (at_address x)) address bytes))) fine)
      (refl, contents_over size address bytes seen)
    where
      address : ℕ
      address = address_of i.registers s.pointer

      bytes : List ℕ
      bytes = take (number_bytes s.kind) (to_le_bytes w64 (read_any i.registers s.source))

-- an item behind the last step ends
pub end_footprint : (a : Surroundings) (p : Program) (size n : ℕ) (i : Item) (executed : ℕ) (m : Bytes) → slice_get p.steps i.next ≡ None
    → HasFootprint a p size n (ready i executed) ended m (reading (λ x. false))
end_footprint a p size n i executed m found =
    λ seen same. subst (λ t. LeadsTo executed t ended (contents_of size seen)) (sym (ap (turn_at (context_of_item a n) i executed (contents_of size seen)) found)) (refl, refl)
