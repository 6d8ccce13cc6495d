-- What a turn touches that is an access to group memory.
use Rattle.std.proofs.Common.{◌≡◌, ℕ, zero, suc, ◌+◌, ◌-◌, ◌*◌, ◌<◌, ◌≤◌, Bool, true, false, List, ◌++◌, length, take, drop, get_or, slice_index, Option, Some, None, Ok, refl, sym, ap, ◌∙◌, arith, length-append, length-drop}
use Rattle.std.specs.Prelude.{if◌then◌else◌, ◌==◌, IsTrue, is_some, nat_le, slice_get, unwrap_or}
use Rattle.std.specs.Int.{w64, to_le_bytes}
use Rattle.std.proofs.lemmas.List.{ext_get_or, get_or-drop, get_or-take, get_or_append_left, length-take}
use Rattle.std.proofs.Math.Seq.{get_or-append_right}
use Rattle.std.proofs.lemmas.Bool.{le-leb, leb-true}
use Rattle.std.proofs.lemmas.Option.{unwrap_or-slice_get}
use Rattle.byteorder.specs.Endian.{little_from, little_number}
use Rattle.aql_packet.specs.Memory.{covers}
use Rattle.kernel_check.specs.Programs.{Program}
use Rattle.kernel_check.specs.Steps.{number_bytes}
use Rattle.kernel_check.specs.declared.step.GroupLoadStep.{GroupLoadStep}
use Rattle.kernel_check.specs.declared.step.GroupStoreStep.{GroupStoreStep}
use Rattle.kernel_check.specs.declared.step.Step.TheVariants as step
use Rattle.queue_error.specs.declared.rule.Rule.{Rule}
use Rattle.queue_error.specs.declared.rule.Rule.TheVariants.{A7}
use Rattle.queue_error.specs.declared.error.SegmentAddress.TheVariants as segment
use Rattle.executor.specs.Accesses.{group_broken, group_loaded, overlaid, unless_broken}
use Rattle.executor.specs.Addresses.{group_address_of}
use Rattle.executor.specs.Conversions.{converted}
use Rattle.executor.specs.Group.{ready}
use Rattle.executor.specs.Items.{Surroundings}
use Rattle.executor.specs.Footprints.{Bytes, HasFootprint, Place, at_address, contents_of, group_bytes, group_places, in_group, with_writes}
use Rattle.executor.specs.Meaning.{goes_on, after_group_store, after_load, onward}
use Rattle.executor.specs.Registers.{read_any, with_any}
use Rattle.executor.specs.declared.item.Item.{Item}
use Rattle.executor.proofs.GlobalFootprints.{reading, some_at, went, writing}
use Rattle.executor.specs.Limits.{budget}
use Rattle.executor.proofs.Maps.{below, by_range, inside, past}

-- ---- group memory as a list

pub group_length : (k from : ℕ) (m : Bytes) → length (group_bytes k from m) ≡ k
group_length zero from m = refl
group_length (suc k) from m = let rest = group_length k (from + 1) m in omega (arith, rest)

-- its byte at a place
group_at : (k from x : ℕ) (m : Bytes) → x < k → slice_index (group_bytes k from m) x ≡ unwrap_or (m (in_group (from + x))) 0
group_at zero from x m lt = absurd (omega arith)
group_at (suc k) from zero m lt = let e : from ≡ from + 0 = omega arith in ap (λ y. unwrap_or (m (in_group y)) 0) e
group_at (suc k) from (suc x) m lt =
    let e : from + 1 + x ≡ from + suc x = omega arith in
    group_at k (from + 1) x m (omega arith) ∙ ap (λ y. unwrap_or (m (in_group y)) 0) e

little_alike : (i n : ℕ) (xs ys : List ℕ) → ((k : ℕ) → i ≤ k → k < i + n → slice_index xs k ≡ slice_index ys k) → little_from i n xs ≡ little_from i n ys
little_alike i zero xs ys same = refl
little_alike i (suc n) xs ys same =
    λ j. same i (omega arith) (omega arith) j + 256 * little_alike (suc i) n xs ys (λ k from to. same k (omega arith) (omega arith)) j

pub within : (size address n : ℕ) → (if nat_le (address + n) size then None else Some A7) ≡ None → address + n ≤ size
within size address n fine = by_test (nat_le (address + n) size) refl fine
  where
    by_test : (b : Bool) → nat_le (address + n) size ≡ b → (if b then None else Some A7) ≡ None → address + n ≤ size
    by_test true is none = leb-true (address + n) size is
    by_test false is none = absurd cc

module _ (size address n : ℕ) (v w : Bytes) (same : (x : Place) → IsTrue (group_places address n x) → v x ≡ w x) (fits : address + n ≤ size) where
  pub byte_alike : (k : ℕ) → k < n → slice_index (drop address (group_bytes size 0 v)) k ≡ slice_index (drop address (group_bytes size 0 w)) k
  byte_alike k lt =
      let low : address + k < size = omega arith in
      let e : 0 + (address + k) ≡ address + k = omega arith in
      get_or-drop address (group_bytes size 0 v) k 0 ∙ (group_at size 0 (address + k) v low
      ∙ (ap (λ o. unwrap_or o 0) (ap (λ y. v (in_group y)) e ∙ (same (in_group (address + k)) (inside address n (address + k) (omega arith) (omega arith)) ∙ ap (λ y. w (in_group y)) (sym e)))
      ∙ (sym (group_at size 0 (address + k) w low) ∙ sym (get_or-drop address (group_bytes size 0 w) k 0))))

  numbers_alike : little_number n (drop address (group_bytes size 0 v)) ≡ little_number n (drop address (group_bytes size 0 w))
  numbers_alike = little_alike 0 n (drop address (group_bytes size 0 v)) (drop address (group_bytes size 0 w)) (λ k from to. byte_alike k (omega arith))

loaded_is : (size address n value : ℕ) (m : Bytes) → group_loaded (group_bytes size 0 m) address n ≡ Ok value
    → (address + n ≤ size) × (little_number n (drop address (group_bytes size 0 m)) ≡ value)
loaded_is size address n value m is = by_rule (group_broken (group_bytes size 0 m) address n) refl is
  where
    by_rule : (o : Option Rule) → group_broken (group_bytes size 0 m) address n ≡ o → unless_broken o (little_number n (drop address (group_bytes size 0 m))) ≡ Ok value
        → (address + n ≤ size) × (little_number n (drop address (group_bytes size 0 m)) ≡ value)
    by_rule None fine same = (within size address n (ap (λ k. if nat_le (address + n) k then None else Some A7) (sym (group_length size 0 m)) ∙ fine), cc)
    by_rule (Some rule) broken same = absurd cc

group_fine : (size address n : ℕ) (m : Bytes) → address + n ≤ size → group_broken (group_bytes size 0 m) address n ≡ None
group_fine size address n m fits =
    let long = group_length size 0 m in
    ap (λ b. if b then None else Some A7) (le-leb (address + n) (length (group_bytes size 0 m)) (omega (arith, long)))

group_loaded_alike : (size address n value : ℕ) (v w : Bytes) → ((x : Place) → IsTrue (group_places address n x) → v x ≡ w x)
    → group_loaded (group_bytes size 0 w) address n ≡ Ok value → group_loaded (group_bytes size 0 v) address n ≡ Ok value
group_loaded_alike size address n value v w same is =
    let r = loaded_is size address n value w is in
    ap (λ o. unless_broken o (little_number n (drop address (group_bytes size 0 v)))) (group_fine size address n v r.0)
    ∙ ap Ok (numbers_alike size address n v w same r.0 ∙ r.1)

-- ---- a store to it

abbrev pub over_places : ℕ → List ℕ → Place → Option (Option ℕ)
over_places address bytes (in_group g) = if covers address (length bytes) g then Some (slice_get bytes (g - address)) else None
over_places address bytes (at_address x) = None

pub places_touched : (address : ℕ) (bytes : List ℕ) (x : Place) → IsTrue (is_some (over_places address bytes x)) → IsTrue (group_places address (length bytes) x)
places_touched address bytes (in_group g) is = some_at (covers address (length bytes) g) (slice_get bytes (g - address)) is
places_touched address bytes (at_address x) is = absurd (let e : false ≡ true = is in cc)

overlaid_length : (group bytes : List ℕ) (address : ℕ) → address + length bytes ≤ length group → length (overlaid group address bytes) ≡ length group
overlaid_length group bytes address fits =
    let a = length-append (take address group) (bytes ++ drop (address + length bytes) group) in
    let b = length-append bytes (drop (address + length bytes) group) in
    let c = length-drop (address + length bytes) group in
    let d = length-take address group in
    omega (arith, a, b, c, d)

module _ (group bytes : List ℕ) (address : ℕ) (fits : address + length bytes ≤ length group) where
  first_length : length (take address group) ≡ address
  first_length = let d = length-take address group in omega (arith, d)

  behind_first : (x : ℕ) → address ≤ x → get_or (overlaid group address bytes) x 0 ≡ get_or (bytes ++ drop (address + length bytes) group) (x - address) 0
  behind_first x from =
      let long = first_length in
      get_or-append_right (take address group) (bytes ++ drop (address + length bytes) group) x 0 (omega (arith, long))
      ∙ ap (λ k. get_or (bytes ++ drop (address + length bytes) group) (x - k) 0) long

  overlaid_below : (x : ℕ) → x < address → get_or (overlaid group address bytes) x 0 ≡ get_or group x 0
  overlaid_below x lt =
      let long = first_length in
      get_or_append_left (take address group) (bytes ++ drop (address + length bytes) group) 0 x (omega (arith, long)) ∙ get_or-take address group x 0 lt

  overlaid_inside : (x : ℕ) → address ≤ x → x < address + length bytes → get_or (overlaid group address bytes) x 0 ≡ get_or bytes (x - address) 0
  overlaid_inside x from to =
      behind_first x from ∙ get_or_append_left bytes (drop (address + length bytes) group) 0 (x - address) (omega arith)

  overlaid_past : (x : ℕ) → address + length bytes ≤ x → get_or (overlaid group address bytes) x 0 ≡ get_or group x 0
  overlaid_past x from =
      let e : address + length bytes + (x - address - length bytes) ≡ x = omega arith in
      behind_first x (omega arith)
      ∙ (get_or-append_right bytes (drop (address + length bytes) group) (x - address) 0 (omega arith)
      ∙ (get_or-drop (address + length bytes) group (x - address - length bytes) 0 ∙ ap (λ k. get_or group k 0) e))

module _ (size address : ℕ) (bytes : List ℕ) (m : Bytes) (fits : address + length bytes ≤ size) where
  abbrev now : Place → Option ℕ
  now = with_writes (over_places address bytes) m

  long : length (group_bytes size 0 m) ≡ size
  long = group_length size 0 m

  over_at : (x : ℕ) → x < size → slice_index (group_bytes size 0 now) x ≡ unwrap_or (unwrap_or (over_places address bytes (in_group x)) (m (in_group x))) 0
  over_at x lt = let e : 0 + x ≡ x = omega arith in group_at size 0 x now lt ∙ ap (λ y. unwrap_or (now (in_group y)) 0) e

  under_at : (x : ℕ) → x < size → slice_index (group_bytes size 0 m) x ≡ unwrap_or (m (in_group x)) 0
  under_at x lt = let e : 0 + x ≡ x = omega arith in group_at size 0 x m lt ∙ ap (λ y. unwrap_or (m (in_group y)) 0) e

  outside : (x : ℕ) → covers address (length bytes) x ≡ false → unwrap_or (unwrap_or (over_places address bytes (in_group x)) (m (in_group x))) 0 ≡ unwrap_or (m (in_group x)) 0
  outside x is = ap (λ b. unwrap_or (unwrap_or (if b then Some (slice_get bytes (x - address)) else None) (m (in_group x))) 0) is

  at_byte : (x : ℕ) → x < size → get_or (overlaid (group_bytes size 0 m) address bytes) x 0 ≡ get_or (group_bytes size 0 now) x 0
  at_byte x lt =
      let there : address + length bytes ≤ length (group_bytes size 0 m) = let l = long in omega (arith, l) in
      by_range address (length bytes) x
      (λ p. overlaid_below (group_bytes size 0 m) bytes address there x p ∙ (under_at x lt ∙ (sym (outside x (below address (length bytes) x p)) ∙ sym (over_at x lt))))
      (λ p q. overlaid_inside (group_bytes size 0 m) bytes address there x p q
      ∙ (sym (unwrap_or-slice_get bytes (x - address) 0)
      ∙ (sym (ap (λ b. unwrap_or (unwrap_or (if b then Some (slice_get bytes (x - address)) else None) (m (in_group x))) 0) (inside address (length bytes) x p q)) ∙ sym (over_at x lt))))
      (λ p. overlaid_past (group_bytes size 0 m) bytes address there x p ∙ (under_at x lt ∙ (sym (outside x (past address (length bytes) x p)) ∙ sym (over_at x lt))))

  group_laid : overlaid (group_bytes size 0 m) address bytes ≡ group_bytes size 0 now
  group_laid =
      let there : address + length bytes ≤ length (group_bytes size 0 m) = let l = long in omega (arith, l) in
      let one = overlaid_length (group_bytes size 0 m) bytes address there in
      let two = group_length size 0 now in
      let l = long in
      ext_get_or 0 (overlaid (group_bytes size 0 m) address bytes) (group_bytes size 0 now) (omega (arith, one, two, l)) (λ x lt. at_byte x (omega (arith, one, l, lt)))

  pub contents_laid : record (contents_of size m) { group = overlaid (group_bytes size 0 m) address bytes } ≡ contents_of size now
  contents_laid = λ i. record { group = group_laid i; written = λ x. m (at_address x) }

module _ (a : Surroundings) (p : Program) (size n : ℕ) (i : Item) (executed : ℕ) (within_budget : (executed == budget) ≡ false) where
  -- a load of group memory reads the bytes of its access
  pub load_group_footprint : (l : GroupLoadStep) (m : Bytes) (value : ℕ) → slice_get p.steps i.next ≡ Some (step.LoadGroup l)
      → group_loaded (group_bytes size 0 m) (group_address_of i.registers l.pointer) (number_bytes l.kind) ≡ Ok value
      → HasFootprint a p size n (ready i executed) (ready (onward i (with_any i.registers l.target (converted l.kind l.kind value))) (executed + 1)) m (reading (group_places (group_address_of i.registers l.pointer) (number_bytes l.kind)))
  load_group_footprint l m value found is =
      λ seen same.
      went a p size n i executed within_budget (step.LoadGroup l) (ready after (executed + 1)) (contents_of size seen) (contents_of size seen) (goes_on after (contents_of size seen)) found
      (ap (after_load i (contents_of size seen) l.target l.kind (segment.Group address)) (group_loaded_alike size address (number_bytes l.kind) value seen m same is))
      (refl, refl)
    where
      address : ℕ
      address = group_address_of i.registers l.pointer

      after : Item
      after = onward i (with_any i.registers l.target (converted l.kind l.kind value))

  -- a store to group memory writes the bytes of its access
  pub store_group_footprint : (s : GroupStoreStep) (m : Bytes) → slice_get p.steps i.next ≡ Some (step.StoreGroup s)
      → group_address_of i.registers s.pointer + number_bytes s.kind ≤ size
      → HasFootprint a p size n (ready i executed) (ready (onward i i.registers) (executed + 1)) m
      (writing (over_places (group_address_of i.registers s.pointer) (take (number_bytes s.kind) (to_le_bytes w64 (read_any i.registers s.source)))))
  store_group_footprint s m found fits =
      λ seen same.
      went a p size n i executed within_budget (step.StoreGroup s) (ready (onward i i.registers) (executed + 1)) (contents_of size seen) (contents_of size (with_writes (over_places address bytes) seen))
      (goes_on (onward i i.registers) (record (contents_of size seen) { group = overlaid (group_bytes size 0 seen) address bytes })) found
      (ap (λ o. after_group_store i (contents_of size seen) (segment.Group address) (unless_broken o (overlaid (group_bytes size 0 seen) address bytes))) (group_fine size address (number_bytes s.kind) seen fits))
      (refl, contents_laid size address bytes seen (let few_bytes = length-take (number_bytes s.kind) (to_le_bytes w64 (read_any i.registers s.source)) in omega (arith, few_bytes)))
    where
      address : ℕ
      address = group_address_of i.registers s.pointer

      bytes : List ℕ
      bytes = take (number_bytes s.kind) (to_le_bytes w64 (read_any i.registers s.source))
