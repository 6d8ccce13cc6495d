-- What a turn touches that is an atomic operation.
use Rattle.std.proofs.Common.{◌≡◌, ℕ, ◌+◌, ◌<◌, ◌≤◌, true, false, List, length, take, drop, Option, Some, None, Ok, refl, sym, ap, ◌∙◌, subst, arith, length-drop}
use Rattle.std.specs.Prelude.{if◌then◌else◌, ◌==◌, IsTrue, is_some, nat_le, slice_get}
use Rattle.std.specs.Int.{w32, w64, to_le_bytes}
use Rattle.std.proofs.lemmas.List.{ext_get_or, get_or-take, length-take}
use Rattle.byteorder.specs.Endian.{little_number}
use Rattle.kernel_check.specs.Programs.{Program}
use Rattle.kernel_check.specs.declared.step.AtomicStep.{AtomicStep}
use Rattle.kernel_check.specs.declared.step.Source.{Source}
use Rattle.kernel_check.specs.declared.step.Step.TheVariants as step
use Rattle.queue_error.specs.declared.rule.Rule.{Rule}
use Rattle.queue_error.specs.declared.rule.Rule.TheVariants.{A7}
use Rattle.queue_error.specs.declared.error.SegmentAddress.{SegmentAddress}
use Rattle.queue_error.specs.declared.error.SegmentAddress.TheVariants as segment
use Rattle.executor.specs.Accesses.{atomic_broken, group_atomic_broken, group_broken, lent, or_misaligned, region_of, unless_broken}
use Rattle.executor.specs.Atomics.{bytes_found, left32, left64, place_of, put, replacing32, replacing64, told32, told64}
use Rattle.executor.specs.Group.{ready}
use Rattle.executor.specs.Items.{LentRegion, Surroundings}
use Rattle.executor.specs.Footprints.{Bytes, HasFootprint, Place, accessed, at_address, contents_of, group_bytes, group_places, with_writes}
use Rattle.executor.specs.Meaning.{goes_on, after_atomic32, after_atomic64, onward}
use Rattle.executor.specs.Written.{seen}
use Rattle.executor.specs.declared.item.Item.{Item}
use Rattle.executor.specs.Limits.{budget}
use Rattle.executor.proofs.GlobalFootprints.{contents_over, lent_short, over_addresses, over_touched, seen_alike, went}
use Rattle.executor.proofs.GroupFootprints.{byte_alike, contents_laid, group_length, over_places, places_touched, within}
use Rattle.executor.proofs.Maps.{inside}

-- bytes that are put at a place
abbrev pub over : SegmentAddress → List ℕ → Place → Option (Option ℕ)
over (segment.Global x) bytes = over_addresses x bytes
over (segment.Group x) bytes = over_places x bytes

over_accessed : (x : SegmentAddress) (bytes : List ℕ) (y : Place) → IsTrue (is_some (over x bytes y)) → IsTrue (accessed x (length bytes) y)
over_accessed (segment.Global x) bytes y is = over_touched x bytes y is
over_accessed (segment.Group x) bytes y is = places_touched x bytes y is

aligned : (o : Option Rule) (address n : ℕ) → or_misaligned o address n ≡ None → o ≡ None
aligned None address n is = refl
aligned (Some rule) address n is = absurd cc

unbroken : {X : Type 0} (o : Option Rule) (x y : X) → unless_broken o x ≡ Ok y → (o ≡ None) × (x ≡ y)
unbroken None x y is = (refl, cc)
unbroken (Some rule) x y is = absurd cc

module _ (size x n : ℕ) (v w : Bytes) (same : (y : Place) → IsTrue (group_places x n y) → v y ≡ w y) (fits : x + n ≤ size) where
  shorter : (m : Bytes) → length (take n (drop x (group_bytes size 0 m))) ≡ n
  shorter m =
      let a = length-take n (drop x (group_bytes size 0 m)) in
      let b = length-drop x (group_bytes size 0 m) in
      let d = group_length size 0 m in
      omega (arith, a, b, d)

  bytes_alike : take n (drop x (group_bytes size 0 v)) ≡ take n (drop x (group_bytes size 0 w))
  bytes_alike =
      let one = shorter v in
      let two = shorter w in
      ext_get_or 0 (take n (drop x (group_bytes size 0 v))) (take n (drop x (group_bytes size 0 w))) (omega (arith, one, two))
      (λ k lt. let low : k < n = omega (arith, one, lt) in
      get_or-take n (drop x (group_bytes size 0 v)) k 0 low
      ∙ (byte_alike size x n v w same fits k low ∙ sym (get_or-take n (drop x (group_bytes size 0 w)) k 0 low)))

-- what an atomic step finds, over any memory with the same bytes there
found_alike : (view : List LentRegion) (size n : ℕ) (x : SegmentAddress) (v w : Bytes) (bytes : List ℕ) → ((y : Place) → IsTrue (accessed x n y) → v y ≡ w y)
    → bytes_found view (contents_of size w) x n ≡ Ok bytes → bytes_found view (contents_of size v) x n ≡ Ok bytes
found_alike view size n (segment.Global x) v w bytes same is =
    ap (unless_broken (atomic_broken view x n))
    (seen_alike (λ y. v (at_address y)) (λ y. w (at_address y)) x (lent view x n)
    (λ y from to. same (at_address y) (inside x n y from (let short = lent_short (region_of view x) x n in omega (arith, short)))))
    ∙ is
found_alike view size n (segment.Group x) v w bytes same is =
    let r = unbroken (group_atomic_broken (group_bytes size 0 w) x n) (take n (drop x (group_bytes size 0 w))) bytes is in
    let long : length (group_bytes size 0 v) ≡ length (group_bytes size 0 w) = group_length size 0 v ∙ sym (group_length size 0 w) in
    let fits : x + n ≤ length (group_bytes size 0 w) = within (length (group_bytes size 0 w)) x n (aligned (group_broken (group_bytes size 0 w) x n) x n r.0) in
    let size_is = group_length size 0 w in
    ap (λ k. unless_broken (or_misaligned (if nat_le (x + n) k then None else Some A7) x n) (take n (drop x (group_bytes size 0 v)))) long
    ∙ (ap (unless_broken (group_atomic_broken (group_bytes size 0 w) x n)) (bytes_alike size x n v w same (omega (arith, fits, size_is))) ∙ is)

-- what is put, where it was found that an access of as many bytes may be
put_is : (view : List LentRegion) (size n : ℕ) (x : SegmentAddress) (m w : Bytes) (found bytes : List ℕ) → length bytes ≡ n
    → bytes_found view (contents_of size w) x n ≡ Ok found → put (contents_of size m) x bytes ≡ contents_of size (with_writes (over x bytes) m)
put_is view size n (segment.Global x) m w found bytes many is = contents_over size x bytes m
put_is view size n (segment.Group x) m w found bytes many is =
    let r = unbroken (group_atomic_broken (group_bytes size 0 w) x n) (take n (drop x (group_bytes size 0 w))) found is in
    let fits : x + n ≤ length (group_bytes size 0 w) = within (length (group_bytes size 0 w)) x n (aligned (group_broken (group_bytes size 0 w) x n) x n r.0) in
    let size_is = group_length size 0 w in
    contents_laid size x bytes m (omega (arith, fits, size_is, many))

-- what an atomic step lays, if anything
abbrev pub over_if : SegmentAddress → (ℕ → List ℕ) → Option ℕ → Place → Option (Option ℕ)
over_if x bytes None y = None
over_if x bytes (Some value) y = over x (bytes value) y

pub over_if_accessed : (x : SegmentAddress) (n : ℕ) (bytes : ℕ → List ℕ) → ((value : ℕ) → length (bytes value) ≡ n) → (o : Option ℕ) (y : Place)
    → IsTrue (is_some (over_if x bytes o y)) → IsTrue (accessed x n y)
over_if_accessed x n bytes many None y is = absurd (let e : false ≡ true = is in cc)
over_if_accessed x n bytes many (Some value) y is = subst (λ k. IsTrue (accessed x k y)) (many value) (over_accessed x (bytes value) y is)

module _ (a : Surroundings) (p : Program) (size n : ℕ) (i : Item) (executed : ℕ) (within_budget : (executed == budget) ≡ false) where
  -- an atomic step of 32 bits reads the bytes of its access, and writes there if it leaves anything
  pub atomic32_footprint : (s : AtomicStep (Source ℕ)) (m : Bytes) (bytes : List ℕ) → slice_get p.steps i.next ≡ Some (step.Atomic32 s)
      → bytes_found a.view (contents_of size m) (place_of i.registers s.pointer) 4 ≡ Ok bytes
      → HasFootprint a p size n (ready i executed) (ready (onward i (told32 i.registers s.target (little_number 4 bytes))) (executed + 1)) m
      (record { reads = accessed (place_of i.registers s.pointer) 4; writes = over_if (place_of i.registers s.pointer) (to_le_bytes w32) (replacing32 i.registers s.operation (little_number 4 bytes)) })
  atomic32_footprint s m bytes found is =
      λ seen same.
      went a p size n i executed within_budget (step.Atomic32 s) (ready after (executed + 1)) (contents_of size seen) (contents_of size (with_writes (over_if x (to_le_bytes w32) left) seen))
      (goes_on after (left32 (contents_of size seen) x left)) found
      (ap (after_atomic32 i (contents_of size seen) s) (found_alike a.view size 4 x seen m bytes same is))
      (refl, put_if seen left)
    where
      x : SegmentAddress
      x = place_of i.registers s.pointer

      left : Option ℕ
      left = replacing32 i.registers s.operation (little_number 4 bytes)

      after : Item
      after = onward i (told32 i.registers s.target (little_number 4 bytes))

      put_if : (seen : Bytes) (o : Option ℕ) → left32 (contents_of size seen) x o ≡ contents_of size (with_writes (over_if x (to_le_bytes w32) o) seen)
      put_if seen None = refl
      put_if seen (Some value) = put_is a.view size 4 x seen m bytes (to_le_bytes w32 value) refl is

  -- an atomic step of 64 bits reads the bytes of its access, and writes there if it leaves anything
  pub atomic64_footprint : (s : AtomicStep (Source ℕ)) (m : Bytes) (bytes : List ℕ) → slice_get p.steps i.next ≡ Some (step.Atomic64 s)
      → bytes_found a.view (contents_of size m) (place_of i.registers s.pointer) 8 ≡ Ok bytes
      → HasFootprint a p size n (ready i executed) (ready (onward i (told64 i.registers s.target (little_number 8 bytes))) (executed + 1)) m
      (record { reads = accessed (place_of i.registers s.pointer) 8; writes = over_if (place_of i.registers s.pointer) (to_le_bytes w64) (replacing64 i.registers s.operation (little_number 8 bytes)) })
  atomic64_footprint s m bytes found is =
      λ seen same.
      went a p size n i executed within_budget (step.Atomic64 s) (ready after (executed + 1)) (contents_of size seen) (contents_of size (with_writes (over_if x (to_le_bytes w64) left) seen))
      (goes_on after (left64 (contents_of size seen) x left)) found
      (ap (after_atomic64 i (contents_of size seen) s) (found_alike a.view size 8 x seen m bytes same is))
      (refl, put_if seen left)
    where
      x : SegmentAddress
      x = place_of i.registers s.pointer

      left : Option ℕ
      left = replacing64 i.registers s.operation (little_number 8 bytes)

      after : Item
      after = onward i (told64 i.registers s.target (little_number 8 bytes))

      put_if : (seen : Bytes) (o : Option ℕ) → left64 (contents_of size seen) x o ≡ contents_of size (with_writes (over_if x (to_le_bytes w64) o) seen)
      put_if seen None = refl
      put_if seen (Some value) = put_is a.view size 8 x seen m bytes (to_le_bytes w64 value) refl is
