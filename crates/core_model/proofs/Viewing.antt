-- The memory that a packet's groups see, and that what they write lies where WRITE was in force.
use Rattle.std.proofs.Common.{◌≡◌, ℕ, zero, suc, ◌+◌, ◌-◌, ◌*◌, ◌/◌, ◌%◌, ◌^◌, ◌<◌, ◌≤◌, List, [], ◌∷◌, ◌++◌, length, get_or, refl, sym, ◌∙◌, ap, subst, Bool, true, false, inl, inr, arith, append_assoc}
use Rattle.std.specs.Prelude.{All, ◌==◌, ◌&&◌, ◌||◌, filter, map, nat_le, nat_lt, not, replicate, slice_index, if◌then◌else◌}
use Rattle.std.specs.List.{list_all, list_any, range_with_len, zip}
use Rattle.std.proofs.lemmas.Bool.{and_parts, eqb-true, leb-true, ltb-true}
use Rattle.std.proofs.lemmas.Bool.Decides.{nat_tests}
use Rattle.std.proofs.lemmas.List.{length-append, length-replicate}
use Rattle.std.proofs.lemmas.List.Elements.{All-nil, All-cons, All-head, All-tail, All-filter, All-map, All-weaker}
use Rattle.std.proofs.lemmas.List.FromFn.{length-map-range_with_len}
use Rattle.aql_packet.specs.declared.ids.ClientId.{ClientId}
use Rattle.aql_packet.specs.declared.packet.KernelDispatch.{KernelDispatch}
use Rattle.executor.proofs.HeldWrites.{group_held}
use Rattle.executor.specs.Accesses.{covers_address}
use Rattle.executor.specs.Items.{LentRegion}
use Rattle.executor.specs.Laws.{AreShort, IsHeldAt, IsHeldRun}
use Rattle.executor.specs.Results.{group_result, wrote}
use Rattle.executor.specs.declared.written_range.WrittenRange.{WrittenRange}
use Rattle.policy.proofs.RightsLemmas.{has-rights_that}
use Rattle.policy.specs.Object.{same_object}
use Rattle.policy.specs.Rights.{bit_of, has}
use Rattle.policy.specs.declared.object.Object.{Object}
use Rattle.policy.specs.declared.object.Object.TheVariants as object
use Rattle.policy.specs.declared.rights.Right.{Right}
use Rattle.policy.specs.declared.rights.Right.TheVariants as right
use Rattle.aql_packet.specs.Memory.{are_region_lengths, is_region_length}
use Rattle.regions.specs.Memory.{is_within, region_length, region_of}
use Rattle.core_model.specs.declared.entry.Entry.{Entry}
use Rattle.core_model.specs.declared.need.Range.{Range}
use Rattle.core_model.specs.History.{HeldRights, Start}
use Rattle.core_model.specs.Grants.{in_force}
use Rattle.policy.specs.Policy.{region_lengths}
use Rattle.core_model.specs.Memory.{memory_at, memory_from}
use Rattle.core_model.specs.Holds.{ObjectRight, is_among}
use Rattle.core_model.specs.View.{GivenAtLaunch, RegionRights, first_address, group_input, held_region, held_regions, as_lent, rights_held, view}
use Rattle.core_model.specs.Headline.{AllInForce, MayReach, MayReachRange, range_of}
use Rattle.policy.proofs.PairLemmas.{same_object_is}
use Rattle.core_model.proofs.Lists.{found-all, found-passes}

-- ---- rights that are held

same-right : (a b : Right) → (bit_of a == bit_of b) ≡ true → a ≡ b
same-right right.Use right.Use e = refl
same-right right.Read right.Read e = refl
same-right right.Write right.Write e = refl
same-right right.Wait right.Wait e = refl
same-right right.Change right.Change e = refl
same-right right.Launch right.Launch e = refl
same-right _ _ e = absurd cc

module _ (start : Start) (before : List Entry) (client : ClientId) where
  abbrev Granted : ObjectRight → Type 0
  Granted h = in_force start before client h.0 h.1 ≡ true

  -- a right that some packet holds is in force where all that it holds is
  any-granted : (on : Object) (one : Right) (hs : List ObjectRight) → list_any (λ h. same_object on h.0 && (bit_of h.1 == bit_of one)) hs ≡ true → All Granted hs → in_force start before client on one ≡ true
  any-granted on one [] some all = absurd cc
  any-granted on one (h ∷ hs) some all = by_test (same_object on h.0 && (bit_of h.1 == bit_of one)) refl some (λ rest. any-granted on one hs rest (All-tail Granted h hs all))
    where
      by_test : (b : Bool) → (same_object on h.0 && (bit_of h.1 == bit_of one)) ≡ b → (b || list_any (λ h. same_object on h.0 && (bit_of h.1 == bit_of one)) hs) ≡ true
          → (list_any (λ h. same_object on h.0 && (bit_of h.1 == bit_of one)) hs ≡ true → in_force start before client on one ≡ true) → in_force start before client on one ≡ true
      by_test true is some rest =
          let both = and_parts (same_object on h.0) _ is in
          let on_is : on ≡ h.0 = same_object_is on h.0 both.0 in
          let one_is : h.1 ≡ one = same-right h.1 one both.1 in
          ap (λ o. in_force start before client o one) on_is ∙ (ap (in_force start before client h.0) (sym one_is) ∙ All-head Granted h hs all)
      by_test false is some rest = rest some

  -- so it is with all that some list names
  pub among-granted : (hs : List ObjectRight) → All Granted hs → AllInForce start before client (is_among hs)
  among-granted hs all on one some = any-granted on one hs some all

  right-granted : (hs : HeldRights) (on : Object) (one : Right) → AllInForce start before client hs → has (rights_held hs on) one ≡ true → in_force start before client on one ≡ true
  right-granted hs on one all has_it = all on one (sym (has-rights_that (hs on) one) ∙ has_it)

-- ---- the lengths of regions

at-length : (pre xs : List ℕ) (x : ℕ) → get_or (pre ++ x ∷ xs) (length pre) 0 ≡ x
at-length [] xs x = refl
at-length (y ∷ pre) xs x = at-length pre xs x

rows-at : (pre xs : List ℕ) (k : ℕ) → length pre ≡ k → All (λ (row : ℕ × ℕ). slice_index (pre ++ xs) row.0 ≡ row.1) (zip (range_with_len k (length xs)) xs)
rows-at pre [] k is = All-nil _
rows-at pre (x ∷ xs) k is =
    let long : length (pre ++ x ∷ []) ≡ k + 1 = omega (arith, length-append pre (x ∷ [])) in
    All-cons (λ (row : ℕ × ℕ). slice_index (pre ++ x ∷ xs) row.0 ≡ row.1) (k, x) (zip (range_with_len (k + 1) (length xs)) xs)
    (subst (λ n. get_or (pre ++ x ∷ xs) n 0 ≡ x) is (at-length pre xs x))
    (subst (λ (all : List ℕ). All (λ (row : ℕ × ℕ). slice_index all row.0 ≡ row.1) (zip (range_with_len (k + 1) (length xs)) xs)) (append_assoc pre (x ∷ []) xs)
    (rows-at (pre ++ x ∷ []) xs (k + 1) long))

small-at : (lengths : List ℕ) → list_all is_region_length lengths ≡ true → (k : ℕ) → get_or lengths k 0 ≤ 2 ^ 24
small-at [] all k = omega arith
small-at (x ∷ xs) all zero =
    let both = and_parts (is_region_length x) (list_all is_region_length xs) all in
    leb-true x (2 ^ 24) (and_parts (nat_le 1 x) _ both.0).1
small-at (x ∷ xs) all (suc k) = small-at xs (and_parts (is_region_length x) (list_all is_region_length xs) all).1 k

pub small-region : (lengths : List ℕ) → are_region_lengths lengths ≡ true → (k : ℕ) → region_length lengths k ≤ 2 ^ 24
small-region lengths fit zero = omega arith
small-region lengths fit (suc k) = small-at lengths (and_parts (nat_le (length lengths) 64) _ fit).1 k

-- ---- the regions that are held

module _ (start : Start) (before : List Entry) (client : ClientId) (hs : HeldRights) (granted : AllInForce start before client hs) where
  -- what is known of a region that is held
  pub record IsKnown (region : RegionRights) : Type 0 where
    pub size_is : region_length (region_lengths start.policy) region.number ≡ region.size
    pub granted_so : (one : Right) → has region.rights one ≡ true → in_force start before client (object.Region (record { 0 = region.number })) one ≡ true

  pub all-known : All IsKnown (held_regions start hs)
  all-known =
      All-filter (λ region. not (region.rights.0 == 0)) IsKnown (map (held_region hs) (zip (range_with_len 1 (length (region_lengths start.policy))) (region_lengths start.policy)))
      (All-map IsKnown (held_region hs) (zip (range_with_len 1 (length (region_lengths start.policy))) (region_lengths start.policy))
      (All-weaker (λ (row : ℕ × ℕ). slice_index (0 ∷ region_lengths start.policy) row.0 ≡ row.1) (λ row. IsKnown (held_region hs row))
      (λ row is. record { size_is = is; granted_so = λ one has_it. right-granted start before client hs (object.Region (record { 0 = row.0 })) one granted has_it })
      (zip (range_with_len 1 (length (region_lengths start.policy))) (region_lengths start.policy)) (rows-at (0 ∷ []) (region_lengths start.policy) 1 refl)))

  -- a region that is held with READ may be read
  pub may-read : (region : RegionRights) → IsKnown region → has region.rights right.Read ≡ true → MayReachRange start before client right.Read (range_of region)
  may-read region known reads = by_size (region.size == 0) refl
    where
      number : region_of (region.number * 2 ^ 32) ≡ region.number
      number = omega arith

      whole : (size : ℕ) → region_length (region_lengths start.policy) region.number ≡ size → (size == 0) ≡ false → is_within (region_lengths start.policy) (region.number * 2 ^ 32) size ≡ true
      whole size is some =
          let first : (region.number * 2 ^ 32) % 2 ^ 32 ≡ 0 = omega arith in
          let at : region_length (region_lengths start.policy) (region_of (region.number * 2 ^ 32)) ≡ size = ap (region_length (region_lengths start.policy)) number ∙ is in
          let holds : (nat_lt 0 size && nat_le (0 + size) size) ≡ true = grind (arith, nat_tests) in
          rw (at, first) holds

      by_size : (b : Bool) → (region.size == 0) ≡ b → MayReachRange start before client right.Read (range_of region)
      by_size true is = inl (eqb-true _ _ is)
      by_size false is = inr (record {
        lies_whole = whole region.size known.size_is is;
        granted = ap (λ n. in_force start before client (object.Region (record { 0 = n })) right.Read) number ∙ known.granted_so right.Read reads;
      })

  -- ---- what is written

  module _ (es : List Entry) (fit : are_region_lengths (region_lengths start.policy) ≡ true) where
    lent-long : (region : RegionRights) → length (as_lent start es region).bytes ≡ region.size
    lent-long region = by_test (has region.rights right.Read)
      where
        by_test : (b : Bool) → length (if b then memory_from start es (first_address region) region.size else replicate region.size 0) ≡ region.size
        by_test true = length-map-range_with_len (memory_at start es) (first_address region) region.size
        by_test false = length-replicate region.size 0

    -- what is known of a region as it is lent
    record IsKnownLent (r : LentRegion) : Type 0 where
      size_is : region_length (region_lengths start.policy) r.number ≡ length r.bytes
      granted_so : has r.rights right.Write ≡ true → in_force start before client (object.Region (record { 0 = r.number })) right.Write ≡ true

    all-lent : All IsKnownLent (view start es hs)
    all-lent =
        All-map IsKnownLent (as_lent start es) (held_regions start hs)
        (All-weaker IsKnown (λ region. IsKnownLent (as_lent start es region))
        (λ region known. record { size_is = known.size_is ∙ sym (lent-long region); granted_so = known.granted_so right.Write })
        (held_regions start hs) all-known)

    all-short : AreShort (view start es hs)
    all-short =
        All-weaker IsKnownLent (λ (r : LentRegion). length r.bytes ≤ 2 ^ 32)
        (λ r known. let small = small-region (region_lengths start.policy) fit r.number in let is = known.size_is in omega arith)
        (view start es hs) all-lent

    -- an address that a group may write
    record MayWriteAt (x : ℕ) : Type 0 where
      lies : x % 2 ^ 32 < region_length (region_lengths start.policy) (x / 2 ^ 32)
      granted_so : in_force start before client (object.Region (record { 0 = x / 2 ^ 32 })) right.Write ≡ true

    may-write : (x : ℕ) → IsHeldAt (view start es hs) right.Write x → MayWriteAt x
    may-write x held_at =
        let r = held_at.region in
        let known = found-all IsKnownLent (λ (s : LentRegion). covers_address s x) (view start es hs) r all-lent held_at.is_found in
        let both = and_parts (r.number == x / 2 ^ 32) _ (found-passes (λ (s : LentRegion). covers_address s x) (view start es hs) r held_at.is_found) in
        let number : r.number ≡ x / 2 ^ 32 = eqb-true _ _ both.0 in
        let inside : x % 2 ^ 32 < length r.bytes = ltb-true _ _ both.1 in
        record {
          lies = subst (λ n. x % 2 ^ 32 < region_length (region_lengths start.policy) n) number (subst (λ n. x % 2 ^ 32 < n) (sym known.size_is) inside);
          granted_so = subst (λ n. in_force start before client (object.Region (record { 0 = n })) right.Write ≡ true) number (known.granted_so held_at.has_right);
        }

    module _ (address size : ℕ) (each : (x : ℕ) → address ≤ x → x < address + size → MayWriteAt x) where
      -- all of a run lies in one region
      one-region : (j : ℕ) → j < size → (address + j) / 2 ^ 32 ≡ address / 2 ^ 32
      one-region zero below = let e : address + 0 ≡ address = omega arith in ap (λ x. x / 2 ^ 32) e
      one-region (suc j) below =
          let rest = one-region j (omega arith) in
          let small = small-region (region_lengths start.policy) fit ((address + j) / 2 ^ 32) in
          let lies = (each (address + j) (omega arith) (omega arith)).lies in
          let next : address + suc j ≡ (address + j) + 1 = omega arith in
          omega arith

      reached : 0 < size → MayReach start before client right.Write address size
      reached some =
          let last : ℕ = size - 1 in
          let there = one-region last (omega arith) in
          let begins = (each address (omega arith) (omega arith)).lies in
          let lies = subst (λ n. (address + last) % 2 ^ 32 < region_length (region_lengths start.policy) n) there (each (address + last) (omega arith) (omega arith)).lies in
          let ends : address % 2 ^ 32 + size ≤ region_length (region_lengths start.policy) (address / 2 ^ 32) = omega arith in
          record {
            lies_whole = grind (arith, nat_tests);
            granted = (each address (omega arith) (omega arith)).granted_so;
          }

-- a run has bytes, and lies whole in a region on which WRITE was in force
pub record IsWithinGrant (start : Start) (before : List Entry) (client : ClientId) (run : WrittenRange) : Type 0 where
  pub 0 : 0 < length run.bytes
  pub 1 : MayReach start before client right.Write run.address (length run.bytes)

-- so each run that a group writes does
pub runs-granted : (start : Start) (es before : List Entry) (client : ClientId) (own : GivenAtLaunch) (d : KernelDispatch) (group : ℕ) → are_region_lengths (region_lengths start.policy) ≡ true →
    AllInForce start before client own.rights → (runs : List WrittenRange) → group_result (group_input start es own d group) ≡ wrote runs → All (IsWithinGrant start before client) runs
runs-granted start es before client own d group fit granted runs is =
    All-weaker (IsHeldRun (view start es own.rights) right.Write) (IsWithinGrant start before client)
    (λ run lies. record {
      0 = lies.has_bytes;
      1 = reached start before client own.rights granted es fit run.address (length run.bytes)
          (λ x above below. may-write start before client own.rights granted es fit x (lies.each x (grind (arith, nat_tests)))) lies.has_bytes;
    })
    runs (group_held (group_input start es own d group) runs (all-short start before client own.rights granted es fit) is)

-- ---- what is read

-- regions that have the same bytes where they may be read are lent alike
module _ (start : Start) (one other : List Entry) where
  abbrev pub Same : Range → Type 0
  Same range = memory_from start one range.address.0 range.size ≡ memory_from start other range.address.0 range.size

  pub same-lent : (regions : List RegionRights) → All Same (map range_of (filter (λ region. has region.rights right.Read) regions)) → map (as_lent start one) regions ≡ map (as_lent start other) regions
  same-lent [] all = refl
  same-lent (r ∷ rs) all = by_test (has r.rights right.Read) refl all (same-lent rs)
    where
      by_test : (b : Bool) → has r.rights right.Read ≡ b → All Same (map range_of (if b then r ∷ filter (λ region. has region.rights right.Read) rs else filter (λ region. has region.rights right.Read) rs))
          → (All Same (map range_of (filter (λ region. has region.rights right.Read) rs)) → map (as_lent start one) rs ≡ map (as_lent start other) rs) → map (as_lent start one) (r ∷ rs) ≡ map (as_lent start other) (r ∷ rs)
      by_test true is all rest =
          let here : memory_from start one (first_address r) r.size ≡ memory_from start other (first_address r) r.size = All-head Same (range_of r) _ all in
          let more = rest (All-tail Same (range_of r) _ all) in
          λ i. record { number = r.number; rights = r.rights; bytes = if has r.rights right.Read then here i else replicate r.size 0 } ∷ more i
      by_test false is all rest =
          let more = rest all in
          let here : as_lent start one r ≡ as_lent start other r = rw is refl in
          λ i. here i ∷ more i
