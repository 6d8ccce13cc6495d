-- The regions that are lent, as items see them.
use Rattle.std.proofs.Common.{◌≡◌, ◌≢◌, ◌∙◌, ℕ, zero, suc, ◌+◌, ◌-◌, ◌/◌, ◌%◌, ◌^◌, ◌<◌, ◌≤◌, ◌==◌, ◌&&◌, List, [], ◌∷◌, ◌++◌, length, get_or, set, slice_get, replicate, take, refl, sym, ap, arith, subst, Bool, true, false, Option, Some, None, All, inl, inr}
use Rattle.std.specs.Prelude.{find, map, option_map, nat_le, nat_lt, if◌then◌else◌}
use Rattle.std.proofs.lemmas.Bool.{cases_eq, cond-false, cond-true, le-ltb, lt-ltb}
use Rattle.std.proofs.lemmas.Bool.Decides.{nat_tests}
use Rattle.std.proofs.lemmas.List.{length-append, length-replicate, length-set, take_all}
use Rattle.policy.specs.Rights.{has}
use Rattle.policy.specs.declared.rights.Right.{Right}
use Rattle.policy.specs.declared.rights.Right.TheVariants.{Read, Write}
use Rattle.executor.specs.Accesses.{covers_address, region_of}
use Rattle.executor.specs.Items.{lent_region}
use Rattle.executor.specs.inner.Places.{held, if_long, if_reached, reach, IsEntry, IsView, Numbered}
use Rattle.executor.specs.Views.{has_byte_at}
use Rattle.executor.specs.declared.entry.Entry.{Entry}
use Rattle.executor.specs.declared.held.HeldRegion.{HeldRegion}

-- the region that is found among those that are lent is the one that items see
pub found_lent : (view : List HeldRegion) (address : ℕ) → option_map lent_region (find (λ region. covers_address (lent_region region) address) view) ≡ region_of (map lent_region view) address
found_lent [] address = refl
found_lent (r ∷ rs) address = by_test (covers_address (lent_region r) address) refl (found_lent rs address)
  where
    by_test : (b : Bool) → covers_address (lent_region r) address ≡ b → option_map lent_region (find (λ region. covers_address (lent_region region) address) rs) ≡ region_of (map lent_region rs) address
        → option_map lent_region (find (λ region. covers_address (lent_region region) address) (r ∷ rs)) ≡ region_of (map lent_region (r ∷ rs)) address
    by_test true is rest = rw is refl
    by_test false is rest = rw is rest

-- ---- the entries by which a region is found

abbrev region_in : Entry → HeldRegion
region_in e = e.region

-- the region of an entry, by its number
abbrev entry_at : List Entry → ℕ → Option HeldRegion
entry_at es k = option_map region_in (slice_get es k)

-- there is no entry behind the last
none_behind : (es : List Entry) (k : ℕ) → length es ≤ k → slice_get es k ≡ None
none_behind [] zero past = refl
none_behind [] (suc k) past = refl
none_behind (e ∷ es) zero past = absurd (omega (arith, past))
none_behind (e ∷ es) (suc k) past = none_behind es k (omega (arith, past))

module _ (address : ℕ) where
  -- no region of a number above an address's has it
  none_above : (n : ℕ) (es : List Entry) → address / 2 ^ 32 < n → Numbered n es → find (λ region. has_byte_at region address) (held es) ≡ None
  none_above n [] above all = refl
  none_above n (e ∷ es) above all = by_none (e.region.handle.0 == 0) refl (none_above (suc n) es (omega (arith, above)) all.1)
    where
      apart : (e.region.handle.0 == 0) ≡ false → (e.region.handle.0 == address / 2 ^ 32) ≡ false
      apart is = elim all.0.own [
        | inl zero_is ↦ grind (arith, nat_tests, is, zero_is)
        | inr own ↦ grind (arith, nat_tests, own, above)
      ]

      by_none : (b : Bool) → (e.region.handle.0 == 0) ≡ b → find (λ region. has_byte_at region address) (held es) ≡ None
          → find (λ region. has_byte_at region address) (if b then held es else e.region ∷ held es) ≡ None
      by_none true is rest = rest
      by_none false is rest = rw (apart is) rest

  -- that of its number has it, if it is as long
  pub found_at : (n k : ℕ) (es : List Entry) → address / 2 ^ 32 ≡ n + k → Numbered n es
      → find (λ region. has_byte_at region address) (held es) ≡ if_long (address % 2 ^ 32) (entry_at es k)
  found_at n zero [] at all = refl
  found_at n (suc k) [] at all = refl
  found_at n zero (e ∷ es) at all = by_none (e.region.handle.0 == 0) refl (none_above (suc n) es (omega (arith, at)) all.1)
    where
      same : (e.region.handle.0 == 0) ≡ false → (e.region.handle.0 == address / 2 ^ 32) ≡ true
      same is = elim all.0.own [
        | inl zero_is ↦ grind (arith, nat_tests, is, zero_is)
        | inr own ↦ grind (arith, nat_tests, own, at)
      ]

      by_long : (long : Bool) (rest : Option HeldRegion) → rest ≡ None → (if long then Some e.region else rest) ≡ (if long then Some e.region else None)
      by_long true rest none = refl
      by_long false rest none = none

      by_none : (b : Bool) → (e.region.handle.0 == 0) ≡ b → find (λ region. has_byte_at region address) (held es) ≡ None
          → find (λ region. has_byte_at region address) (if b then held es else e.region ∷ held es) ≡ if_long (address % 2 ^ 32) (Some e.region)
      by_none true is rest =
          let empty : length e.region.bytes.now ≡ 0 = all.0.none (grind (arith, nat_tests, is)) in
          let short : length e.region.bytes.now ≤ address % 2 ^ 32 = omega (arith, empty) in
          rest ∙ sym (cond-false _ _ _ (le-ltb _ _ short))
      by_none false is rest = rw (same is) (by_long (nat_lt (address % 2 ^ 32) (length e.region.bytes.now)) (find (λ region. has_byte_at region address) (held es)) rest)
  found_at n (suc k) (e ∷ es) at all = by_none (e.region.handle.0 == 0) refl (found_at (suc n) k es (omega (arith, at)) all.1)
    where
      apart : (e.region.handle.0 == 0) ≡ false → (e.region.handle.0 == address / 2 ^ 32) ≡ false
      apart is = elim all.0.own [
        | inl zero_is ↦ grind (arith, nat_tests, is, zero_is)
        | inr own ↦ grind (arith, nat_tests, own, at)
      ]

      by_none : (b : Bool) → (e.region.handle.0 == 0) ≡ b → find (λ region. has_byte_at region address) (held es) ≡ if_long (address % 2 ^ 32) (entry_at es k)
          → find (λ region. has_byte_at region address) (if b then held es else e.region ∷ held es) ≡ if_long (address % 2 ^ 32) (entry_at es k)
      by_none true is rest = rest
      by_none false is rest = rw (apart is) rest

  -- no region is found behind the last entry
  pub found_past : (es : List Entry) → IsView es → length es ≤ address / 2 ^ 32 → None ≡ find (λ region. has_byte_at region address) (held es)
  found_past es is past = sym (found_at 0 (address / 2 ^ 32) es (omega arith) is.numbered ∙ ap (λ o. if_long (address % 2 ^ 32) (option_map region_in o)) (none_behind es (address / 2 ^ 32) past))

  -- that of the entry at its number is
  pub found_there : (es : List Entry) (e : Entry) → IsView es → slice_get es (address / 2 ^ 32) ≡ Some e
      → find (λ region. has_byte_at region address) (held es) ≡ if_long (address % 2 ^ 32) (Some e.region)
  found_there es e is at = found_at 0 (address / 2 ^ 32) es (omega arith) is.numbered ∙ ap (λ o. if_long (address % 2 ^ 32) (option_map region_in o)) at

-- the entry of a number
pub entry_of : (n k : ℕ) (es : List Entry) (e : Entry) → Numbered n es → slice_get es k ≡ Some e → IsEntry (n + k) e
entry_of n zero [] e all at = absurd cc
entry_of n (suc k) [] e all at = absurd cc
entry_of n zero (x ∷ es) e all at =
    let same : x ≡ e = cc in
    let first : n + 0 ≡ n = omega arith in
    subst (λ (m : ℕ). IsEntry m e) (sym first) (subst (IsEntry n) same all.0)
entry_of n (suc k) (x ∷ es) e all at =
    let next : suc n + k ≡ n + suc k = omega arith in
    subst (λ (m : ℕ). IsEntry m e) next (entry_of (suc n) k es e all.1 at)

-- ---- what may be accessed

module _ (region : HeldRegion) (right : Right) (offset n : ℕ) (some : 1 ≤ n) where
  -- what lies within the bytes that may be accessed is found
  pub reached : offset + n ≤ reach region right → Some region ≡ if_reached right offset n (if_long offset (Some region))
  reached fits = by_right (has region.rights right) refl fits
    where
      by_right : (b : Bool) → has region.rights right ≡ b → offset + n ≤ (if b then length region.bytes.now else 0) → Some region ≡ if_reached right offset n (if_long offset (Some region))
      by_right false is within = absurd (omega (arith, within, some))
      by_right true is within =
          let long : nat_lt offset (length region.bytes.now) ≡ true = grind (arith, nat_tests, within, some) in
          let whole : nat_le (offset + n) (length region.bytes.now) ≡ true = grind (arith, nat_tests, within) in
          rw long (rw is (rw whole refl))

  -- nothing else is
  pub unreached : reach region right < offset + n → None ≡ if_reached right offset n (if_long offset (Some region))
  unreached far = by_long (nat_lt offset (length region.bytes.now))
    where
      by_right : (b whole : Bool) → has region.rights right ≡ b → nat_le (offset + n) (length region.bytes.now) ≡ whole → (if b then length region.bytes.now else 0) < offset + n
          → None ≡ (if b && whole then Some region else None)
      by_right false whole is fits past = refl
      by_right true false is fits past = refl
      by_right true true is fits past = absurd (grind (arith, nat_tests, fits, past))

      by_long : (long : Bool) → None ≡ if_reached right offset n (if long then Some region else None)
      by_long false = refl
      by_long true = by_right (has region.rights right) (nat_le (offset + n) (length region.bytes.now)) refl refl far

module _ (region : HeldRegion) (right : Right) (offset n : ℕ) where
  -- the same of a region that has those bytes
  pub reached_whole : 1 ≤ n → offset + n ≤ reach region right → Some region ≡ if_reached right offset n (Some region)
  reached_whole some fits = by_right (has region.rights right) refl fits
    where
      by_right : (b : Bool) → has region.rights right ≡ b → offset + n ≤ (if b then length region.bytes.now else 0) → Some region ≡ if_reached right offset n (Some region)
      by_right false is within = absurd (omega (arith, within, some))
      by_right true is within =
          let whole : nat_le (offset + n) (length region.bytes.now) ≡ true = grind (arith, nat_tests, within) in
          rw is (rw whole refl)

  pub unreached_whole : reach region right < offset + n → None ≡ if_reached right offset n (Some region)
  unreached_whole far = by_right (has region.rights right) (nat_le (offset + n) (length region.bytes.now)) refl far
    where
      by_right : (b whole : Bool) → nat_le (offset + n) (length region.bytes.now) ≡ whole → (if b then length region.bytes.now else 0) < offset + n → None ≡ (if b && whole then Some region else None)
      by_right false whole fits past = refl
      by_right true false fits past = refl
      by_right true true fits past = absurd (grind (arith, nat_tests, fits, past))

module _ (items : List Entry) (value : List HeldRegion) (view : held items ≡ value) (is : IsView items) (address n : ℕ) where
  abbrev found : Option HeldRegion
  found = find (λ region. has_byte_at region address) value

  carried : find (λ region. has_byte_at region address) (held items) ≡ found
  carried = ap (λ (regions : List HeldRegion). find (λ region. has_byte_at region address) regions) view

  -- what is found where there is no entry
  pub nothing_there : length items ≤ address / 2 ^ 32 → None ≡ found
  nothing_there past = found_past address items is past ∙ carried

  module _ (e : Entry) (at : slice_get items (address / 2 ^ 32) ≡ Some e) where
    seen_there : if_long (address % 2 ^ 32) (Some e.region) ≡ found
    seen_there = sym (found_there address items e is at) ∙ carried

    entry_is : IsEntry (0 + address / 2 ^ 32) e
    entry_is = entry_of 0 (address / 2 ^ 32) items e is.numbered at

    -- and where there is one
    pub long_there : address % 2 ^ 32 < length e.region.bytes.now → Some e.region ≡ found
    long_there long = sym (cond-true _ _ _ (lt-ltb _ _ long)) ∙ seen_there

    pub short_there : length e.region.bytes.now ≤ address % 2 ^ 32 → None ≡ found
    short_there short = sym (cond-false _ _ _ (le-ltb _ _ short)) ∙ seen_there

    pub readable_there : 1 ≤ n → address % 2 ^ 32 + n ≤ e.readable → Some e.region ≡ if_reached Read (address % 2 ^ 32) n found
    readable_there some fits = reached e.region Read (address % 2 ^ 32) n some (omega (arith, fits, entry_is.readable)) ∙ ap (if_reached Read (address % 2 ^ 32) n) seen_there

    pub unreadable_there : 1 ≤ n → e.readable < address % 2 ^ 32 + n → None ≡ if_reached Read (address % 2 ^ 32) n found
    unreadable_there some far = unreached e.region Read (address % 2 ^ 32) n some (omega (arith, far, entry_is.readable)) ∙ ap (if_reached Read (address % 2 ^ 32) n) seen_there

    pub writable_there : 1 ≤ n → address % 2 ^ 32 + n ≤ e.writable → Some e.region ≡ if_reached Write (address % 2 ^ 32) n found
    writable_there some fits = reached e.region Write (address % 2 ^ 32) n some (omega (arith, fits, entry_is.writable)) ∙ ap (if_reached Write (address % 2 ^ 32) n) seen_there

    pub unwritable_there : 1 ≤ n → e.writable < address % 2 ^ 32 + n → None ≡ if_reached Write (address % 2 ^ 32) n found
    unwritable_there some far = unreached e.region Write (address % 2 ^ 32) n some (omega (arith, far, entry_is.writable)) ∙ ap (if_reached Write (address % 2 ^ 32) n) seen_there

    pub changeable_there : 1 ≤ n → address % 2 ^ 32 + n ≤ e.readable → address % 2 ^ 32 + n ≤ e.writable
        → Some e.region ≡ if_reached Write (address % 2 ^ 32) n (if_reached Read (address % 2 ^ 32) n found)
    changeable_there some reads writes =
        reached_whole e.region Write (address % 2 ^ 32) n some (omega (arith, writes, entry_is.writable)) ∙ ap (if_reached Write (address % 2 ^ 32) n) (readable_there some reads)

    pub unchangeable_there : 1 ≤ n → address % 2 ^ 32 + n ≤ e.readable → e.writable < address % 2 ^ 32 + n
        → None ≡ if_reached Write (address % 2 ^ 32) n (if_reached Read (address % 2 ^ 32) n found)
    unchangeable_there some reads far =
        unreached_whole e.region Write (address % 2 ^ 32) n (omega (arith, far, entry_is.writable)) ∙ ap (if_reached Write (address % 2 ^ 32) n) (readable_there some reads)

-- ---- one region more

-- an entry behind others, with none between
abbrev with_entry : List Entry → ℕ → Entry → Entry → List Entry
with_entry [] k none e = set (replicate (suc k) none) k e
with_entry (x ∷ es) k none e = x ∷ with_entry es k none e

set_behind : (es : List Entry) (k place : ℕ) (none e : Entry) → place ≡ length es + k → set (es ++ replicate (suc k) none) place e ≡ with_entry es k none e
set_behind [] k place none e at = let same : place ≡ k = omega (arith, at) in ap (λ n. set (replicate (suc k) none) n e) same
set_behind (x ∷ es) k place none e at =
    let next : place ≡ suc (length es + k) = omega (arith, at) in
    ap (λ n. set (x ∷ (es ++ replicate (suc k) none)) n e) next ∙ ap (λ xs. x ∷ xs) (set_behind es k (length es + k) none e refl)

length_with : (es : List Entry) (k : ℕ) (none e : Entry) → length (with_entry es k none e) ≡ length es + suc k
length_with [] k none e = omega (arith, length-set (replicate (suc k) none) k e, length-replicate (suc k) none)
length_with (x ∷ es) k none e = omega (arith, length_with es k none e)

module _ (none e : Entry) (nothing : none.region.handle.0 ≡ 0) (something : 1 ≤ e.region.handle.0) where
  held_behind : (k : ℕ) → held (set (replicate (suc k) none) k e) ≡ e.region ∷ []
  held_behind zero =
      let own : (e.region.handle.0 == 0) ≡ false = grind (arith, nat_tests, something) in
      rw own refl
  held_behind (suc k) =
      let empty : (none.region.handle.0 == 0) ≡ true = grind (arith, nat_tests, nothing) in
      rw empty (held_behind k)

  held_with : (es : List Entry) (k : ℕ) → held (with_entry es k none e) ≡ held es ++ e.region ∷ []
  held_with [] k = held_behind k
  held_with (x ∷ es) k = by_none (x.region.handle.0 == 0) (held_with es k)
    where
      by_none : (b : Bool) → held (with_entry es k none e) ≡ held es ++ e.region ∷ []
          → (if b then held (with_entry es k none e) else x.region ∷ held (with_entry es k none e)) ≡ (if b then held es else x.region ∷ held es) ++ e.region ∷ []
      by_none true rest = rest
      by_none false rest = ap (λ xs. x.region ∷ xs) rest

  pub held_more : (es : List Entry) (k place : ℕ) → place ≡ length es + k → held (set (es ++ replicate (suc k) none) place e) ≡ held es ++ e.region ∷ []
  held_more es k place at = ap held (set_behind es k place none e at) ∙ held_with es k

  module _ (empty : (n : ℕ) → IsEntry n none) where
    numbered_behind : (n k : ℕ) → IsEntry (n + k) e → Numbered n (set (replicate (suc k) none) k e)
    numbered_behind n zero is = (subst (λ (m : ℕ). IsEntry m e) (omega arith) is, tt)
    numbered_behind n (suc k) is = (empty n, numbered_behind (suc n) k (subst (λ (m : ℕ). IsEntry m e) (omega arith) is))

    pub numbered_more : (n : ℕ) (es : List Entry) (k : ℕ) → Numbered n es → IsEntry (n + (length es + k)) e → Numbered n (with_entry es k none e)
    numbered_more n [] k all is =
        let same : n + (0 + k) ≡ n + k = omega arith in
        numbered_behind n k (subst (λ (m : ℕ). IsEntry m e) same is)
    numbered_more n (x ∷ es) k all is = (all.0, numbered_more (suc n) es k all.1 (subst (λ (m : ℕ). IsEntry m e) (omega arith) is))

    pub view_more : (es : List Entry) (k place : ℕ) → place ≡ length es + k → IsView es → IsEntry place e → e.region.handle.0 ≡ place → IsView (set (es ++ replicate (suc k) none) place e)
    view_more es k place at is own number = subst IsView (sym (set_behind es k place none e at)) (record {
      numbered = numbered_more 0 es k is.numbered (subst (λ (m : ℕ). IsEntry m e) (omega (arith, at)) own);
      few = λ above all.
          let last : e.region.handle.0 < above = at_end (held es) above (subst (λ xs. All (λ region. region.handle.0 < above) xs) (held_with es k) all) in
          omega (arith, length_with es k none e, last, number, at);
    })
      where
        at_end : (rs : List HeldRegion) (above : ℕ) → All (λ region. region.handle.0 < above) (rs ++ e.region ∷ []) → e.region.handle.0 < above
        at_end [] above all = all 0 e.region (omega arith)
        at_end (r ∷ rs) above all = at_end rs above (λ i d within. all (suc i) d (omega (arith, within)))

  -- what is put behind entries, of which there are none at its place
  pub put_held : (items resized : List Entry) (place : ℕ) → length items ≤ place → resized ≡ take (place + 1) items ++ replicate (place + 1 - length items) none → held (set resized place e) ≡ held items ++ e.region ∷ []
  put_held items resized place behind are =
      let all : take (place + 1) items ≡ items = take_all (place + 1) items (omega (arith, behind)) in
      let more : place + 1 - length items ≡ suc (place - length items) = omega (arith, behind) in
      let spread : resized ≡ items ++ replicate (suc (place - length items)) none = are ∙ (ap (λ xs. xs ++ replicate (place + 1 - length items) none) all ∙ ap (λ k. items ++ replicate k none) more) in
      ap (λ xs. held (set xs place e)) spread ∙ held_more items (place - length items) place (omega (arith, behind))

  pub put_view : ((n : ℕ) → IsEntry n none) → (items resized : List Entry) (place : ℕ) → IsView items → length items ≤ place → resized ≡ take (place + 1) items ++ replicate (place + 1 - length items) none
      → IsEntry place e → e.region.handle.0 ≡ place → IsView (set resized place e)
  put_view empty items resized place is behind are own number =
      let all : take (place + 1) items ≡ items = take_all (place + 1) items (omega (arith, behind)) in
      let more : place + 1 - length items ≡ suc (place - length items) = omega (arith, behind) in
      let spread : resized ≡ items ++ replicate (suc (place - length items)) none = are ∙ (ap (λ xs. xs ++ replicate (place + 1 - length items) none) all ∙ ap (λ k. items ++ replicate k none) more) in
      subst (λ xs. IsView (set xs place e)) (sym spread) (view_more empty items (place - length items) place (omega (arith, behind)) is own number)
