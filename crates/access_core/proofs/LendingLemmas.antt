-- The regions that a packet in flight holds, as they are lent one after another.
use Rattle.std.proofs.Common.{◌≡◌, ℕ, zero, suc, ◌+◌, ◌*◌, ◌^◌, ◌<◌, List, [], ◌∷◌, ◌++◌, length, get_or, refl, sym, ◌∙◌, ap, subst, true, false, Option, Some, None, arith, append_assoc}
use Rattle.std.proofs.Common.{All, map, filter, not, ◌==◌, cond, option_map, option_to_list}
use Rattle.access_core.proofs.Terms.{All-filter, All-map, Entry, HeldRights, LentRegion, RegionRights, Right, Rights, Start, rights_that, filter_of_map_range_with_len_more}
use Rattle.access_core.proofs.Terms.{get_or-range_with_len, held_region, is_within, length-range_with_len, lent_if_held, lent_region, lent_whole, map-append, memory_from}
use Rattle.access_core.proofs.Terms.{range_with_len, region_length, region_lengths, region_numbered, rights_held, view_whole, zip}
use Rattle.std.proofs.lemmas.List.{length-append}
use Rattle.executor.specs.declared.held.HeldRegion.{HeldRegion as Borrowed}
use Rattle.policy.specs.declared.object.Object.TheVariants as object

-- ---- lengths of regions

-- the bytes of a whole region lie within it
pub whole-within : (lengths : List ℕ) (number size : ℕ) → size ≡ region_length lengths number → 0 < region_length lengths number → is_within lengths (number * 2 ^ 32) size ≡ true
whole-within lengths number size is some = grind arith

-- ---- regions by number

at-length : (pre xs : List ℕ) (x : ℕ) → get_or (pre ++ x ∷ xs) (length pre) 0 ≡ x
at-length [] xs x = refl
at-length (y ∷ pre) xs x = at-length pre xs x

rows-are : (f : ℕ × ℕ → RegionRights) (pre xs : List ℕ) (k : ℕ) → length pre ≡ k
    → map f (zip (range_with_len k (length xs)) xs) ≡ map (λ n. f (n, get_or (pre ++ xs) n 0)) (range_with_len k (length xs))
rows-are f pre [] k is = refl
rows-are f pre (x ∷ xs) k is =
    let long : length (pre ++ x ∷ []) ≡ k + 1 = omega (arith, length-append pre (x ∷ []), is) in
    let here : get_or (pre ++ x ∷ xs) k 0 ≡ x = subst (λ n. get_or (pre ++ x ∷ xs) n 0 ≡ x) is (at-length pre xs x) in
    let rest = rows-are f (pre ++ x ∷ []) xs (k + 1) long in
    let same : (pre ++ x ∷ []) ++ xs ≡ pre ++ x ∷ xs = append_assoc pre (x ∷ []) xs in
    let more = rest ∙ ap (λ (all : List ℕ). map (λ n. f (n, get_or all n 0)) (range_with_len (k + 1) (length xs))) same in
    λ i. f (k, sym here i) ∷ more i

module _ (start : Start) (es : List Entry) (all : HeldRights) where
  -- so many regions, those of them that are held, as they are lent
  abbrev pub lent_so_far : ℕ → List LentRegion
  lent_so_far count = map (lent_whole start es) (filter (λ region. not (region.rights.0 == 0)) (map (region_numbered start all) (range_with_len 1 count)))

  -- the next region is lent behind the others, if it is held
  pub lent-next : (count : ℕ) → lent_so_far (count + 1) ≡ lent_so_far count ++ option_to_list (lent_if_held start es (region_numbered start all (count + 1)))
  lent-next count = grind (
    arith,
    filter_of_map_range_with_len_more (λ (region : RegionRights). not (region.rights.0 == 0)) (region_numbered start all) 1 count (count + 1),
    map-append (lent_whole start es) (filter (λ (region : RegionRights). not (region.rights.0 == 0)) (map (region_numbered start all) (range_with_len 1 count)))
        (cond (not ((region_numbered start all (count + 1)).rights.0 == 0)) ((region_numbered start all (count + 1)) ∷ []) []),
  )

  -- so it is behind those that were lent before
  pub lent-behind : (count : ℕ) (before after : List Borrowed) (next : Option Borrowed) → map lent_region before ≡ lent_so_far count
      → option_map lent_region next ≡ lent_if_held start es (region_numbered start all (count + 1))
      → after ≡ before ++ option_to_list next → map lent_region after ≡ lent_so_far (count + 1)
  lent-behind count before after next are is behind = grind (arith, map-append, lent-next)

  -- all regions are those that the history tells
  pub lent-all : lent_so_far (length (region_lengths start.policy)) ≡ view_whole start es all
  lent-all = grind (arith, rows-are (held_region all) (0 ∷ []) (region_lengths start.policy) 1 refl)

  -- a region that is held, with its bytes, is lent so
  pub lent-held : (number : ℕ) (rights : Rights) (bytes : List ℕ) → rights ≡ rights_held all (object.Region (record { 0 = number })) → (rights.0 == 0) ≡ false
      → bytes ≡ memory_from start es (number * 2 ^ 32) (region_length (region_lengths start.policy) number)
      → Some (record { number = number; rights = rights; bytes = bytes }) ≡ lent_if_held start es (region_numbered start all number)
  lent-held number rights bytes are some is = grind arith

  -- one on which no right is held isn't lent
  pub lent-none : (number : ℕ) → ((right : Right) → all (object.Region (record { 0 = number })) right ≡ false) → lent_if_held start es (region_numbered start all number) ≡ None
  lent-none number none =
      let empty : rights_held all (object.Region (record { 0 = number })) ≡ record { 0 = 0 } = (λ i. rights_that (λ right. none right i)) in
      ap (λ (rights : Rights). lent_if_held start es (record { number = number; size = region_length (region_lengths start.policy) number; rights = rights })) empty

  -- those that were lent so far have the numbers up to theirs
  pub lent-below : (count : ℕ) (before : List Borrowed) → map lent_region before ≡ lent_so_far count → All (λ region. region.handle.0 < count + 1) before
  lent-below count before are =
      numbers before (subst (λ (regions : List LentRegion). All (λ region. region.number < count + 1) regions) (sym are)
      (All-map (λ (region : LentRegion). region.number < count + 1) (lent_whole start es) _
      (All-filter (λ (region : RegionRights). not (region.rights.0 == 0)) (λ (region : RegionRights). region.number < count + 1) _
      (All-map (λ (region : RegionRights). region.number < count + 1) (region_numbered start all) (range_with_len 1 count) up_to))))
    where
      up_to : All (λ number. number < count + 1) (range_with_len 1 count)
      up_to = grind (arith, length-range_with_len, get_or-range_with_len)

      numbers : (regions : List Borrowed) → All (λ region. region.number < count + 1) (map lent_region regions) → All (λ region. region.handle.0 < count + 1) regions
      numbers [] below i d known = absurd (omega (arith, known))
      numbers (r ∷ rs) below zero d known = below 0 (lent_region d) (omega arith)
      numbers (r ∷ rs) below (suc i) d known = numbers rs (λ j e inside. below (suc j) e (omega (arith, inside))) i d (omega (arith, known))
