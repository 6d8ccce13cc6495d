-- Where a range lies that is known to lie whole in one region.
use Rattle.std.proofs.Common.{◌≡◌, ◌∙◌, sym, ℕ, suc, ◌+◌, ◌<◌, true, List, [], length, take, drop, get_or, ap, arith, inl, inr}
use Rattle.std.specs.Prelude.{slice_index_or}
use Rattle.std.proofs.lemmas.Bool.{cases_lt}
use Rattle.std.proofs.lemmas.List.{get_or_default, get_or_past}
use Rattle.regions.specs.declared.regions.RegionPlace.{RegionPlace}
use Rattle.regions.specs.Memory.{region_of, offset_of, region_bytes, bytes_from, lengths_of, is_within}
use Rattle.regions.specs.Place.{IsPlaceOf}
use Rattle.regions.proofs.Laws.{IsWithin-from_test}

module _ (regions : List (List ℕ)) (address size : ℕ) (test : is_within (lengths_of regions) address size ≡ true) where
  -- its region has a number from 1 on
  pub numbered_from_one : 0 < region_of address
  numbered_from_one = elim (cases_lt 0 (region_of address)) [
    | inl above ↦ above
    | inr none ↦ absurd (
        let first : region_of address ≡ 0 = omega (arith, none) in
        let empty : length (region_bytes regions (region_of address)) ≡ 0 = ap (λ n. length (region_bytes regions n)) first in
        let within = IsWithin-from_test regions address size test in
        omega (arith, empty, within.begins))
  ]

  -- it lies at the place of its first address
  pub placed : (place : RegionPlace) → place.index + 1 ≡ region_of address → place.offset ≡ offset_of address → IsPlaceOf regions address size place
  placed place index offset =
      let within = IsWithin-from_test regions address size test in
      let next : region_of address ≡ suc place.index = omega (arith, index) in
      let long : length (region_bytes regions (region_of address)) ≡ length (slice_index_or regions place.index []) = ap (λ n. length (region_bytes regions n)) next in
      record {
        index = index;
        offset = offset;
        inside = record {
          known = elim (cases_lt place.index (length regions)) [
            | inl below ↦ below
            | inr past ↦ absurd (let none : length (slice_index_or regions place.index []) ≡ 0 = ap length (get_or_past regions place.index [] past) in omega (arith, none, long, within.begins))
          ];
          fits = omega (arith, offset, long, within.ends);
        };
      }

  -- and its bytes are the part of its region from there on
  pub part_placed : (place : RegionPlace) (region part : List ℕ) → place.index + 1 ≡ region_of address → place.offset ≡ offset_of address
      → region ≡ get_or regions place.index region → part ≡ take size (drop place.offset region) → part ≡ bytes_from regions address size
  part_placed place region part index offset is read =
      let next : region_of address ≡ suc place.index = omega (arith, index) in
      let known = (placed place index offset).inside.known in
      let own : region ≡ region_bytes regions (region_of address) = is ∙ get_or_default regions place.index region [] known ∙ sym (ap (region_bytes regions) next) in
      read ∙ (λ i. take size (drop (offset i) (own i)))
