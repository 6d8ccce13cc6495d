-- A listing is the rows of its kinds, object by object.
use Rattle.std.proofs.Common.{[], ◌≡◌, ℕ, ◌+◌, ◌-◌, ◌<◌, zero, suc, refl, Bool, List, ◌∷◌, ◌++◌, length, length-append, map, sym, ap, ◌∙◌, arith, append_assoc, append-nil, subst}
use Rattle.grants.proofs.Terms.{Object, Right, Rights, filter-append, map-append, object_of, range_with_len}
use Rattle.std.proofs.lemmas.List.FromFn.{map-range_with_len_more}
use Rattle.policy.specs.declared.object.Kind.{Kind}
use Rattle.policy.specs.Listing.{listing_by}

module _ (has_right : Object → Right → Bool) where
  listed-append : (xs ys : List Object) → listing_by has_right (xs ++ ys) ≡ listing_by has_right xs ++ listing_by has_right ys
  unfolding listing_by
  listed-append xs ys = grind (arith, filter-append, map-append)

  -- no object, no row
  pub listed-none : (rows : List (Object × Rights)) → rows ≡ rows ++ listing_by has_right []
  unfolding listing_by
  listed-none rows = sym (append-nil rows)

  -- the rows of one object more
  pub listed-more : (of : Kind) (before : ℕ) (first rows more : List (Object × Rights))
      → rows ≡ first ++ listing_by has_right (map (object_of of) (range_with_len 1 before)) → more ≡ rows ++ listing_by has_right (object_of of (before + 1) ∷ [])
      → more ≡ first ++ listing_by has_right (map (object_of of) (range_with_len 1 (before + 1)))
  listed-more of before first rows more so_far put =
      put ∙ ap (λ xs. xs ++ listing_by has_right (object_of of (before + 1) ∷ [])) so_far
      ∙ append_assoc first (listing_by has_right (map (object_of of) (range_with_len 1 before))) _
      ∙ ap (λ xs. first ++ xs) (sym (listed-append (map (object_of of) (range_with_len 1 before)) (object_of of (before + 1) ∷ [])))
      ∙ ap (λ xs. first ++ listing_by has_right xs) (sym (map-range_with_len_more (object_of of) 1 before (before + 1) (omega arith)))

  -- the rows of all kinds, put behind each other and behind the first rows
  pub listed-kinds : (first : List (Object × Rights)) (a r s k : List Object) →
      (((first ++ listing_by has_right a) ++ listing_by has_right r) ++ listing_by has_right s) ++ listing_by has_right k ≡ first ++ listing_by has_right (a ++ r ++ s ++ k)
  listed-kinds first a r s k = simp (listed-append, append_assoc)

  -- ---- where there is a row

  -- the rows of one object more are counted with those of the objects before
  counted : (of : Kind) (before : ℕ) → length (listing_by has_right (map (object_of of) (range_with_len 1 (before + 1))))
      ≡ length (listing_by has_right (map (object_of of) (range_with_len 1 before))) + length (listing_by has_right (object_of of (before + 1) ∷ []))
  counted of before =
      ap (λ xs. length (listing_by has_right xs)) (map-range_with_len_more (object_of of) 1 before (before + 1) (omega arith))
      ∙ ap length (listed-append (map (object_of of) (range_with_len 1 before)) (object_of of (before + 1) ∷ []))
      ∙ length-append (listing_by has_right (map (object_of of) (range_with_len 1 before))) _

  some-upto : (of : Kind) (before rest count : ℕ) → count ≡ before + 1 + rest → 0 < length (listing_by has_right (object_of of (before + 1) ∷ []))
      → 0 < length (listing_by has_right (map (object_of of) (range_with_len 1 count)))
  some-upto of before zero count is one =
      let last : count ≡ before + 1 = omega (arith, is) in
      subst (λ n. 0 < length (listing_by has_right (map (object_of of) (range_with_len 1 n)))) (sym last) (omega (arith, counted of before, one))
  some-upto of before (suc rest) count is one =
      let last : count ≡ (before + 1 + rest) + 1 = omega (arith, is) in
      let some = some-upto of before rest (before + 1 + rest) refl one in
      subst (λ n. 0 < length (listing_by has_right (map (object_of of) (range_with_len 1 n)))) (sym last) (omega (arith, counted of (before + 1 + rest), some))

  -- where an object has a row, so have the objects of its kind
  pub some-of_kind : (of : Kind) (before count : ℕ) → before < count → 0 < length (listing_by has_right (object_of of (before + 1) ∷ []))
      → 0 < length (listing_by has_right (map (object_of of) (range_with_len 1 count)))
  some-of_kind of before count within one = some-upto of before (count - (before + 1)) count (omega (arith, within)) one

  counted-both : (xs ys : List Object) → length (listing_by has_right (xs ++ ys)) ≡ length (listing_by has_right xs) + length (listing_by has_right ys)
  counted-both xs ys = ap length (listed-append xs ys) ∙ length-append (listing_by has_right xs) (listing_by has_right ys)

  -- the rows of all kinds are as many as those of each
  pub counted-kinds : (a r s k : List Object) → length (listing_by has_right (a ++ r ++ s ++ k))
      ≡ length (listing_by has_right a) + (length (listing_by has_right r) + (length (listing_by has_right s) + length (listing_by has_right k)))
  counted-kinds a r s k = omega (arith, counted-both (a ++ r ++ s) k, counted-both (a ++ r) s, counted-both a r)
