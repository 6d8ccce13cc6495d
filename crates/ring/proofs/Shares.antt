-- How shares unite to the parts of a machine, and how that stays when seats are cut, joined and stepped with.
use Rattle.std.proofs.Common.{◌≡◌, ◌≢◌, ℕ, zero, suc, ◌+◌, ◌<◌, ◌≤◌, Bool, true, false, List, [], ◌∷◌, ◌++◌, length, get_or, set, take, drop, eqb, refl, ap, ◌∙◌, sym, subst, arith, inl, inr, ⊎_elim, cond, get_or-set_same, get_or-set_other, length-set}
use Rattle.std.specs.Prelude.{sum_by, nat_lt}
use Rattle.std.proofs.lemmas.Bool.Decides.{nat_tests, eqb_tells, leb_tells}
use Rattle.std.proofs.lemmas.List.Sums.{sum_by-cons, sum_by_push}
use mathlib.Core.Option.{some, some-injective, some-ne-none}
use lib.ListN.{get_elem?}
use Rattle.atomic_table.proofs.Lists.{at_set, at_snoc}
use Rattle.ring_core.specs.declared.part.SeatPart.{SeatPart}
use Rattle.ring_core.specs.Parts.{nobody}
use Rattle.ring.specs.declared.share.Numbered.{Numbered}
use Rattle.ring.specs.Shares.{alone, numbered, AreOf, times_in, Unite}

-- ---- sums over the places of a list

module _ {A : Type 0} (f : A → ℕ) where
  pub sum_set : (xs : List A) (i : ℕ) (x y : A) → get_elem? xs i ≡ some x → sum_by f (set xs i y) + f x ≡ sum_by f xs + f y
  sum_set [] i x y e = absurd (some-ne-none x (sym e))
  sum_set (z ∷ xs) zero x y e = let s : f z ≡ f x = ap f (some-injective z x e) in omega (arith, s, sum_by-cons f z xs, sum_by-cons f y xs)
  sum_set (z ∷ xs) (suc i) x y e = let h : sum_by f (set xs i y) + f x ≡ sum_by f xs + f y = sum_set xs i x y e in omega (arith, h, sum_by-cons f z xs, sum_by-cons f z (set xs i y))

  one_of : (xs : List A) (i : ℕ) (x : A) → get_elem? xs i ≡ some x → f x ≤ sum_by f xs
  one_of [] i x e = absurd (some-ne-none x (sym e))
  one_of (z ∷ xs) zero x e = let s : f z ≡ f x = ap f (some-injective z x e) in omega (arith, s, sum_by-cons f z xs)
  one_of (z ∷ xs) (suc i) x e = let h : f x ≤ sum_by f xs = one_of xs i x e in omega (arith, h, sum_by-cons f z xs)

  -- two places have together no more than the whole
  pub two_of : (xs : List A) (i j : ℕ) (x y : A) → get_elem? xs i ≡ some x → get_elem? xs j ≡ some y → j ≢ i → f x + f y ≤ sum_by f xs
  two_of [] i j x y e g ne = absurd (some-ne-none x (sym e))
  two_of (z ∷ xs) zero zero x y e g ne = absurd (ne refl)
  two_of (z ∷ xs) zero (suc j) x y e g ne = let s : f z ≡ f x = ap f (some-injective z x e) in let h : f y ≤ sum_by f xs = one_of xs j y g in omega (arith, s, h, sum_by-cons f z xs)
  two_of (z ∷ xs) (suc i) zero x y e g ne = let s : f z ≡ f y = ap f (some-injective z y g) in let h : f x ≤ sum_by f xs = one_of xs i x e in omega (arith, s, h, sum_by-cons f z xs)
  two_of (z ∷ xs) (suc i) (suc j) x y e g ne = let h : f x + f y ≤ sum_by f xs = two_of xs i j x y e g (λ q. ne (ap suc q)) in omega (arith, h, sum_by-cons f z xs)

-- ---- one share

pub times_append : (number : ℕ) (xs ys : List Numbered) → times_in number (xs ++ ys) ≡ times_in number xs + times_in number ys
times_append number [] ys = omega arith
times_append number (x ∷ xs) ys = let h : times_in number (xs ++ ys) ≡ times_in number xs + times_in number ys = times_append number xs ys in omega (arith, h)

pub are_append : (parts : List SeatPart) (xs ys : List Numbered) → AreOf parts xs → AreOf parts ys → AreOf parts (xs ++ ys)
are_append parts [] ys a b = b
are_append parts (x ∷ xs) ys a b = (a.0, are_append parts xs ys a.1 b)

-- the first part and the others
pub times_cut : (number : ℕ) (xs : List Numbered) → times_in number (drop 1 xs) + times_in number (take 1 xs) ≡ times_in number xs
times_cut number [] = refl
times_cut number (x ∷ xs) = omega arith

pub are_rest : (parts : List SeatPart) (xs : List Numbered) → AreOf parts xs → AreOf parts (drop 1 xs)
are_rest parts [] a = a
are_rest parts (x ∷ xs) a = a.1

pub are_first : (parts : List SeatPart) (xs : List Numbered) → AreOf parts xs → AreOf parts (take 1 xs)
are_first parts [] a = a
are_first parts (x ∷ xs) a = (a.0, tt)

-- a share that doesn't have a number stays when the part of that number changes
eqb_yes : (a b : ℕ) → a ≡ b → eqb a b ≡ true
eqb_yes a b e = grind (arith, nat_tests)

pub are_set : (parts : List SeatPart) (number : ℕ) (part : SeatPart) (xs : List Numbered) → times_in number xs ≡ 0 → AreOf parts xs → AreOf (set parts number part) xs
are_set parts number part [] none a = tt
are_set parts number part (x ∷ xs) none a =
    elim (eqb_tells x.number number) [
      | inl g ↦ let one : cond {A = ℕ} (eqb x.number number) 1 0 ≡ 1 = ap (λ b. cond {A = ℕ} b 1 0) (eqb_yes x.number number g.1) in absurd (omega (arith, one, none))
      | inr g ↦ (get_or-set_other parts number x.number part nobody g.1 ∙ a.0, are_set parts number part xs (omega (arith, none)) a.1)
    ]

-- ---- all shares

pub times_alone : (number : ℕ) (part : SeatPart) → times_in number (alone number part) ≡ 1
times_alone number part = let one : cond {A = ℕ} (eqb number number) 1 0 ≡ 1 = ap (λ b. cond {A = ℕ} b 1 0) (eqb_yes number number refl) in omega (arith, one)

-- a step with a seat that has one part
pub unite_step : (parts : List SeatPart) (shares : List (List Numbered)) (seat number : ℕ) (part part' : SeatPart) → get_elem? shares seat ≡ some (alone number part) → number < length parts → Unite parts shares → Unite (set parts number part') (set shares seat (alone number part'))
unite_step parts shares seat number part part' at within u =
    record {
      own = λ other share e. ⊎_elim
          (λ t. subst (λ (s : List Numbered). AreOf (set parts number part') s) t.1 (get_or-set_same parts number part' nobody within, tt))
          (λ t.
          let both : times_in number (alone number part) + times_in number share ≤ sum_by (times_in number) shares = two_of (times_in number) shares seat other (alone number part) share at t.1 t.0 in
          let one : times_in number (alone number part) ≡ 1 = times_alone number part in
          let few : sum_by (times_in number) shares ≤ 1 = at_most (nat_lt number (length parts)) (sum_by (times_in number) shares) (u.once number) in
          are_set parts number part' share (omega (arith, both, one, few)) (u.own other share t.1))
          (at_set shares seat other (alone number part') share e);
      once = λ k.
          let s : sum_by (times_in k) (set shares seat (alone number part')) + times_in k (alone number part) ≡ sum_by (times_in k) shares + times_in k (alone number part') = sum_set (times_in k) shares seat (alone number part) (alone number part') at in
          let t : times_in k (alone number part) ≡ times_in k (alone number part') = refl in
          let e : sum_by (times_in k) (set shares seat (alone number part')) ≡ sum_by (times_in k) shares = omega (arith, s, t) in
          e ∙ u.once k ∙ ap (λ n. cond {A = ℕ} (nat_lt k n) 1 0) (sym (length-set parts number part'));
    }
  where
    at_most : (b : Bool) (m : ℕ) → m ≡ cond b 1 0 → m ≤ 1
    at_most true m e = omega arith
    at_most false m e = omega arith

-- a seat is cut in two
pub unite_cut : (parts : List SeatPart) (shares : List (List Numbered)) (seat : ℕ) (share : List Numbered) → get_elem? shares seat ≡ some share → Unite parts shares → Unite parts (set shares seat (drop 1 share) ++ take 1 share ∷ [])
unite_cut parts shares seat share at u =
    record {
      own = λ other found e. ⊎_elim
          (λ d. ⊎_elim
          (λ t. subst (λ (s : List Numbered). AreOf parts s) t.1 (are_rest parts share (u.own seat share at)))
          (λ t. u.own other found t.1)
          (at_set shares seat other (drop 1 share) found d))
          (λ d. subst (λ (s : List Numbered). AreOf parts s) d (are_first parts share (u.own seat share at)))
          (at_snoc (set shares seat (drop 1 share)) (take 1 share) found other e);
      once = λ k.
          let s : sum_by (times_in k) (set shares seat (drop 1 share)) + times_in k share ≡ sum_by (times_in k) shares + times_in k (drop 1 share) = sum_set (times_in k) shares seat share (drop 1 share) at in
          let p : sum_by (times_in k) (set shares seat (drop 1 share) ++ take 1 share ∷ []) ≡ sum_by (times_in k) (set shares seat (drop 1 share)) + times_in k (take 1 share) = sum_by_push (times_in k) (set shares seat (drop 1 share)) (take 1 share) in
          let c : times_in k (drop 1 share) + times_in k (take 1 share) ≡ times_in k share = times_cut k share in
          let e : sum_by (times_in k) (set shares seat (drop 1 share) ++ take 1 share ∷ []) ≡ sum_by (times_in k) shares = omega (arith, s, p, c) in
          e ∙ u.once k;
    }

-- two seats are joined, and the second is spent
pub unite_join : (parts : List SeatPart) (shares : List (List Numbered)) (seat other : ℕ) (share theirs : List Numbered) → get_elem? shares seat ≡ some share → get_elem? (set shares seat (share ++ theirs)) other ≡ some theirs → other ≢ seat → Unite parts shares → Unite parts (set (set shares seat (share ++ theirs)) other [])
unite_join parts shares seat other share theirs at at' ne u =
    let there : get_elem? shares other ≡ some theirs = ⊎_elim (λ t. absurd (ne t.0)) (λ t. t.1) (at_set shares seat other (share ++ theirs) theirs at') in
    let whole : AreOf parts (share ++ theirs) = are_append parts share theirs (u.own seat share at) (u.own other theirs there) in
    record {
      own = λ k found e. ⊎_elim
          (λ t. subst (λ (s : List Numbered). AreOf parts s) t.1 tt)
          (λ t. ⊎_elim (λ r. subst (λ (s : List Numbered). AreOf parts s) r.1 whole) (λ r. u.own k found r.1) (at_set shares seat k (share ++ theirs) found t.1))
          (at_set (set shares seat (share ++ theirs)) other k [] found e);
      once = λ k.
          let s : sum_by (times_in k) (set shares seat (share ++ theirs)) + times_in k share ≡ sum_by (times_in k) shares + times_in k (share ++ theirs) = sum_set (times_in k) shares seat share (share ++ theirs) at in
          let t : sum_by (times_in k) (set (set shares seat (share ++ theirs)) other []) + times_in k theirs ≡ sum_by (times_in k) (set shares seat (share ++ theirs)) + 0 = sum_set (times_in k) (set shares seat (share ++ theirs)) other theirs [] at' in
          let c : times_in k (share ++ theirs) ≡ times_in k share + times_in k theirs = times_append k share theirs in
          let e : sum_by (times_in k) (set (set shares seat (share ++ theirs)) other []) ≡ sum_by (times_in k) shares = omega (arith, s, t, c) in
          e ∙ u.once k;
    }

-- ---- the opening

pub are_numbered : (before parts : List SeatPart) → AreOf (before ++ parts) (numbered (length before) parts)
are_numbered before [] = tt
are_numbered before (part ∷ parts) = (here before part parts, subst2 before part parts (are_numbered (before ++ part ∷ []) parts))
  where
    here : (before : List SeatPart) (part : SeatPart) (parts : List SeatPart) → get_or (before ++ part ∷ parts) (length before) nobody ≡ part
    here [] part parts = refl
    here (p ∷ before) part parts = here before part parts

    assoc : (before : List SeatPart) (part : SeatPart) (parts : List SeatPart) → (before ++ part ∷ []) ++ parts ≡ before ++ part ∷ parts
    assoc [] part parts = refl
    assoc (p ∷ before) part parts = ap (λ xs. p ∷ xs) (assoc before part parts)

    longer : (before : List SeatPart) (part : SeatPart) → length (before ++ part ∷ []) ≡ suc (length before)
    longer [] part = refl
    longer (p ∷ before) part = ap suc (longer before part)

    subst2 : (before : List SeatPart) (part : SeatPart) (parts : List SeatPart) → AreOf ((before ++ part ∷ []) ++ parts) (numbered (length (before ++ part ∷ [])) parts) → AreOf (before ++ part ∷ parts) (numbered (suc (length before)) parts)
    subst2 before part parts h = subst (λ (n : ℕ). AreOf (before ++ part ∷ parts) (numbered n parts)) (longer before part) (subst (λ (xs : List SeatPart). AreOf xs (numbered (length (before ++ part ∷ [])) parts)) (assoc before part parts) h)

times_numbered : (k first : ℕ) (parts : List SeatPart) → (k < first → times_in k (numbered first parts) ≡ 0) × (first ≤ k → k < first + length parts → times_in k (numbered first parts) ≡ 1) × (first + length parts ≤ k → times_in k (numbered first parts) ≡ 0)
times_numbered k first [] = ((λ _. refl), (λ a b. absurd (omega (arith, a, b))), (λ _. refl))
times_numbered k first (part ∷ parts) =
    let h = times_numbered k (suc first) parts in
    let a : k < suc first → times_in k (numbered (suc first) parts) ≡ 0 = h.0 in
    let b : suc first ≤ k → k < suc first + length parts → times_in k (numbered (suc first) parts) ≡ 1 = h.1 in
    let c : suc first + length parts ≤ k → times_in k (numbered (suc first) parts) ≡ 0 = h.2 in
    elim (eqb_tells first k) [
      | inl g ↦
          let one : cond {A = ℕ} (eqb first k) 1 0 ≡ 1 = ap (λ b. cond {A = ℕ} b 1 0) (eqb_yes first k g.1) in
          let none : times_in k (numbered (suc first) parts) ≡ 0 = a (omega (arith, g.1)) in
          ((λ lt. absurd (omega (arith, g.1, lt))), (λ lo hi. omega (arith, one, none)), (λ le. absurd (omega (arith, g.1, le))))
      | inr g ↦
          let zero_ : cond {A = ℕ} (eqb first k) 1 0 ≡ 0 = ap (λ b. cond {A = ℕ} b 1 0) (eqb_no first k g.1) in (
            (λ lt. let r = a (omega (arith, lt)) in omega (arith, zero_, r)),
            (λ lo hi. let r = b (omega (arith, g.1, lo)) (omega (arith, hi)) in omega (arith, zero_, r)),
            (λ le. let r = c (omega (arith, le)) in omega (arith, zero_, r)),
          )
    ]
  where
    eqb_no : (a b : ℕ) → a ≢ b → eqb a b ≡ false
    eqb_no a b e = grind (arith, nat_tests)

pub unite_first : (parts : List SeatPart) → Unite parts (numbered 0 parts ∷ [])
unite_first parts =
    record {
      own = λ seat share e. first seat share e;
      once = λ k.
          let h = times_numbered k 0 parts in
          let inside : k < length parts → times_in k (numbered 0 parts) ≡ 1 = λ lt. h.1 (omega arith) (omega (arith, lt)) in
          let past : length parts ≤ k → times_in k (numbered 0 parts) ≡ 0 = λ le. h.2 (omega (arith, le)) in
          elim (leb_tells (length parts) k) [
            | inl g ↦ let t = past g.1 in let n : cond {A = ℕ} (nat_lt k (length parts)) 1 0 ≡ 0 = ap (λ b. cond {A = ℕ} b 1 0) (lt_no k (length parts) g.1) in omega (arith, t, n)
            | inr g ↦ let t = inside g.1 in let n : cond {A = ℕ} (nat_lt k (length parts)) 1 0 ≡ 1 = ap (λ b. cond {A = ℕ} b 1 0) (lt_yes k (length parts) g.1) in omega (arith, t, n)
          ];
    }
  where
    first : (seat : ℕ) (share : List Numbered) → get_elem? (numbered 0 parts ∷ []) seat ≡ some share → AreOf parts share
    first zero share e = subst (λ (s : List Numbered). AreOf parts s) (some-injective (numbered 0 parts) share e) (are_numbered [] parts)
    first (suc seat) share e = absurd (some-ne-none share (sym e))

    lt_yes : (a b : ℕ) → a < b → nat_lt a b ≡ true
    lt_yes a b e = grind (arith, nat_tests)

    lt_no : (a b : ℕ) → b ≤ a → nat_lt a b ≡ false
    lt_no a b e = grind (arith, nat_tests)
