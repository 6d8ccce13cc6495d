-- Each step keeps the board's rule.
use Rattle.std.proofs.Common.{◌≡◌, ◌≢◌, ◌<◌, ℕ, zero, suc, ◌+◌, ◌-◌, ◌≤◌, List, [], ◌∷◌, ◌++◌, length, set, true, false, true≢false, refl, sym, ap, ◌∙◌, subst, ⊎_elim, inl, inr, arith, length-append}
use Rattle.std.specs.List.{slice_index, sum_by}
use Rattle.std.proofs.lemmas.List.Sums.{sum_by-cons, sum_by-append, sum_by_push}
use mathlib.Core.Option.{some, none, some-ne-none, some-injective}
use mathlib.Core.List.{IsPrefix}
use lib.ListN.{get_elem?}
use Rattle.atomic_table.specs.Table.{State, Me, step, Allows, Splits, Joins, opening, keeps}
use Rattle.atomic_table.proofs.Lists.{at_set, at_snoc, set_here}
use Rattle.client_threads.specs.declared.board.View.{View}
use Rattle.access_core.specs.Cores.{Core}
use Rattle.client_threads.specs.Boards.{all_shares, keeper_view, front_view, spent, united, rested, sum_to, Fits, IsKept, Compared, Written, Checked, Told}
use Rattle.client_threads.proofs.Fronts.{prefix_self, prefix_trans}

off : false ≡ true → ⊥
off e = true≢false (sym e)

nothing : (xs : List Core) → IsPrefix [] xs
nothing xs = (xs, refl)

-- sums over all views
sum_set : (f : View → ℕ) (views : List View) (id : ℕ) (v w : View) → get_elem? views id ≡ some v → sum_by f (set views id w) + f v ≡ sum_by f views + f w
sum_set f [] id v w e = absurd (some-ne-none v (sym e))
sum_set f (x ∷ xs) zero v w e = omega (arith, sum_by-cons f x xs, sum_by-cons f w xs, ap f (some-injective x v e))
sum_set f (x ∷ xs) (suc id) v w e = omega (arith, sum_by-cons f x xs, sum_by-cons f x (set xs id w), sum_set f xs id v w e)

sum_at : (f : View → ℕ) (views : List View) (id : ℕ) (v : View) → get_elem? views id ≡ some v → f v ≤ sum_by f views
sum_at f [] id v e = absurd (some-ne-none v (sym e))
sum_at f (x ∷ xs) zero v e = omega (arith, sum_by-cons f x xs, ap f (some-injective x v e))
sum_at f (x ∷ xs) (suc id) v e = omega (arith, sum_by-cons f x xs, sum_at f xs id v e)

-- where the one sum is nothing, the other is
sum_none : (s g : View → ℕ) (views : List View) → ((j : ℕ) (u : View) → get_elem? views j ≡ some u → s u ≡ 0 → g u ≡ 0) → sum_by s views ≡ 0 → sum_by g views ≡ 0
sum_none s g [] idle e = refl
sum_none s g (x ∷ xs) idle e =
    let here : s x ≡ 0 = omega (arith, sum_by-cons s x xs, e) in
    let rest : sum_by s xs ≡ 0 = omega (arith, sum_by-cons s x xs, e) in
    let mine : g x ≡ 0 = idle 0 x refl here in
    omega (arith, sum_by-cons g x xs, mine, sum_none s g xs (λ j u at. idle (suc j) u at) rest)

-- who has the whole of the one has the whole of the other
pub sum_alone : (s g : View → ℕ) (views : List View) (id : ℕ) (v : View) → get_elem? views id ≡ some v → ((j : ℕ) (u : View) → get_elem? views j ≡ some u → s u ≡ 0 → g u ≡ 0) → sum_by s views ≡ s v
    → sum_by g views ≡ g v
sum_alone s g [] id v at idle e = absurd (some-ne-none v (sym at))
sum_alone s g (x ∷ xs) zero v at idle e =
    let same : x ≡ v = some-injective x v at in
    let rest : sum_by s xs ≡ 0 = omega (arith, sum_by-cons s x xs, e, ap s same) in
    omega (arith, sum_by-cons g x xs, sum_none s g xs (λ j u there. idle (suc j) u there) rest, ap g same)
sum_alone s g (x ∷ xs) (suc id) v at idle e =
    let most : s v ≤ sum_by s xs = sum_at s xs id v at in
    let here : s x ≡ 0 = omega (arith, sum_by-cons s x xs, e, most) in
    let rest : sum_by s xs ≡ s v = omega (arith, sum_by-cons s x xs, e, here) in
    let mine : g x ≡ 0 = idle 0 x refl here in
    omega (arith, sum_by-cons g x xs, mine, sum_alone s g xs id v at (λ j u there. idle (suc j) u there) rest)

abbrev shares : View → ℕ
shares v = v.share

-- a number for each place that a view has, summed
abbrev pub at_places : (ℕ → ℕ) → View → ℕ
at_places f v = sum_by f v.own

fits_set : (seat : ℕ) (now : List Core) (views : List View) (id : ℕ) (w : View) → ((j : ℕ) (u : View) → j ≢ id → get_elem? views j ≡ some u → Fits seat now j u) → Fits seat now id w
    → (j : ℕ) (u : View) → get_elem? (set views id w) j ≡ some u → Fits seat now j u
fits_set seat now views id w others mine j u e =
    ⊎_elim
    (λ (x : (j ≡ id) × (w ≡ u)). subst (λ (y : ℕ × View). Fits seat now y.0 y.1) (λ i. (sym x.0 i, x.1 i)) mine)
    (λ (x : (j ≢ id) × (get_elem? views j ≡ some u)). others j u x.0 x.1)
    (at_set views id j w u e)

front_fits : (seat id : ℕ) (left all : List Core) (share : ℕ) (own : List ℕ) → IsPrefix left all → (share ≡ 0 → own ≡ []) → Fits seat all id (front_view left share own)
front_fits seat id left all share own p idle = record { one = λ e. absurd (off e); begins = p; shown = nothing all; idle = idle }

spent_fits : (seat id : ℕ) (all : List Core) → Fits seat all id spent
spent_fits seat id all = front_fits seat id [] all 0 [] (nothing all) (λ _. refl)

none_idle : (share : ℕ) → 0 < share → share ≡ 0 → {A : Type 0} → A
none_idle share positive empty {A} = absurd (omega (arith, positive, empty))

pub begins : (words : List ℕ) → IsKept (opening words [] (keeper_view [] all_shares []))
begins words = record { seat = 0; all = []; fits = one; whole = refl; once = λ f. refl }
  where
    first : Fits 0 [] 0 (keeper_view [] all_shares [])
    first = record { one = λ _. (refl, refl); begins = nothing []; shown = nothing []; idle = λ _. refl }

    one : (id : ℕ) (v : View) → get_elem? (keeper_view [] all_shares [] ∷ []) id ≡ some v → Fits 0 [] id v
    one zero v e = subst (Fits 0 [] 0) (some-injective _ _ e) first
    one (suc id) v e = absurd (some-ne-none v (sym e))

snoc_length : {A : Type 0} (xs : List A) (x : A) → length (xs ++ x ∷ []) ≡ suc (length xs)
snoc_length xs x = omega (arith, length-append xs (x ∷ []))

-- the writer adds a state, which is its own
pub writes : (slots id : ℕ) (v : View) (core : Core) (f : ℕ → ℕ) → v.writes ≡ true → 0 < v.share
    → Allows IsKept slots id (v, []) 0 f (Written (step slots 0 0 0 (some core)) (v, []))
writes slots id v core f writer positive s h wide at small =
    let was = h.fits id v at in
    let mine = was.one writer in
    let w = keeper_view (v.left ++ core ∷ []) v.share (v.own ++ length v.left ∷ []) in
    let all = h.all ++ core ∷ [] in
    let same : v.left ++ core ∷ [] ≡ all = ap (λ l. l ++ core ∷ []) mine.1 in (
      w,
      keeps,
      tt,
      record {
        seat = h.seat;
        all = all;
        fits = fits_set h.seat all s.views id w
            (λ j u apart e. let old = h.fits j u e in record {
              one = λ k. absurd (apart ((old.one k).0 ∙ sym mine.0));
              begins = prefix_trans u.left h.all all old.begins (core ∷ [], refl);
              shown = prefix_trans u.shown h.all all old.shown (core ∷ [], refl);
              idle = old.idle;
            })
            (record { one = λ _. (mine.0, same); begins = subst (λ l. IsPrefix l all) (sym same) (prefix_self all); shown = nothing all; idle = λ empty. none_idle v.share positive empty });
        whole = omega (arith, sum_set shares s.views id v w at, h.whole);
        once = λ g.
            let turn = sum_set (at_places g) s.views id v w at in
            let more : at_places g w ≡ at_places g v + g (length v.left) = sum_by_push g v.own (length v.left) in
            let longer : sum_to g (length all) ≡ sum_to g (length h.all) + g (length h.all) = ap (sum_to g) (snoc_length h.all core) in
            let there : g (length v.left) ≡ g (length h.all) = ap (λ l. g (length l)) mine.1 in
            omega (arith, turn, more, longer, there, h.once g);
      },
      (λ c said. ap (λ d. (keeper_view (v.left ++ d ∷ []) v.share (v.own ++ length v.left ∷ []), [])) (some-injective core c said), subst (λ l. IsPrefix v.shown l) (sym mine.1) was.shown),
    )

-- the writer is told of what it was shown, and whether all places are its own
pub checks : (slots id : ℕ) (v : View) → v.writes ≡ true → Allows IsKept slots id (v, []) 0 (λ n. n) (Checked (step slots 0 0 0 none) (v, []))
checks slots id v writer s h wide at small =
    let was = h.fits id v at in
    let mine = was.one writer in
    let w = rested v in (
      w,
      keeps,
      tt,
      record {
        seat = h.seat;
        all = h.all;
        fits = fits_set h.seat h.all s.views id w (λ j u apart e. h.fits j u e) (record { one = was.one; begins = was.begins; shown = nothing h.all; idle = was.idle });
        whole = omega (arith, sum_set shares s.views id v w at, h.whole);
        once = λ g. omega (arith, sum_set (at_places g) s.views id v w at, h.once g);
      },
      (
        refl,
        subst (λ l. IsPrefix v.shown l) (sym mine.1) was.shown,
        λ full g.
            let only = sum_alone shares (at_places g) s.views id v at (λ j u there empty. ap (sum_by g) ((h.fits j u there).idle empty)) (h.whole ∙ sym full) in
            sym only ∙ (h.once g ∙ ap (λ l. sum_to g (length l)) (sym mine.1)),
      ),
    )

-- of two beginnings of one list one begins the other
compared : (xs ys all : List Core) → IsPrefix xs all → IsPrefix ys all → Compared xs ys
compared [] ys all p q = inl (ys, refl)
compared (x ∷ xs) [] all p q = inr (x ∷ xs, refl)
compared (x ∷ xs) (y ∷ ys) [] p q = absurd (cc (p.1))
compared (x ∷ xs) (y ∷ ys) (z ∷ zs) p q =
    let heads : x ≡ y = cc (p.1, q.1) in
    ⊎_elim
    (λ (r : IsPrefix xs ys). inl (r.0, cc (heads, r.1)))
    (λ (r : IsPrefix ys xs). inr (r.0, cc (heads, r.1)))
    (compared xs ys zs (p.0, cc (p.1)) (q.0, cc (q.1)))

-- any seat is told how what it was shown stands to what it has seen
tells : (slots id : ℕ) (v : View) → Allows IsKept slots id (v, []) 0 (λ n. n) (Told (step slots 0 0 0 none) (v, []))
tells slots id v s h wide at small =
    let was = h.fits id v at in
    let w = rested v in (
      w,
      keeps,
      tt,
      record {
        seat = h.seat;
        all = h.all;
        fits = fits_set h.seat h.all s.views id w (λ j u apart e. h.fits j u e) (record { one = was.one; begins = was.begins; shown = nothing h.all; idle = was.idle });
        whole = omega (arith, sum_set shares s.views id v w at, h.whole);
        once = λ g. omega (arith, sum_set (at_places g) s.views id v w at, h.once g);
      },
      (refl, compared v.left v.shown h.all was.begins was.shown, omega (arith, sum_at shares s.views id v at, h.whole)),
    )

pub tells_as : (slots id : ℕ) (me : Me Core View) → me.1 ≡ [] → Allows IsKept slots id me 0 (λ n. n) (Told (step slots 0 0 0 none) me)
tells_as slots id me bare = subst (λ (c : List (ℕ × Core)). Allows IsKept slots id (me.0, c) 0 (λ n. n) (Told (step slots 0 0 0 none) (me.0, c))) (sym bare) (tells slots id me.0)

-- a seat is cut in two: of what it has nothing is lost, and nothing is doubled
cuts : (id : ℕ) (v a b : View) (s : State Core View) (h : IsKept s) → get_elem? s.views id ≡ some v → Fits h.seat h.all id a → ((j : ℕ) → Fits h.seat h.all j b) → a.share + b.share ≡ v.share
    → ((g : ℕ → ℕ) → sum_by g a.own + sum_by g b.own ≡ sum_by g v.own) → IsKept record { words = s.words; homes = s.homes; views = set s.views id a ++ b ∷ [] }
cuts id v a b s h at first second share own = record {
  seat = h.seat;
  all = h.all;
  fits = λ j u e. ⊎_elim
      (λ (was : get_elem? (set s.views id a) j ≡ some u). fits_set h.seat h.all s.views id a (λ i y _ there. h.fits i y there) first j u was)
      (λ (same : b ≡ u). subst (Fits h.seat h.all j) same (second j))
      (at_snoc (set s.views id a) b u j e);
  whole = omega (arith, sum_by_push shares (set s.views id a) b, sum_set shares s.views id v a at, h.whole, share);
  once = λ g. omega (arith, sum_by_push (at_places g) (set s.views id a) b, sum_set (at_places g) s.views id v a at, h.once g, own g);
}

no_sum : (g : ℕ → ℕ) → sum_by g [] ≡ 0
no_sum g = refl

-- all that a front has goes to a new seat
pub moves : (id : ℕ) (v : View) → v.writes ≡ false → Splits IsKept id v spent v
moves id v quiet s h at =
    let was = h.fits id v at in
    cuts id v spent v s h at (spent_fits h.seat id h.all)
    (λ j. record { one = λ e. absurd (off (sym quiet ∙ e)); begins = was.begins; shown = was.shown; idle = was.idle })
    (omega arith) (λ g. omega (arith, no_sum g))

-- the writer gives away all share and all places that it has
pub gives : (id : ℕ) (v : View) → v.writes ≡ true → Splits IsKept id v (keeper_view v.left 0 []) (front_view v.left v.share v.own)
gives id v writer s h at =
    let was = h.fits id v at in
    cuts id v (keeper_view v.left 0 []) (front_view v.left v.share v.own) s h at
    (record { one = λ _. was.one writer; begins = was.begins; shown = nothing h.all; idle = λ _. refl })
    (λ j. front_fits h.seat j v.left h.all v.share v.own was.begins was.idle) (omega arith) (λ g. omega (arith, no_sum g))

-- what a seat has seen goes to a new one, without a share
pub looks : (id : ℕ) (v : View) → Splits IsKept id v v (front_view v.left 0 [])
looks id v s h at =
    let was = h.fits id v at in
    cuts id v v (front_view v.left 0 []) s h at was (λ j. front_fits h.seat j v.left h.all 0 [] was.begins (λ _. refl)) (omega arith) (λ g. omega (arith, no_sum g))

-- one share goes to a new front
pub deals : (id : ℕ) (v : View) → 1 < v.share → Splits IsKept id v (front_view v.left (v.share - 1) v.own) (front_view v.left 1 [])
deals id v some_more s h at =
    let was = h.fits id v at in
    cuts id v (front_view v.left (v.share - 1) v.own) (front_view v.left 1 []) s h at
    (front_fits h.seat id v.left h.all (v.share - 1) v.own was.begins (λ empty. absurd (omega (arith, empty, some_more))))
    (λ j. front_fits h.seat j v.left h.all 1 [] was.begins (λ empty. absurd (omega (arith, empty))))
    (omega (arith, some_more))
    (λ g. omega (arith, no_sum g))

-- a seat gets all that another has
pub unites : (id : ℕ) (v : View) (other : ℕ) (w : View) → Joins IsKept id v other w (united v w) spent
unites id v other w s h at apart there =
    let u = united v w in
    let mine = h.fits id v at in
    let once_set = set s.views id u in
    let theirs : Fits h.seat h.all other w = ⊎_elim (λ (t : (other ≡ id) × (u ≡ w)). absurd (apart t.0)) (λ (t : (other ≢ id) × (get_elem? s.views other ≡ some w)). h.fits other w t.1) (at_set s.views id other u w there) in
    record {
      seat = h.seat;
      all = h.all;
      fits = fits_set h.seat h.all once_set other spent
          (λ j x _ e. fits_set h.seat h.all s.views id u (λ i y _ e'. h.fits i y e')
          (record { one = mine.one; begins = mine.begins; shown = theirs.begins; idle = λ empty. both (mine.idle (omega (arith, empty))) (theirs.idle (omega (arith, empty))) }) j x e)
          (spent_fits h.seat other h.all);
      whole = omega (arith, sum_set shares once_set other w spent there, sum_set shares s.views id v u at, h.whole);
      once = λ g.
          let far = sum_set (at_places g) once_set other w spent there in
          let near = sum_set (at_places g) s.views id v u at in
          let sum : at_places g u ≡ at_places g v + at_places g w = sum_by-append g v.own w.own in
          omega (arith, far, near, sum, no_sum g, h.once g);
    }
  where
    both : {a b : List ℕ} → a ≡ [] → b ≡ [] → a ++ b ≡ []
    both p q = λ i. p i ++ q i

pub writes_as : (slots id : ℕ) (me : Me Core View) (core : Core) (f : ℕ → ℕ) → me.1 ≡ [] → me.0.writes ≡ true → 0 < me.0.share
    → Allows IsKept slots id me 0 f (Written (step slots 0 0 0 (some core)) me)
writes_as slots id me core f bare writer positive = subst (λ (c : List (ℕ × Core)). Allows IsKept slots id (me.0, c) 0 f (Written (step slots 0 0 0 (some core)) (me.0, c))) (sym bare) (writes slots id me.0 core f writer positive)

pub checks_as : (slots id : ℕ) (me : Me Core View) → me.1 ≡ [] → me.0.writes ≡ true → Allows IsKept slots id me 0 (λ n. n) (Checked (step slots 0 0 0 none) me)
checks_as slots id me bare writer = subst (λ (c : List (ℕ × Core)). Allows IsKept slots id (me.0, c) 0 (λ n. n) (Checked (step slots 0 0 0 none) (me.0, c))) (sym bare) (checks slots id me.0 writer)

-- Who has no share adds no state: in no state of the table may it
pub no_share_no_section : (slots id : ℕ) (v : View) (core : Core) (f : ℕ → ℕ) (s : State Core View) → v.share ≡ 0 → IsKept s → length s.homes ≡ slots → get_elem? s.views id ≡ some v → slice_index s.words 0 < 18446744073709551616
    → Allows IsKept slots id (v, []) 0 f (Written (step slots 0 0 0 (some core)) (v, [])) → ⊥
no_share_no_section slots id v core f s poor h wide at small allowed =
    let made = allowed s h wide at small in
    let w = made.0 in
    let is : w ≡ keeper_view (v.left ++ core ∷ []) v.share (v.own ++ length v.left ∷ []) = ap (λ m. m.0) (made.4.0 core refl) in
    let there : get_elem? (set s.views id w) id ≡ some w = set_here s.views id w (at_within s.views id v at) in
    let idle : w.own ≡ [] = (made.3.fits id w there).idle (ap (λ u. u.share) is ∙ poor) in
    let long : length (v.own ++ length v.left ∷ []) ≡ 0 = ap length (sym (ap (λ u. u.own) is) ∙ idle) in
    omega (arith, long, snoc_length v.own (length v.left))
  where
    at_within : (l : List View) (i : ℕ) (a : View) → get_elem? l i ≡ some a → i < length l
    at_within [] i a e = absurd (some-ne-none a (sym e))
    at_within (x ∷ xs) zero a e = omega arith
    at_within (x ∷ xs) (suc i) a e = let rest : i < length xs = at_within xs i a e in omega (arith, rest)
