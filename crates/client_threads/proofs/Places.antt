-- What stands at the places of sections, and what an end tells of them.
use Rattle.std.proofs.Common.{◌≡◌, ◌<◌, ◌≤◌, ℕ, zero, suc, ◌+◌, ◌==◌, List, [], ◌∷◌, ◌++◌, length, drop, nat_lt, refl, sym, ap, ◌∙◌, arith, length-append}
use Rattle.std.specs.Prelude.{if◌then◌else◌}
use Rattle.std.specs.List.{flat_map, sum_by}
use Rattle.std.proofs.lemmas.Bool.Decides.{nat_tests}
use Rattle.std.proofs.lemmas.List.Sums.{sum_by-append}
use mathlib.Core.List.{IsPrefix}
use Rattle.core_model.specs.History.{History}
use Rattle.core_model.specs.declared.entry.Entry.{Entry}
use Rattle.access_core.specs.Cores.{Core}
use Rattle.client_threads.specs.Boards.{AreAllBelow, FrontSeen, sum_to, times}
use Rattle.client_threads.specs.Lanes.{LaneSeen, own_of}
use Rattle.client_threads.specs.Sections.{AllFollow, IsFirst, entered, gone, last_of, state_at, whole, whole_at}
use Rattle.client_threads.specs.Settling.{IsClosed}
use Rattle.client_threads.proofs.Fronts.{prefix_length, prefix_trans}
use Rattle.client_threads.proofs.Sections.{last_snoc, step, whole_more}

snoc_length : (xs : List Core) (x : Core) → length (xs ++ x ∷ []) ≡ suc (length xs)
snoc_length xs x = omega (arith, length-append xs (x ∷ []))

-- ---- states by their places

state_last : (opened : Core) (left : List Core) → state_at opened left (length left) ≡ last_of opened left
state_last opened [] = refl
state_last opened (x ∷ xs) = state_last x xs

state_seen : (opened : Core) (xs ys : List Core) (k : ℕ) → IsPrefix xs ys → k ≤ length xs → state_at opened xs k ≡ state_at opened ys k
state_seen opened xs ys zero p le = refl
state_seen opened [] ys (suc k) p le = absurd (omega (arith, le))
state_seen opened (x ∷ xs) [] (suc k) p le = absurd (cc (p.1))
state_seen opened (x ∷ xs) (y ∷ ys) (suc k) p le =
    let heads : x ≡ y = cc (p.1) in
    ap (λ z. state_at z xs k) heads ∙ state_seen y xs ys k (p.0, cc (p.1)) (omega (arith, le))

module _ (opened : Core) (before : List Core) (core : Core) (left : List Core) (begins : IsPrefix (before ++ core ∷ []) left) where
  abbrev now : List Core
  now = before ++ core ∷ []

  is : length now ≡ suc (length before)
  is = snoc_length before core

  earlier : IsPrefix before left
  earlier = prefix_trans before now left (core ∷ [], refl) begins

  -- a section stands at its place
  pub state_before : state_at opened left (length before) ≡ last_of opened before
  state_before = sym (state_seen opened before left (length before) earlier (omega arith)) ∙ state_last opened before

  pub state_behind : state_at opened left (suc (length before)) ≡ core
  state_behind = sym (state_seen opened now left (suc (length before)) begins (omega (arith, is))) ∙ (ap (state_at opened now) (sym is) ∙ (state_last opened now ∙ last_snoc opened before core))

  pub stands_within : length before < length left
  stands_within = let long : length now ≤ length left = prefix_length now left begins in omega (arith, is, long)

-- ---- entries by places

whole_last : (e : List Entry) (opened : Core) (left : List Core) → whole_at e opened left (length left) ≡ whole e opened left
whole_last e opened [] = refl
whole_last e opened (x ∷ xs) = whole_last (e ++ gone opened x) x xs

whole_seen : (e : List Entry) (opened : Core) (xs ys : List Core) (k : ℕ) → IsPrefix xs ys → k ≤ length xs → whole_at e opened xs k ≡ whole_at e opened ys k
whole_seen e opened xs ys zero p le = refl
whole_seen e opened [] ys (suc k) p le = absurd (omega (arith, le))
whole_seen e opened (x ∷ xs) [] (suc k) p le = absurd (cc (p.1))
whole_seen e opened (x ∷ xs) (y ∷ ys) (suc k) p le =
    let heads : x ≡ y = cc (p.1) in
    ap (λ z. whole_at (e ++ gone opened z) z xs k) heads ∙ whole_seen (e ++ gone opened y) y xs ys k (p.0, cc (p.1)) (omega (arith, le))

whole_follows : (e : List Entry) (opened : Core) (left : List Core) (k : ℕ) → AllFollow opened left → k < length left → IsPrefix (whole_at e opened left k) (whole_at e opened left (suc k))
whole_follows e opened [] k all lt = absurd (omega (arith, lt))
whole_follows e opened (x ∷ xs) zero all lt = step e opened x all.0.follows
whole_follows e opened (x ∷ xs) (suc k) all lt = whole_follows (e ++ gone opened x) x xs k all.1 (omega (arith, lt))

dropped : (xs ys : List Entry) → drop (length xs) (xs ++ ys) ≡ ys
dropped [] ys = refl
dropped (x ∷ xs) ys = dropped xs ys

-- what a section entered that added these
pub entered_there : (opened : Core) (before left : List Core) (core : Core) (more : List Entry) → IsPrefix (before ++ core ∷ []) left
    → core.history ≡ record (last_of opened before).history { entries = (last_of opened before).history.entries ++ more } → entered opened left (length before) ≡ more
entered_there opened before left core more begins is =
    let now = before ++ core ∷ [] in
    let long : length now ≡ suc (length before) = snoc_length before core in
    let was : whole_at [] opened left (length before) ≡ whole [] opened before =
    sym (whole_seen [] opened before left (length before) (prefix_trans before now left (core ∷ [], refl) begins) (omega arith)) ∙ whole_last [] opened before in
    let became : whole_at [] opened left (suc (length before)) ≡ whole [] opened before ++ more =
    sym (whole_seen [] opened now left (suc (length before)) begins (omega (arith, long))) ∙ (ap (whole_at [] opened now) (sym long) ∙ (whole_last [] opened now ∙ whole_more [] opened before core more is)) in
    (λ i. drop (length (was i)) (became i)) ∙ dropped (whole [] opened before) more

-- ---- all of them

sums_grow : (g : Entry → ℕ) (old new : List Entry) → IsPrefix old new → sum_by g new ≡ sum_by g old + sum_by g (drop (length old) new)
sums_grow g old new p =
    let rest : drop (length old) new ≡ p.0 = ap (drop (length old)) (sym p.1) ∙ dropped old p.0 in
    omega (arith, ap (sum_by g) (sym p.1) ∙ sum_by-append g old p.0, ap (sum_by g) rest)

-- what is summed over the entries of the section at a place
abbrev summed : (Entry → ℕ) → Core → List Core → ℕ → ℕ
summed g opened left k = sum_by g (entered opened left k)

sums_states : (g : Entry → ℕ) (opened : Core) (left : List Core) (n : ℕ) → AllFollow opened left → n ≤ length left
    → sum_by g opened.history.entries + sum_to (summed g opened left) n ≡ sum_by g (whole_at [] opened left n)
sums_states g opened left zero all le = omega arith
sums_states g opened left (suc n) all le =
    let was = sums_states g opened left n all (omega (arith, le)) in
    let goes = sums_grow g (whole_at [] opened left n) (whole_at [] opened left (suc n)) (whole_follows [] opened left n all (omega (arith, le))) in
    omega (arith, was, goes)

no_sum : (g : Entry → ℕ) (xs : List Entry) → xs ≡ [] → sum_by g xs ≡ 0
no_sum g xs e = ap (sum_by g) e

-- at the end there is what the sections of these fronts entered, and nothing else
pub nothing_else : (opened core : Core) (front : FrontSeen) (lanes : List LaneSeen) (closed : IsClosed opened front lanes core) (g : Entry → ℕ)
    → sum_by g (whole [] opened closed.end.left) ≡ sum_by (λ k. sum_by g (entered opened closed.end.left k)) (front.own ++ flat_map own_of lanes)
nothing_else opened core front lanes closed g =
    let left = closed.end.left in
    let last : sum_by g (whole_at [] opened left (length left)) ≡ sum_by g (whole [] opened left) = ap (sum_by g) (whole_last [] opened left) in
    omega (arith, sums_states g opened left (length left) closed.end.all (omega arith), last, no_sum g opened.history.entries closed.end.first.entries_are, closed.only (summed g opened left))

-- ---- each place once

one_at : (k n : ℕ) → sum_to (λ j. if j == k then 1 else 0) n ≡ (if nat_lt k n then 1 else 0)
one_at k zero = grind (arith, nat_tests)
one_at k (suc n) = grind (arith, nat_tests, one_at k n)

pub each_once : (n : ℕ) (places : List ℕ) → AreAllBelow n places → (k : ℕ) → times k places ≡ (if nat_lt k n then 1 else 0)
each_once n places all k = all (λ j. if j == k then 1 else 0) ∙ one_at k n
