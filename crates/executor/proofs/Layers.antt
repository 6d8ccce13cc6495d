-- Items that took turns in any order with no mark in the way did what they do one after the other.
--
-- Beside a schedule stands what each item has laid so far. A layer is memory as an item finds it where all lower items
-- are done with what they have laid so far. An item that has come so far comes as far alone over any memory that is as
-- its layer at all places that it, or a higher item, has read.
use Rattle.std.proofs.Common.{◌≡◌, ℕ, zero, suc, ◌+◌, ◌<◌, ◌≤◌, Bool, List, [], ◌∷◌, Option, Some, None, refl, sym, ap, ◌∙◌, subst, arith}
use Rattle.std.specs.Prelude.{IsTrue, is_some, slice_get, slice_set, unwrap_or}

-- a memory over which something was laid
abbrev pub laid : {A V : Type 0} → (A → Option V) → (A → V) → A → V
laid over m x = unwrap_or (over x) (m x)

-- marks of the places that the item of a number touched are above it, and no mark has fallen
pub record Rise {A : Type 0} (n : ℕ) (touched : A → Bool) (from to : A → ℕ) : Type 0 where
  pub keep : (x : A) → from x ≤ to x
  pub above : (x : A) → IsTrue (touched x) → n < to x

-- so many steps of one item lead to a state and a memory
abbrev pub AloneIn : {S M : Type 0} → (S → M → S → M → Type 0) → ℕ → S → M → S → M → Type 0
AloneIn Steps zero s m next after = (s ≡ next) × (m ≡ after)
AloneIn {S} {M} Steps (suc k) s m next after = (between : S) × (seen : M) × AloneIn Steps k s m between seen × Steps between seen next after

abbrev pub Alone : {S M : Type 0} → (S → M → S → M → Type 0) → S → M → S → M → Type 0
Alone Steps s m next after = (k : ℕ) × AloneIn Steps k s m next after

-- some items take all of their steps, one item after the other; the first is that of number n
abbrev pub InTurn : {S M : Type 0} → (ℕ → S → M → S → M → Type 0) → ℕ → List S → M → List S → M → Type 0
InTurn Steps n [] m [] after = m ≡ after
InTurn Steps n [] m (s ∷ items) after = ⊥
InTurn Steps n (begun ∷ starts) m [] after = ⊥
InTurn {S} {M} Steps n (begun ∷ starts) m (s ∷ items) after = (seen : M) × Alone (Steps n) begun m s seen × InTurn Steps (n + 1) starts seen items after

-- the first of two that is there
abbrev or_else : {V : Type 0} → Option V → Option V → Option V
or_else None under = under
or_else (Some v) under = Some v

-- what is laid, and then more over it
abbrev more : {A V : Type 0} → (A → Option V) → (A → Option V) → A → Option V
more over under x = or_else (over x) (under x)

unwrap_or_else : {V : Type 0} (o u : Option V) (d : V) → unwrap_or (or_else o u) d ≡ unwrap_or o (unwrap_or u d)
unwrap_or_else None u d = refl
unwrap_or_else (Some v) u d = refl

more_laid : {A V : Type 0} (over under : A → Option V) (m : A → V) → laid (more over under) m ≡ laid over (laid under m)
more_laid over under m = λ i x. unwrap_or_else (over x) (under x) (m x) i

-- of two that are laid at a place only one may be there for their order not to matter
swap_at : {V : Type 0} (o w : Option V) (d : V) → (IsTrue (is_some o) → w ≡ None) → unwrap_or o (unwrap_or w d) ≡ unwrap_or w (unwrap_or o d)
swap_at None w d apart = refl
swap_at (Some v) w d apart = sym (ap (λ u. unwrap_or u v) (apart refl))

none_laid : {V : Type 0} (o : Option V) (d : V) → (IsTrue (is_some o) → ⊥) → unwrap_or o d ≡ d
none_laid None d none = refl
none_laid (Some v) d none = absurd (none refl)

none_more : {V : Type 0} (o w : Option V) → (IsTrue (is_some o) → ⊥) → w ≡ None → or_else o w ≡ None
none_more None w none is = is
none_more (Some v) w none is = absurd (none refl)

some_is : {S : Type 0} (a b : S) → Some a ≡ Some b → a ≡ b
some_is a b e = cc

module _ {S A V : Type 0} (Steps : ℕ → S → (A → V) → S → (A → V) → Type 0) where
  -- items from that of number i on: as they began over the layer, as they are now, the marks, and memory as it is now
  abbrev pub Kept : ℕ → (A → V) → List S → List S → (A → ℕ) → (A → ℕ) → (A → V) → Type 0
  Kept i layer [] [] read wrote top = layer ≡ top
  Kept i layer [] (s ∷ items) read wrote top = ⊥
  Kept i layer (begun ∷ starts) [] read wrote top = ⊥
  Kept i layer (begun ∷ starts) (s ∷ items) read wrote top =
      (w : A → Option V)
      × ((m : A → V) → ((x : A) → i < read x → m x ≡ layer x) → Alone (Steps i) begun m s (laid w m))
      × ((x : A) → wrote x ≤ i → w x ≡ None)
      × Kept (i + 1) (laid w layer) starts items read wrote top

  -- a place that no item from i on wrote is in memory as in the layer
  seen_top : (i : ℕ) (layer : A → V) (starts items : List S) (read wrote : A → ℕ) (top : A → V) → Kept i layer starts items read wrote top
      → (x : A) → wrote x ≤ i → layer x ≡ top x
  seen_top i layer [] [] read wrote top kept x low = ap (λ f. f x) kept
  seen_top i layer [] (s ∷ items) read wrote top kept x low = absurd kept
  seen_top i layer (begun ∷ starts) [] read wrote top kept x low = absurd kept
  seen_top i layer (begun ∷ starts) (s ∷ items) read wrote top kept x low =
      sym (ap (λ o. unwrap_or o (layer x)) (kept.2 x low))
      ∙ seen_top (i + 1) (laid kept.0 layer) starts items read wrote top kept.3 x (omega arith)

  -- one turn of the item of number n, with no mark in the way
  module _ (n : ℕ) (s next : S) (over : A → Option V) (reads : A → Bool) (top : A → V) (read wrote read_now wrote_now : A → ℕ)
      (steps : (m : A → V) → ((x : A) → IsTrue (reads x) → m x ≡ top x) → Steps n s m next (laid over m))
      (loads : (x : A) → IsTrue (reads x) → wrote x ≤ n + 1)
      (stores : (x : A) → IsTrue (is_some (over x)) → (wrote x ≤ n + 1) × (read x ≤ n + 1))
      (read_rise : Rise n reads read read_now) (wrote_rise : Rise n (λ x. is_some (over x)) wrote wrote_now) where
    low_before : (i : ℕ) (x : A) → wrote_now x ≤ i → wrote x ≤ i
    low_before i x low = let rise = wrote_rise.keep x in omega arith

    high_after : (i : ℕ) (x : A) → i < read x → i < read_now x
    high_after i x high = let rise = read_rise.keep x in omega arith

    -- higher items: it laid something where none of them has read or written
    raise : (i : ℕ) → n < i → (layer : A → V) (starts items : List S) → Kept i layer starts items read wrote top
        → Kept i (laid over layer) starts items read_now wrote_now (laid over top)
    raise i low layer [] [] kept = ap (laid over) kept
    raise i low layer [] (s' ∷ items) kept = absurd kept
    raise i low layer (begun ∷ starts) [] kept = absurd kept
    raise i low layer (begun ∷ starts) (s' ∷ items) kept = (
      kept.0,
      λ m agrees. kept.1 m (λ x high. agrees x (high_after i x high) ∙ none_laid (over x) (layer x) (λ some. let free = (stores x some).1 in omega arith)),
      λ x now_low. kept.2 x (low_before i x now_low),
      subst (λ f. Kept (i + 1) f starts items read_now wrote_now (laid over top))
          (λ j x. swap_at (over x) (kept.0 x) (layer x) (λ some. kept.2 x (let free = (stores x some).0 in omega arith)) j)
          (raise (i + 1) (omega arith) (laid kept.0 layer) starts items kept.3),
    )

    -- itself
    itself : (begun : S) (layer : A → V) (starts items : List S) → Kept n layer (begun ∷ starts) (s ∷ items) read wrote top
        → Kept n layer (begun ∷ starts) (next ∷ items) read_now wrote_now (laid over top)
    itself begun layer starts items kept = (
      more over kept.0,
      alone,
      quiet,
      subst (λ f. Kept (n + 1) f starts items read_now wrote_now (laid over top)) (sym (more_laid over kept.0 layer))
          (raise (n + 1) (omega arith) (laid kept.0 layer) starts items kept.3),
    )
      where
        alone : (m : A → V) → ((x : A) → n < read_now x → m x ≡ layer x) → Alone (Steps n) begun m next (laid (more over kept.0) m)
        alone m agrees =
            let sofar = kept.1 m (λ x high. agrees x (high_after n x high)) in
            let one : Steps n s (laid kept.0 m) next (laid over (laid kept.0 m)) =
            steps (laid kept.0 m) (λ x is.
            ap (unwrap_or (kept.0 x)) (agrees x (read_rise.above x is))
            ∙ seen_top (n + 1) (laid kept.0 layer) starts items read wrote top kept.3 x (loads x is)) in
            let own : Steps n s (laid kept.0 m) next (laid (more over kept.0) m) =
            subst (λ f. Steps n s (laid kept.0 m) next f) (sym (more_laid over kept.0 m)) one in
            (suc sofar.0, (s, laid kept.0 m, sofar.1, own))

        quiet : (x : A) → wrote_now x ≤ n → more over kept.0 x ≡ None
        quiet x low = none_more (over x) (kept.0 x) (λ some. let rise = wrote_rise.above x some in omega arith) (kept.2 x (low_before n x low))

    -- items among which it stands
    pub turns : (place i : ℕ) → i + place ≡ n → (layer : A → V) (starts items : List S) → slice_get items place ≡ Some s
        → Kept i layer starts items read wrote top
        → Kept i layer starts (slice_set items place next) read_now wrote_now (laid over top)
    turns place i e layer starts [] there kept = absurd cc
    turns place i e layer [] (s' ∷ items) there kept = absurd kept
    turns zero i e layer (begun ∷ starts) (s' ∷ items) there kept =
        let here : i ≡ n = omega (arith, e) in
        subst (λ k. Kept k layer (begun ∷ starts) (next ∷ items) read_now wrote_now (laid over top)) (sym here)
        (itself begun layer starts items
        (subst (λ k. Kept k layer (begun ∷ starts) (s ∷ items) read wrote top) here
        (subst (λ t. Kept i layer (begun ∷ starts) (t ∷ items) read wrote top) (some_is s' s there) kept)))
    turns (suc place) i e layer (begun ∷ starts) (s' ∷ items) there kept = (
      kept.0,
      λ m agrees. kept.1 m (λ x high. agrees x (high_after i x high)),
      λ x low. kept.2 x (low_before i x low),
      turns place (i + 1) (omega (arith, e)) (laid kept.0 layer) starts items there kept.3,
    )

  -- items that took no turn, whatever the marks are
  pub none_yet : (i : ℕ) (m : A → V) (items : List S) (read wrote : A → ℕ) → Kept i m items items read wrote m
  none_yet i m [] read wrote = refl
  none_yet i m (s ∷ items) read wrote = (λ x. None, λ k agrees. (0, (refl, refl)), λ x le. refl, none_yet (i + 1) m items read wrote)

  -- each item alone over its layer
  pub in_order : (i : ℕ) (layer : A → V) (starts items : List S) (read wrote : A → ℕ) (top : A → V) → Kept i layer starts items read wrote top
      → InTurn Steps i starts layer items top
  in_order i layer [] [] read wrote top kept = kept
  in_order i layer [] (s ∷ items) read wrote top kept = absurd kept
  in_order i layer (begun ∷ starts) [] read wrote top kept = absurd kept
  in_order i layer (begun ∷ starts) (s ∷ items) read wrote top kept =
      (laid kept.0 layer, kept.1 layer (λ x high. refl), in_order (i + 1) (laid kept.0 layer) starts items read wrote top kept.3)
