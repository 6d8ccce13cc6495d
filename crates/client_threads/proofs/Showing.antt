-- Lanes are shown one after another.
use Rattle.std.proofs.Common.{◌≡◌, ℕ, zero, suc, ◌+◌, ◌<◌, List, [], ◌∷◌, length, refl, ap, ◌∙◌, sym, subst, arith, ⊎_elim, ◌⊎◌, inl, inr}
use Rattle.std.specs.Prelude.{All, slice_index_or, ◌==◌, Bool, true, false}
use Rattle.access_core.specs.Cores.{Core}
use Rattle.client_threads.specs.Lanes.{LaneSeen}
use Rattle.client_threads.specs.Settling.{IsShown}

-- the lanes before a place are shown
abbrev pub ShownTo : Core → List Core → List LaneSeen → ℕ → Type 0
ShownTo opened left lanes n = (k : ℕ) (d : LaneSeen) → k < n → k < length lanes → IsShown opened left (slice_index_or lanes k d)

same_there : (lanes : List LaneSeen) (k : ℕ) (c d : LaneSeen) → k < length lanes → slice_index_or lanes k c ≡ slice_index_or lanes k d
same_there [] k c d lt = absurd (omega (arith, lt))
same_there (l ∷ ls) zero c d lt = refl
same_there (l ∷ ls) (suc k) c d lt = same_there ls k c d (omega (arith, lt))

below_or_at : (k n : ℕ) → k < n + 1 → (k < n) ⊎ (k ≡ n)
below_or_at zero zero lt = inr refl
below_or_at zero (suc n) lt = inl (omega arith)
below_or_at (suc k) zero lt = absurd (omega (arith, lt))
below_or_at (suc k) (suc n) lt = ⊎_elim (λ (t : k < n). inl (omega (arith, t))) (λ (t : k ≡ n). inr (ap suc t)) (below_or_at k n (omega (arith, lt)))

pub shown_next : (opened : Core) (left : List Core) (lanes : List LaneSeen) (n : ℕ) (lane : LaneSeen) → ShownTo opened left lanes n → lane ≡ slice_index_or lanes n lane → IsShown opened left lane → ShownTo opened left lanes (n + 1)
shown_next opened left lanes n lane before is own k d lt within =
    ⊎_elim
    (λ (t : k < n). before k d t within)
    (λ (t : k ≡ n). subst (IsShown opened left) (is ∙ (ap (λ m. slice_index_or lanes m lane) (sym t) ∙ same_there lanes k lane d within)) own)
    (below_or_at k n lt)

pub shown_all : (opened : Core) (left : List Core) (lanes : List LaneSeen) (n : ℕ) → length lanes < suc n → ShownTo opened left lanes n → All (IsShown opened left) lanes
shown_all opened left lanes n over shown = λ k d lt. shown k d (omega (arith, lt, over)) lt
