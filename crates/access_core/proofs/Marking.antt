-- Regions that a list of rights names are marked, one after another.
use Rattle.std.proofs.Common.{◌≡◌, ℕ, zero, suc, ◌+◌, ◌<◌, ◌≤◌, ◌==◌, List, [], ◌∷◌, length, refl, sym, ◌∙◌, ap, Bool, true, false, ◌&&◌, ◌||◌, Some, arith, take, get_or, slice_get, slice_set}
use Rattle.std.proofs.lemmas.Bool.{eqb-true}
use Rattle.std.proofs.lemmas.List.Folds.{list_any_more}
use Rattle.aql_packet.specs.declared.ids.RegionHandle.{RegionHandle}
use Rattle.policy.specs.declared.object.Object.TheVariants as object
use Rattle.access_core.proofs.Terms.{LeavesOut, MarksToo, Object, Rights, has, same_object, slice_get_within}

differs : (m n : ℕ) → (n ≡ m → ⊥) → (b : Bool) → (m == n) ≡ b → b ≡ false
differs m n other true is = absurd (other (sym (eqb-true m n is)))
differs m n other false is = refl

-- what isn't marked after one mark more wasn't before, and has another number
still-out : (marks : List Bool) (i k : ℕ) → slice_get (slice_set marks i true) k ≡ Some false → (slice_get marks k ≡ Some false) × (i ≡ k → ⊥)
still-out [] i k out = absurd cc
still-out (x ∷ xs) zero zero out = absurd cc
still-out (x ∷ xs) zero (suc k) out = (out, λ e. omega (arith, e))
still-out (x ∷ xs) (suc i) zero out = (out, λ e. omega (arith, e))
still-out (x ∷ xs) (suc i) (suc k) out = let rest = still-out xs i k out in (rest.0, λ e. rest.1 (omega (arith, e)))

pub marks_region : (old : List Bool) (region : RegionHandle) → MarksToo old (slice_set old region.0 true) (object.Region region)
marks_region old region other out =
    let rest = still-out old region.0 other.0 out in
    (rest.0, differs other.0 region.0 rest.1 (other.0 == region.0) refl)

-- a region past the marks has no number of them
pub marks_past : (old : List Bool) (region : RegionHandle) → length old ≤ region.0 → MarksToo old old (object.Region region)
marks_past old region past other out =
    let within : other.0 < length old = slice_get_within old other.0 false out in
    (out, differs other.0 region.0 (λ e. omega (arith, e, within, past)) (other.0 == region.0) refl)

-- and another object leaves the marks as they are
pub marks_other : (old : List Bool) (on : Object) → ((region : RegionHandle) → on ≡ object.Region region → ⊥) → MarksToo old old on
marks_other old (object.Agent h) other region out = (out, refl)
marks_other old (object.Region h) other region out = absurd (other h refl)
marks_other old (object.Signal h) other region out = (out, refl)
marks_other old (object.Kernel h) other region out = (out, refl)

pub leaves-more : (old new : List Bool) (given : List (Object × Rights)) (i : ℕ) (d : Object × Rights) → i < length given → LeavesOut old (take i given)
    → MarksToo old new (get_or given i d).0 → LeavesOut new (take (i + 1) given)
leaves-more old new given i d within before marks region right out =
    let was = marks region out in
    list_any_more (λ (named : Object × Rights). same_object (object.Region region) named.0 && has named.1 right) given i d within
    ∙ ap (λ b. b || (same_object (object.Region region) (get_or given i d).0 && has (get_or given i d).1 right)) (before region right was.0)
    ∙ ap (λ b. b && has (get_or given i d).1 right) was.1
