-- Memories that are copied region by region, and memories that are the same.
use Rattle.std.proofs.Common.{◌≡◌, ℕ, List, Bool, subst}
use Rattle.std.specs.Bool.{Decides}
use Rattle.std.specs.Cmp.Lexicographic.{pointwise}
use Rattle.std.specs.Str.{bytes_eq}
use Rattle.std.proofs.lemmas.Slice.Eq.{slice_eq-Decides, bytes_eq-Decides}

-- regions that are compared one by one are the same where each has the same bytes
pub same_regions : (shown others regions other : List (List ℕ)) (r : Bool) → r ≡ pointwise bytes_eq shown others → shown ≡ regions → others ≡ other → Decides r (regions ≡ other)
same_regions shown others regions other r is one two =
    subst (λ x. Decides r (x ≡ other)) one (subst (λ x. Decides r (shown ≡ x)) two (slice_eq-Decides bytes_eq-Decides shown others r is))
