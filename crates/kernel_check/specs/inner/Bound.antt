-- How look-ups are put together (own).
use Rattle.std.specs.Prelude.{ℕ, List, map, Option, Some, None}
use Rattle.std.specs.Borrow.{Bor}
use Rattle.kernel_check.specs.Names.{Known}

-- what is found first, else another
abbrev pub or_else : {X : Type 0} → Option X → Option X → Option X
or_else None other = other
or_else (Some x) other = Some x

-- the entries of a map from lent names
abbrev pub plain : {X : Type 0} → List (Bor (List ℕ) × X) → Known X
plain entries = map (λ entry. (entry.0.now, entry.1)) entries
