-- Names, each with what it stands for; of a name that stands twice the first counts.
use Rattle.std.specs.Prelude.{ℕ, List, Option}
use Rattle.std.specs.Map.{lookup}
use Rattle.std.specs.Str.{bytes_eq}

abbrev pub Known : Type 0 → Type 0
Known X = List (List ℕ × X)

-- what a name stands for
abbrev pub find : {X : Type 0} → Known X → List ℕ → Option X
find names name = lookup (bytes_eq name) names
