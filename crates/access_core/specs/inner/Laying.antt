-- Where changes of memory have their place.
use Rattle.std.specs.Prelude.{◌≡◌, ℕ, true, List, length}
use Rattle.regions.specs.Memory.{is_within}
use Rattle.core_model.specs.declared.entry.Effect.{Effect}
use Rattle.core_model.specs.declared.entry.Effect.TheVariants.{Write}

-- the bytes that a change writes lie whole in a region; a change of another kind writes none
abbrev pub LiesWithin : List ℕ → Effect → Type 0
LiesWithin lengths (Write address bytes) = is_within lengths address.0 (length bytes) ≡ true
LiesWithin lengths _ = Unit {0}
