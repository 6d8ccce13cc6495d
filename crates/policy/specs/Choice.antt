-- A choice of one name or of every one.
use Rattle.std.specs.Prelude.{ℕ, List, Option, Some, None}
use Rattle.policy.specs.declared.read.values.Choice.{Choice}
use Rattle.policy.specs.declared.read.values.Choice.TheVariants.{Any, Named}

-- the name that is chosen, or none for every one
abbrev pub chosen_name : Choice → Option (List ℕ)
chosen_name Any = None
chosen_name (Named name) = Some name.now
