-- A list of entries that grows.
use Rattle.std.specs.Prelude.{List, [], ◌∷◌, ◌++◌}
use Rattle.core_model.specs.declared.event.Event.{Event}
use Rattle.core_model.specs.declared.entry.Entry.{Entry}
use Rattle.core_model.specs.declared.entry.Effect.{Effect}
use Rattle.core_model.specs.declared.outcome.Outcome.{Outcome}
use Rattle.core_model.specs.Legal.{entry_of}

-- the entries with one more behind them
abbrev pub with_entry : List Entry → Event → Outcome → List Effect → List Entry
with_entry entries event outcome effects = entries ++ entry_of event outcome effects ∷ []
