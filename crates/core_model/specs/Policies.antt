-- The policy in force: all that the start's declares, with the rows of the last reload.
use Rattle.std.specs.Prelude.{List, fold}
use Rattle.policy.specs.declared.rows.PolicyRows.{PolicyRows}
use Rattle.policy.specs.Policy.{Declared}
use Rattle.core_model.specs.declared.event.Event.{Event}
use Rattle.core_model.specs.declared.event.Event.TheVariants.{Reload}
use Rattle.core_model.specs.declared.entry.Entry.{Entry}
use Rattle.core_model.specs.History.{Start}

-- the rows on rights in force after an event, by those before it (own)
abbrev pub rows_after : PolicyRows → Event → PolicyRows
rows_after before (Reload rows) = rows
rows_after before _ = before

-- the rows on rights in force: those of the last reload, or the start's (own)
unfoldable pub rows_at : Start → List Entry → PolicyRows
rows_at start entries = fold (λ before entry. rows_after before entry.event) start.policy.rows entries

-- the policy in force: a reload leaves all that is declared as it was (own)
abbrev pub policy_at : Start → List Entry → Declared
policy_at start entries = record start.policy { rows = rows_at start entries }
