-- The audit as C sees it (own).
use Rattle.std.specs.Prelude.{ℕ, ◌≡◌, ◌-◌, Option, Result}
use Rattle.policy.specs.Policy.{numbered}
use Rattle.core_model.specs.declared.entry.Entry.{Entry}
use Rattle.core_model.specs.declared.refusal.Refusal.{Refusal}
use Rattle.core_model.specs.History.{History, Part, beginning}
use Rattle.core_model.specs.Rotation.{Rotates, Truncates}
use Rattle.hobbydresser_c.specs.declared.broker.Broker.{Broker}
use Rattle.hobbydresser_c.specs.Calls.{history_of, status_of}

-- the entry of a number, if the audit has it: its first one's is 1 more than how many came before
abbrev pub entry_numbered : History → ℕ → Option Entry
entry_numbered history number = numbered history.entries (number - (beginning history).before)

-- a rotation was asked for: the core handed a part out, or refused to, which the status tells
abbrev pub Rotated : Broker → Broker → ℕ → Type 0
Rotated old new status =
    (answer : Result Part Refusal) × Rotates (history_of old) answer (history_of new) × (status ≡ status_of answer)

-- the audit was to be emptied, whose entries were written down elsewhere: the core did, or refused to, which the status tells
abbrev pub Truncated : Broker → Broker → ℕ → Type 0
Truncated old new status =
    (answer : Result (Unit {0}) Refusal) × Truncates (history_of old) answer (history_of new) × (status ≡ status_of answer)
