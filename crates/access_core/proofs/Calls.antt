-- What is due to a call, by what the fields say that it is owed, and how it meets that.
use Rattle.access_core.proofs.Terms.{program_of}
use Rattle.std.proofs.Common.{map}
use Rattle.core_model.specs.History.{beginning}
use Rattle.std.proofs.Common.{◌≡◌, List, refl, sym, ◌∙◌, ap, Ok, Err, arith}
use Rattle.access_core.proofs.Terms.{Effect, Entry, Event, History, Inside, Meets, Outcome, Owed, Refusal, due, enters, history_of, origin_of, owed, refuses, start_of, with_entry, within_room}

-- what is owed is due, if there is room for it
pub due-as : (history : History) (event : Event) (owing : Owed) → owed (beginning history) history.entries event ≡ owing → due history event ≡ within_room history event owing
due-as history event owing is = ap (within_room history event) is

-- and so is what is owed by the fields, after the history that they tell
pub due-by : (a : Inside) (old : History) → history_of a ≡ old → (event : Event) (owing : Owed) → owed (start_of a) a.audit.items event ≡ owing
    → due old event ≡ within_room old event owing
due-by a old seen_as event owing is = due-as old event owing (ap (λ h. owed (beginning h) h.entries event) (sym seen_as) ∙ is)

-- a call that is due a refusal meets it, and one that is due an entry and enters it meets that
pub met-refusal : (event : Event) (old : History) (why : Refusal) → due old event ≡ refuses why → Meets event old old (Err why)
met-refusal event old why is = record { reply_is = rw is refl; history_is = rw is refl }

pub met-entry : (a : Inside) (old : History) → history_of a ≡ old → (event : Event) (outcome : Outcome) (effects : List Effect) (entries : List Entry)
    → due old event ≡ enters outcome effects
    → entries ≡ with_entry a.audit.items event outcome effects → Meets event old (record { origin = origin_of a; kernels = map program_of a.kernels.items; capacity = a.capacity; entries = entries }) (Ok outcome)
met-entry a old seen_as event outcome effects entries is same = grind arith
