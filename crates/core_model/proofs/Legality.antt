-- A legal history stays legal with what is owed behind it.
use Rattle.std.proofs.Common.{◌≡◌, List, [], ◌∷◌, ◌++◌, append_assoc}
use Rattle.std.proofs.lemmas.List.{append-nil}
use Rattle.core_model.specs.declared.entry.Entry.{Entry}
use Rattle.core_model.specs.declared.entry.Effect.{Effect}
use Rattle.core_model.specs.declared.event.Event.{Event}
use Rattle.core_model.specs.declared.outcome.Outcome.{Outcome}
use Rattle.core_model.specs.History.{Start}
use Rattle.core_model.specs.Owed.{enters, owed}
use Rattle.core_model.specs.Legal.{IsWhole, IsLegalAfter, entry_of}
use Rattle.core_model.specs.inner.Entries.{with_entry}

pub IsLegalAfter-more : (start : Start) (before entries : List Entry) (event : Event) (outcome : Outcome) (effects : List Effect) → IsLegalAfter start before entries → owed start (before ++ entries) event ≡ enters outcome effects → IsLegalAfter start before (entries ++ entry_of event outcome effects ∷ [])
IsLegalAfter-more start before [] event outcome effects legal owing = (rw append-nil at owing, tt)
IsLegalAfter-more start before (e ∷ es) event outcome effects legal owing =
    (legal.0, IsLegalAfter-more start (before ++ e ∷ []) es event outcome effects legal.1 (rw append_assoc owing))

-- one entry more, as it was owed
pub IsWhole-more : (start : Start) (entries : List Entry) (event : Event) (outcome : Outcome) (effects : List Effect) → IsWhole start entries → owed start entries event ≡ enters outcome effects → IsWhole start (with_entry entries event outcome effects)
IsWhole-more start entries event outcome effects legal owing = record { opens = legal.opens; legal = IsLegalAfter-more start [] entries event outcome effects legal.legal owing }
