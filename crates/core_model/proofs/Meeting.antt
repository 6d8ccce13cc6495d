-- What is due to an event, by what it is owed.
use Rattle.std.proofs.Common.{◌≡◌, List, refl, Bool, true, false}
use Rattle.std.specs.Prelude.{if◌then◌else◌}
use Rattle.core_model.specs.declared.entry.Effect.{Effect}
use Rattle.core_model.specs.declared.event.Event.{Event}
use Rattle.core_model.specs.declared.outcome.Outcome.{Outcome}
use Rattle.core_model.specs.declared.refusal.Refusal.{Refusal}
use Rattle.core_model.specs.declared.refusal.Refusal.TheVariants as refusal
use Rattle.core_model.specs.History.{beginning, History}
use Rattle.core_model.specs.Owed.{Owed, refuses, answers, enters, owed}
use Rattle.core_model.specs.Refusals.{refuse_unless}
use Rattle.core_model.specs.Legal.{due, entry_of, lacks_room, within_room}

-- a test that holds lets the rest be, and one that fails refuses
pub refuse_unless-holds : (test : Bool) (why : Refusal) (rest : Owed) → test ≡ true → refuse_unless test (refuses why) rest ≡ rest
refuse_unless-holds test why rest holds = rw holds refl

pub refuse_unless-fails : (test : Bool) (why : Refusal) (rest : Owed) → test ≡ false → refuse_unless test (refuses why) rest ≡ refuses why
refuse_unless-fails test why rest fails = rw fails refl

-- an event that is due an entry is owed it, and the audit has room for it
pub entered-owed : (history : History) (event : Event) (outcome : Outcome) (effects : List Effect) → due history event ≡ enters outcome effects →
    (owed (beginning history) history.entries event ≡ enters outcome effects) × (lacks_room history (entry_of event outcome effects) ≡ false)
entered-owed history event outcome effects due = by_owed (owed (beginning history) history.entries event) due
  where
    by_room : (o : Outcome) (es : List Effect) (b : Bool) → lacks_room history (entry_of event o es) ≡ b → (if b then refuses refusal.AuditFull else enters o es) ≡ enters outcome effects →
        (enters o es ≡ enters outcome effects) × (lacks_room history (entry_of event outcome effects) ≡ false)
    by_room o es true is e = absurd cc
    by_room o es false is e =
        let same : o ≡ outcome = cc in
        let changes : es ≡ effects = cc in
        (e, rw (same, changes) at is)

    by_owed : (owing : Owed) → within_room history event owing ≡ enters outcome effects → (owing ≡ enters outcome effects) × (lacks_room history (entry_of event outcome effects) ≡ false)
    by_owed (refuses why) e = absurd cc
    by_owed (answers o) e = absurd cc
    by_owed (enters o es) e = by_room o es (lacks_room history (entry_of event o es)) refl e
