-- What is refused leaves all as it was.
use Rattle.std.proofs.Common.{◌≡◌, sym, ap, ◌∙◌, Err}
use Rattle.core_model.specs.declared.event.Event.{Event}
use Rattle.core_model.specs.declared.refusal.Refusal.{Refusal}
use Rattle.core_model.specs.History.{History}
use Rattle.core_model.specs.Legal.{Meets, due, history_after, reply_of}
use Rattle.core_model.specs.Owed.{refuses}

pub refused_meets : (event : Event) (old new : History) (why : Refusal) → new ≡ old → due new event ≡ refuses why → Meets event old new (Err why)
refused_meets event old new why same owed =
    let is : due old event ≡ refuses why = ap (λ h. due h event) (sym same) ∙ owed in
    record { reply_is = sym (ap reply_of is); history_is = same ∙ sym (ap (history_after old event) is) }

-- the same where what was refused is noted then
pub refused_meets_noted : (event : Event) (old one new : History) (why : Refusal) → one ≡ old → new ≡ one → due one event ≡ refuses why
    → Meets event old new (Err why)
refused_meets_noted event old one new why same kept owed =
    refused_meets event old new why (kept ∙ same) (ap (λ h. due h event) kept ∙ owed)
