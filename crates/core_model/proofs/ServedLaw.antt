-- What is served keeps a history legal: its entries so far stay, and what comes behind them is owed.
use Rattle.std.proofs.Common.{◌≡◌, List, [], ◌∷◌, ◌++◌, refl, sym, ◌∙◌, ap, subst, Bool, true, false, inl, inr, append_assoc, Result, Err}
use Rattle.std.specs.Prelude.{if◌then◌else◌}
use Rattle.std.proofs.lemmas.List.{append-nil}
use Rattle.core_model.specs.declared.event.Event.{Event}
use Rattle.core_model.specs.declared.event.Event.TheVariants.{Call, Open, Reload, Take}
use Rattle.core_model.specs.declared.event.CoreRequest.{CoreRequest}
use Rattle.core_model.specs.declared.event.CoreRequest.TheVariants as request
use Rattle.core_model.specs.declared.outcome.Outcome.{Outcome}
use Rattle.core_model.specs.declared.refusal.Refusal.{Refusal}
use Rattle.core_model.specs.declared.refusal.Refusal.TheVariants as refusal
use Rattle.core_model.specs.History.{beginning, History}
use Rattle.core_model.specs.Owed.{Owed, owed, refuses, answers, enters}
use Rattle.core_model.specs.Legal.{IsLegal, IsMade, IsServed, MeetsOrLacks, ReloadMeetsOrLacks, AreReplies, as_reply, reply_of, due, entry_of, history_after, lacks_room, within_room}
use Rattle.core_model.specs.Queries.{AnswerOrRefusal}
use Rattle.core_model.specs.Headline.{GoesOn}
use Rattle.core_model.proofs.States.{IsLegal-more}

abbrev Legal : History → Type 0
Legal history = IsLegal (beginning history) history.entries

stays : (old new : History) → Legal old → new ≡ old → GoesOn old new
stays old new legal is = record {
  origin_is = ap (λ h. h.origin) is;
  kernels_are = ap (λ h. h.kernels) is;
  capacity_is = ap (λ h. h.capacity) is;
  more = [];
  entries_are = ap (λ h. h.entries) is ∙ sym (append-nil old.entries);
  legal = subst (λ h. IsLegal (beginning h) h.entries) (sym is) legal;
}

-- one entry more, where there is room for it
module _ (old : History) (legal : Legal old) (event : Event) where
  entered : (owing : Owed) → owed (beginning old) old.entries event ≡ owing → GoesOn old (history_after old event (within_room old event owing))
  entered (refuses why) is = stays old old legal refl
  entered (answers outcome) is = stays old old legal refl
  entered (enters outcome effects) is = by_room (lacks_room old (entry_of event outcome effects))
    where
      by_room : (b : Bool) → GoesOn old (history_after old event (if b then refuses refusal.AuditFull else enters outcome effects))
      by_room true = stays old old legal refl
      by_room false = record {
        origin_is = refl;
        kernels_are = refl;
        capacity_is = refl;
        more = entry_of event outcome effects ∷ [];
        entries_are = refl;
        legal = IsLegal-more (beginning old) old.entries (entry_of event outcome effects) legal is;
      }

  after-due : (new : History) → new ≡ history_after old event (due old event) → GoesOn old new
  after-due new is = subst (GoesOn old) (sym is) (entered (owed (beginning old) old.entries event) refl)

  pub event-goes_on : (new : History) (reply : Result Outcome Refusal) → MeetsOrLacks event old new reply → GoesOn old new
  event-goes_on new reply (inl meets) = after-due new meets.history_is
  event-goes_on new reply (inr lacks) = stays old new legal lacks.history_is

request-goes_on : (old new : History) (asked : CoreRequest) (reply : AnswerOrRefusal) → Legal old → IsServed old asked reply new → GoesOn old new
request-goes_on old new (request.Open client agent size) reply legal served = event-goes_on old legal (Open client agent size) new served.0 served.2
request-goes_on old new (request.Take queue packet bytes) reply legal served = event-goes_on old legal (Take queue packet bytes) new served.0 served.2
request-goes_on old new (request.Call asked) reply legal served = event-goes_on old legal (Call asked) new served.0 served.2
request-goes_on old new (request.Query query) reply legal served = stays old new legal served.1
request-goes_on old new (request.Reload policy) reply legal served = by_reload served.2
  where
    by_reload : ReloadMeetsOrLacks policy old new served.0 → GoesOn old new
    by_reload (inl other) = stays old new legal other.history_is
    by_reload (inr same) = event-goes_on old legal (Reload policy.rows) new served.0 same.1

through : (old mid new : History) → GoesOn old mid → GoesOn mid new → GoesOn old new
through old mid new one two = record {
  origin_is = two.origin_is ∙ one.origin_is;
  kernels_are = two.kernels_are ∙ one.kernels_are;
  capacity_is = two.capacity_is ∙ one.capacity_is;
  more = one.more ++ two.more;
  entries_are = two.entries_are ∙ ap (λ es. es ++ two.more) one.entries_are ∙ append_assoc old.entries one.more two.more;
  legal = two.legal;
}

pub list-goes_on : (old new : History) (requests : List CoreRequest) (replies : List AnswerOrRefusal) → IsLegal (beginning old) old.entries → AreReplies old requests replies new → GoesOn old new
list-goes_on old new [] [] legal is = stays old new legal is
list-goes_on old new (asked ∷ requests) (reply ∷ replies) legal are =
    let one = request-goes_on old are.0 asked reply legal are.1 in
    through old are.0 new one (list-goes_on are.0 new requests replies one.legal are.2)
list-goes_on old new [] (reply ∷ replies) legal are = absurd are
list-goes_on old new (asked ∷ requests) [] legal are = absurd are

-- ---- what is refused

refused-event : (old new : History) (event : Event) (why : Refusal) (owing : Owed) → Err why ≡ as_reply (reply_of owing) → new ≡ history_after old event owing → new ≡ old
refused-event old new event why (refuses _) told is = is
refused-event old new event why (answers outcome) told is = absurd cc
refused-event old new event why (enters outcome effects) told is = absurd cc

refused-made : (old new : History) (event : Event) (why : Refusal) → IsMade event old (Err why) new → new ≡ old
refused-made old new event why (made, told, inl meets) = refused-event old new event why (due old event) (told ∙ ap as_reply meets.reply_is) meets.history_is
refused-made old new event why (made, told, inr lacks) = lacks.history_is

pub refused-stays : (old new : History) (asked : CoreRequest) (why : Refusal) → IsServed old asked (Err why) new → new ≡ old
refused-stays old new (request.Open client agent size) why served = refused-made old new (Open client agent size) why served
refused-stays old new (request.Take queue packet bytes) why served = refused-made old new (Take queue packet bytes) why served
refused-stays old new (request.Call asked) why served = refused-made old new (Call asked) why served
refused-stays old new (request.Query query) why served = served.1
refused-stays old new (request.Reload policy) why (made, told, inl other) = other.history_is
refused-stays old new (request.Reload policy) why (made, told, inr (same, inl meets)) = refused-event old new (Reload policy.rows) why (due old (Reload policy.rows)) (told ∙ ap as_reply meets.reply_is) meets.history_is
refused-stays old new (request.Reload policy) why (made, told, inr (same, inr lacks)) = lacks.history_is
