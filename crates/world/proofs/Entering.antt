-- What one event leaves of the questions that rings and history share.
use Rattle.std.proofs.Common.{◌≡◌, List, [], ◌∷◌, ◌++◌, refl, ap, sym, append_assoc, ◌∙◌, Bool, true, false, Option, Some, None}
use Rattle.std.specs.Prelude.{option_to_list, if◌then◌else◌}
use Rattle.std.specs.List.{filter_map}
use Rattle.std.proofs.lemmas.List.{append-nil}
use Rattle.std.proofs.lemmas.List.Elements.{filter_map-append}
use Rattle.aql_packet.specs.declared.ids.QueueId.{QueueId}
use Rattle.core_model.specs.declared.event.Event.{Event}
use Rattle.core_model.specs.declared.entry.Entry.{Entry}
use Rattle.core_model.specs.declared.entry.Effect.{Effect}
use Rattle.core_model.specs.declared.outcome.Outcome.{Outcome}
use Rattle.core_model.specs.declared.refusal.Refusal.TheVariants as refusal
use Rattle.core_model.specs.History.{beginning, opening_state, Start, History}
use Rattle.core_model.specs.States.{state_after}
use Rattle.policy.specs.Policy.{Declared}
use Rattle.core_model.specs.Queues.{next_id, openings}
use Rattle.core_model.specs.Owed.{Owed, owed, refuses, answers, enters}
use Rattle.core_model.specs.Legal.{IsWhole, due, entry_of, lacks_room, within_room}
use Rattle.core_model.proofs.States.{whole-more}
use Rattle.world.specs.InStep.{size_of, sizes, taken_from, takes}

-- ---- lists of what entries tell

-- a list with one more item, if there is one
abbrev pub with_some : {X : Type 0} → List X → Option X → List X
with_some xs None = xs
with_some xs (Some x) = xs ++ x ∷ []

one_told : {X : Type 0} (o : Option X) → filter_map (λ (x : Option X). x) (o ∷ []) ≡ option_to_list o
one_told None = refl
one_told (Some x) = refl

with_some-to_list : {X : Type 0} (xs : List X) (o : Option X) → xs ++ option_to_list o ≡ with_some xs o
with_some-to_list xs None = append-nil xs
with_some-to_list xs (Some x) = refl

pub takes_more : (es : List Entry) (e : Entry) (queue : QueueId) → takes (es ++ e ∷ []) queue ≡ with_some (takes es queue) (taken_from queue e.event)
unfolding takes
takes_more es e queue =
    filter_map-append _ es (e ∷ []) ∙ ap (λ x. filter_map (λ (entry : Entry). taken_from queue entry.event) es ++ x) (one_told (taken_from queue e.event)) ∙ with_some-to_list _ (taken_from queue e.event)

sizes_more : (es : List Entry) (e : Entry) → sizes (es ++ e ∷ []) ≡ with_some (sizes es) (size_of e.event)
unfolding sizes
sizes_more es e =
    filter_map-append _ es (e ∷ []) ∙ ap (λ x. filter_map (λ (entry : Entry). size_of entry.event) es ++ x) (one_told (size_of e.event)) ∙ with_some-to_list _ (size_of e.event)

-- and so behind entries before
pub takes_behind : (prior es : List Entry) (e : Entry) (queue : QueueId) → takes (prior ++ (es ++ e ∷ [])) queue ≡ with_some (takes (prior ++ es) queue) (taken_from queue e.event)
takes_behind prior es e queue = ap (λ (all : List Entry). takes all queue) (sym (append_assoc prior es (e ∷ []))) ∙ takes_more (prior ++ es) e queue

pub sizes_behind : (prior es : List Entry) (e : Entry) → sizes (prior ++ (es ++ e ∷ [])) ≡ with_some (sizes (prior ++ es)) (size_of e.event)
sizes_behind prior es e = ap sizes (sym (append_assoc prior es (e ∷ []))) ∙ sizes_more (prior ++ es) e

pub no_takes : (queue : QueueId) → takes [] queue ≡ []
unfolding takes
no_takes queue = refl

pub no_sizes : sizes [] ≡ []
unfolding sizes
no_sizes = refl

pub no_openings : (start : Start) → openings start [] ≡ start.openings
unfolding openings
no_openings start = refl

pub none_next : (start : Start) (queue : QueueId) → next_id start [] queue ≡ start.next_id queue
unfolding next_id
none_next start queue = refl

-- ---- what is due

-- an event that is due an entry is owed it
pub due_enters : (old : History) (event : Event) (outcome : Outcome) (effects : List Effect) → due old event ≡ enters outcome effects → owed (beginning old) old.entries event ≡ enters outcome effects
due_enters old event outcome effects = by_owed (owed (beginning old) old.entries event)
  where
    by_owed : (owing : Owed) → within_room old event owing ≡ enters outcome effects → owing ≡ enters outcome effects
    by_owed (refuses why) is = is
    by_owed (answers told) is = is
    by_owed (enters told made) is = by_room (lacks_room old (entry_of event told made)) is
      where
        by_room : (b : Bool) → (if b then refuses refusal.AuditFull else enters told made) ≡ enters outcome effects → enters told made ≡ enters outcome effects
        by_room true f = absurd (cc)
        by_room false f = f

pub due_answers : (old : History) (event : Event) (outcome : Outcome) → due old event ≡ answers outcome → owed (beginning old) old.entries event ≡ answers outcome
due_answers old event outcome = by_owed (owed (beginning old) old.entries event)
  where
    by_owed : (owing : Owed) → within_room old event owing ≡ answers outcome → owing ≡ answers outcome
    by_owed (refuses why) is = is
    by_owed (answers told) is = is
    by_owed (enters told made) is = by_room (lacks_room old (entry_of event told made)) is
      where
        by_room : (b : Bool) → (if b then refuses refusal.AuditFull else enters told made) ≡ answers outcome → enters told made ≡ answers outcome
        by_room true f = absurd (cc)
        by_room false f = absurd (cc)

-- one entry more, as it is due, behind a legal history: the whole one goes on
pub whole_entered : (old : History) (event : Event) (told : Outcome) (effects : List Effect) (first : Declared) (prior : List Entry) → beginning old ≡ state_after (opening_state first old.kernels) prior
    → IsWhole (opening_state first old.kernels) (prior ++ old.entries) → due old event ≡ enters told effects
    → IsWhole (opening_state first old.kernels) (prior ++ (old.entries ++ entry_of event told effects ∷ []))
whole_entered old event told effects first prior start whole is =
    whole-more (beginning old) old.entries (entry_of event told effects ∷ []) (record { first = first; prior = prior; start_is = start; whole = whole }) (due_enters old event told effects is, tt)
