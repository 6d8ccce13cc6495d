-- What calls of the core leave, by what they answer.
use Rattle.std.proofs.Common.{◌≡◌, ℕ, List, refl, ap, ◌⊎◌, inl, inr}
use Rattle.std.specs.Prelude.{Result, Ok, Err}
use Rattle.aql_packet.specs.declared.ids.QueueId.{QueueId}
use Rattle.aql_packet.specs.declared.ids.PacketId.{PacketId}
use Rattle.queue_error.specs.declared.error.QueueError.{QueueError}
use Rattle.core_model.specs.declared.event.Event.{Event}
use Rattle.core_model.specs.declared.event.Event.TheVariants.{Take}
use Rattle.core_model.specs.declared.outcome.Outcome.{Outcome}
use Rattle.core_model.specs.declared.outcome.Outcome.TheVariants as outcome
use Rattle.core_model.specs.declared.outcome.Taken.{Taken}
use Rattle.core_model.specs.declared.outcome.Taken.TheVariants as taken
use Rattle.core_model.specs.declared.outcome.WaitCause.{WaitCause}
use Rattle.core_model.specs.declared.refusal.Refusal.{Refusal}
use Rattle.core_model.specs.declared.refusal.Refusal.TheVariants as refusal
use Rattle.core_model.specs.History.{History, beginning}
use Rattle.core_model.specs.Owed.{Owed, refuses, answers, enters}
use Rattle.core_model.specs.Legal.{Meets, MeetsOrLacks, LacksMemory, due, reply_of, history_after}
use Rattle.core_model.proofs.Meeting.{entered-owed}
use Rattle.core_model.proofs.Turns.{taken-or-denied}

-- a refused call leaves all as it was
pub refused_leaves : (event : Event) (old new : History) (why : Refusal) → Meets event old new (Err why) → new ≡ old
refused_leaves event old new why h = by_owing (due old event) h.reply_is h.history_is
  where
    by_owing : (owing : Owed) → Err why ≡ reply_of owing → new ≡ history_after old event owing → new ≡ old
    by_owing (refuses w) r e = e
    by_owing (answers o) r e = e
    by_owing (enters o es) r e = absurd cc

pub refused_leaves_or_lacks : (event : Event) (old new : History) (why : Refusal) → MeetsOrLacks event old new (Err why) → new ≡ old
refused_leaves_or_lacks event old new why (inl h) = refused_leaves event old new why h
refused_leaves_or_lacks event old new why (inr h) = h.history_is

-- so does a take that waits
pub waiting_leaves : (queue : QueueId) (id : PacketId) (bytes : List ℕ) (old new : History) (cause : WaitCause) → Meets (Take queue id bytes) old new (Ok (outcome.Taken (taken.Waiting cause))) → new ≡ old
waiting_leaves queue id bytes old new cause h = by_owing (due old (Take queue id bytes)) refl h.reply_is h.history_is
  where
    never : (o : Outcome) → o ≡ outcome.Taken (taken.Waiting cause) → (o ≡ outcome.Taken taken.Launched) ⊎ (error : QueueError) × (o ≡ outcome.Taken (taken.Denied error)) → new ≡ old
    never o is (inl e) = absurd cc
    never o is (inr e) = let f = e.1 in absurd cc

    by_owing : (owing : Owed) → due old (Take queue id bytes) ≡ owing → Ok (outcome.Taken (taken.Waiting cause)) ≡ reply_of owing → new ≡ history_after old (Take queue id bytes) owing → new ≡ old
    by_owing (refuses w) is r e = e
    by_owing (answers o) is r e = e
    by_owing (enters o es) is r e = let same : o ≡ outcome.Taken (taken.Waiting cause) = cc in never o same (taken-or-denied (beginning old) old.entries o es queue id bytes (entered-owed old (Take queue id bytes) o es is).0)

-- a call that is answered met what was due
pub answered_meets : (event : Event) (old new : History) (o : Outcome) → MeetsOrLacks event old new (Ok o) → Meets event old new (Ok o)
answered_meets event old new o (inl h) = h
answered_meets event old new o (inr h) = let e = h.reply_is in absurd cc

-- memory that lacks is told as such
lacking : (event : Event) (old new : History) (why : Refusal) → LacksMemory event old new (Err why) → why ≡ refusal.OutOfMemory
lacking event old new why h = let e = h.reply_is in cc

abbrev pub not_taken : Refusal → Result Taken Refusal
not_taken why = Err why

-- what a take that is refused was due, or want of memory
pub left_due : (event : Event) (old new : History) (why : Refusal) → MeetsOrLacks event old new (Err why) → (not_taken why ≡ not_taken refusal.OutOfMemory) ⊎ Meets event old new (Err why)
left_due event old new why (inl h) = inr h
left_due event old new why (inr h) = inl (ap not_taken (lacking event old new why h))
