-- The audit's room for packets in flight: what leaves flight is never refused for want of it.
use Rattle.std.proofs.Common.{◌≡◌, refl, sym, ◌∙◌, ap, subst, Result, Err, inl, inr, arith}
use Rattle.core_model.specs.History.{beginning}
use Rattle.core_model.specs.Legal.{MeetsOrLacks, reply_of}
use Rattle.core_model.specs.Room.{FindsRoom, HasRoom}
use Rattle.core_model.proofs.Room.{never-owed}
use Rattle.core_model.specs.declared.refusal.Refusal.TheVariants as refusal
use Rattle.access_core.proofs.Terms.{Event, History, Inside, IsCached, Outcome, Owed, Refusal, answers, due, enters, history_of, refuses}

pub roomy : (a : Inside) → IsCached a → HasRoom (history_of a)
roomy a kept = let flying = kept.in_flight_count in omega (arith, flying, kept.room)

pub roomy-seen : (a : Inside) → IsCached a → (old : History) → history_of a ≡ old → HasRoom old
roomy-seen a kept old seen_as = subst HasRoom seen_as (roomy a kept)

-- what is due that refusal doesn't find room
pub never-due : (history : History) (event : Event) → FindsRoom history event → due history event ≡ refuses refusal.AuditFull → ⊥
never-due history event finds is = never-owed (beginning history) history.entries event (sym finds ∙ is)

-- and none is told it
pub never-told : (event : Event) (old new : History) (reply : Result Outcome Refusal) → MeetsOrLacks event old new reply → FindsRoom old event → reply ≡ Err refusal.AuditFull → ⊥
never-told event old new reply (inl meets) finds is = by_owed (due old event) refl (sym meets.reply_is ∙ is)
  where
    by_owed : (owing : Owed) → due old event ≡ owing → reply_of owing ≡ Err refusal.AuditFull → ⊥
    by_owed (refuses why) same told = let e : why ≡ refusal.AuditFull = cc in never-due old event finds (same ∙ ap refuses e)
    by_owed (answers outcome) same told = absurd cc
    by_owed (enters outcome effects) same told = absurd cc
never-told event old new reply (inr lacks) finds is = let e : Err refusal.OutOfMemory ≡ Err refusal.AuditFull = sym lacks.reply_is ∙ is in absurd cc
