-- Packets in flight that are polled: the entry of what is seen.
use Rattle.core_model.specs.History.{beginning}
use Rattle.std.proofs.Common.{◌≡◌, ◌∙◌, refl, ap, Bool, true, false, [], if◌then◌else◌, arith}
use Rattle.core_model.specs.declared.outcome.Satisfied.{Satisfied}
use Rattle.core_model.specs.Owed.{owed}
use Rattle.access_core.proofs.Calls.{due-as}
use Rattle.access_core.proofs.QueueAt.{IsAdvance}
use Rattle.access_core.proofs.Terms.{Call, History, Inside, IsCached, IsInPlace, Owed, PacketId, Place, Poll, Progress, QueueId, due, enters, history_of, is_full, look_owed, owed_poll, polled_as, refuses, satisfied_by_either}
use Rattle.access_core.specs.declared.access.polling.Look.TheVariants.{Sees}
use Rattle.core_model.specs.declared.outcome.Outcome.TheVariants as outcome
use Rattle.core_model.specs.declared.refusal.Refusal.TheVariants as refusal

-- how far a packet has come once it has seen this
abbrev pub seen_further : Satisfied → Progress → Progress
seen_further new so_far = record so_far { satisfied = satisfied_by_either so_far.satisfied new }

-- by the entry the packet comes as far
pub polled_as-advances : (queue : QueueId) (id : PacketId) (ready : Bool) (new : Satisfied) → IsAdvance queue id (seen_further new) (Call (Poll queue id)) (outcome.Polled (polled_as ready new)) []
polled_as-advances queue id true new = record { launches = refl; progress = λ q i so_far. refl; stays = λ q i. refl; releases = λ fs. refl; views = λ m v places. refl }
polled_as-advances queue id false new = record { launches = refl; progress = λ q i so_far. refl; stays = λ q i. refl; releases = λ fs. refl; views = λ m v places. refl }

-- what a poll is owed, by the values that are cached
pub poll-owed : (a : Inside) → IsCached a → (old : History) → history_of a ≡ old → (queue : QueueId) (id : PacketId) (place : Place) → IsInPlace old queue id place → (owing : Owed)
    → owed_poll a.signals queue id place.packet place.progress ≡ owing → owed (beginning old) old.entries (Call (Poll queue id)) ≡ owing
unfolding owed
poll-owed a kept old seen_as queue id place found owing is = grind arith

-- what is due where further positions are seen, by whether there is room
pub sees-due : (a : Inside) → IsCached a → (old : History) → history_of a ≡ old → (queue : QueueId) (id : PacketId) (place : Place) → IsInPlace old queue id place → (new : Satisfied) (ready : Bool)
    → owed_poll a.signals queue id place.packet place.progress ≡ look_owed queue id (Sees new ready) → (full : Bool) → is_full old ≡ full
    → due old (Call (Poll queue id)) ≡ (if full then refuses refusal.AuditFull else enters (outcome.Polled (polled_as ready new)) [])
sees-due a kept old seen_as queue id place found new true owing full is =
    due-as old (Call (Poll queue id)) _ (poll-owed a kept old seen_as queue id place found _ owing)
    ∙ ap (λ b. if b then refuses refusal.AuditFull else enters (outcome.Polled (polled_as true new)) []) is
sees-due a kept old seen_as queue id place found new false owing full is =
    due-as old (Call (Poll queue id)) _ (poll-owed a kept old seen_as queue id place found _ owing)
    ∙ ap (λ b. if b then refuses refusal.AuditFull else enters (outcome.Polled (polled_as false new)) []) is
