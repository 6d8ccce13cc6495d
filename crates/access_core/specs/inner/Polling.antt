-- What polls of barrier packets are owed.
use Rattle.std.specs.Prelude.{[], ◌∷◌, Bool, true, false}
use Rattle.aql_packet.specs.declared.ids.QueueId.{QueueId}
use Rattle.aql_packet.specs.declared.ids.PacketId.{PacketId}
use Rattle.queue_error.specs.declared.rule.Rule.TheVariants.{B1}
use Rattle.core_model.specs.declared.entry.Effect.TheVariants as effect
use Rattle.core_model.specs.declared.outcome.Satisfied.{Satisfied}
use Rattle.core_model.specs.declared.outcome.Outcome.TheVariants as outcome
use Rattle.core_model.specs.declared.outcome.Polled.{Polled}
use Rattle.core_model.specs.declared.outcome.Polled.TheVariants.{Pending, Ready, Failed}
use Rattle.core_model.specs.Owed.{Owed, answers, enters, error_without_place}
use Rattle.access_core.specs.declared.access.polling.Look.{Look}
use Rattle.access_core.specs.declared.access.polling.Look.TheVariants.{Still, Fails, Sees}

-- what is answered of positions that are seen as 0 for the first time, with which the barrier is ready or not
abbrev pub polled_as : Bool → Satisfied → Polled
polled_as true new = Ready new
polled_as false new = Pending new

-- what a poll is owed by what it finds
abbrev pub look_owed : QueueId → PacketId → Look → Owed
look_owed queue id (Still told) = answers (outcome.Polled told)
look_owed queue id Fails = enters (outcome.Polled (Failed (error_without_place queue id.0 B1))) (effect.Release queue id ∷ [])
look_owed queue id (Sees new ready) = enters (outcome.Polled (polled_as ready new)) []
