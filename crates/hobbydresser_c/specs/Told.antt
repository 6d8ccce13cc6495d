-- What the core answers, as C sees it (own).
use Rattle.std.specs.Prelude.{ℕ, pos, Bool, true, false, List, length, Option, Some, None}
use Rattle.core_model.specs.declared.entry.Effect.{Effect}
use Rattle.core_model.specs.declared.entry.Effect.TheVariants as effect
use Rattle.core_model.specs.declared.outcome.Taken.{Taken}
use Rattle.core_model.specs.declared.outcome.Taken.TheVariants as taken
use Rattle.core_model.specs.declared.outcome.WaitCause.TheVariants as cause
use Rattle.core_model.specs.declared.outcome.Worked.{Worked}
use Rattle.core_model.specs.declared.outcome.Worked.TheVariants as worked
use Rattle.core_model.specs.declared.outcome.Polled.{Polled}
use Rattle.core_model.specs.declared.outcome.Polled.TheVariants as polled
use Rattle.policy.specs.declared.object.Kind.{Kind}
use Rattle.policy.specs.declared.object.Kind.TheVariants.{Agent, Region, Signal, Kernel}
use Rattle.policy.specs.declared.object.Object.{Object}
use Rattle.policy.specs.declared.rights.Rights.{Rights}
use Rattle.policy.specs.Object.{kind_of, number_of}
use Rattle.queue_error.specs.declared.rule.Rule.{Rule}
use Rattle.queue_error.specs.declared.rule.Rule.TheVariants.{L1, L2, L3, L4, L5, L6, L7, L8, L9, L10, A1, A2, A3, A4, A5, A6, A7, B1}
use Rattle.queue_error.specs.declared.error.FaultPlace.{FaultPlace}
use Rattle.queue_error.specs.declared.error.QueueError.{QueueError}
use Rattle.hobbydresser_c.specs.declared.told.ErrorRecord.{ErrorRecord}
use Rattle.hobbydresser_c.specs.declared.told.HeldRecord.{HeldRecord}
use Rattle.hobbydresser_c.specs.declared.told.TakenRecord.{TakenRecord}
use Rattle.hobbydresser_c.specs.declared.told.WorkedRecord.{WorkedRecord}
use Rattle.hobbydresser_c.specs.declared.told.PolledRecord.{PolledRecord}
use Rattle.hobbydresser_c.specs.declared.told.EffectRecord.{EffectRecord}

-- the numbers of the rules
abbrev pub number_of_rule : Rule → ℕ
number_of_rule L1 = 1
number_of_rule L2 = 2
number_of_rule L3 = 3
number_of_rule L4 = 4
number_of_rule L5 = 5
number_of_rule L6 = 6
number_of_rule L7 = 7
number_of_rule L8 = 8
number_of_rule L9 = 9
number_of_rule L10 = 10
number_of_rule A1 = 11
number_of_rule A2 = 12
number_of_rule A3 = 13
number_of_rule A4 = 14
number_of_rule A5 = 15
number_of_rule A6 = 16
number_of_rule A7 = 17
number_of_rule B1 = 18

-- the numbers of the kinds
abbrev pub number_of_kind : Kind → ℕ
number_of_kind Agent = 0
number_of_kind Region = 1
number_of_kind Signal = 2
number_of_kind Kernel = 3

-- a client's rights on an object
abbrev pub held_told : Object × Rights → HeldRecord
held_told row = record { kind = number_of_kind (kind_of row.0); number = number_of row.0; rights = row.1.0 }

-- whether a condition held
abbrev pub number_of_test : Bool → ℕ
number_of_test true = 1
number_of_test false = 0

-- no error
abbrev pub no_error : ErrorRecord
no_error = record { queue = 0; packet = 0; rule = 0; has_place = 0; group = 0; item = 0; line = 0 }

-- an error with its place, where it has one
abbrev pub with_place : ErrorRecord → Option FaultPlace → ErrorRecord
with_place told None = told
with_place told (Some place) = record told { has_place = 1; group = place.group; item = place.item; line = place.line }

-- an error
abbrev pub error_told : QueueError → ErrorRecord
error_told error = with_place (record no_error { queue = error.queue.0; packet = error.packet.0; rule = number_of_rule error.rule }) error.place

-- what became of a packet that was handed over
abbrev pub taken_told : Taken → TakenRecord
taken_told taken.Launched = record { became = 0; error = no_error }
taken_told (taken.Denied error) = record { became = 1; error = error_told error }
taken_told (taken.Waiting cause.Barrier) = record { became = 2; error = no_error }
taken_told (taken.Waiting cause.Active) = record { became = 3; error = no_error }
taken_told (taken.Waiting cause.Slots) = record { became = 4; error = no_error }

-- what became of the next group of a dispatch
abbrev pub worked_told : Worked → WorkedRecord
worked_told (worked.Ran group left) = record { became = 0; group = group; left = left; error = no_error }
worked_told (worked.Faulted error) = record { became = 1; group = 0; left = 0; error = error_told error }
worked_told worked.Done = record { became = 2; group = 0; left = 0; error = no_error }

-- what a poll of a barrier packet found
abbrev pub polled_told : Polled → PolledRecord
polled_told (polled.Pending seen) = record { became = 0; error = no_error }
polled_told (polled.Ready seen) = record { became = 1; error = no_error }
polled_told (polled.Failed error) = record { became = 2; error = error_told error }

-- a change
abbrev pub effect_told : Effect → EffectRecord
effect_told (effect.Write address bytes) = record { kind = 0; address = address.0; length = length bytes; signal = 0; before = pos 0; after = pos 0; queue = 0; packet = 0 }
effect_told (effect.Signal signal old new) = record { kind = 1; address = 0; length = 0; signal = signal.0; before = old; after = new; queue = 0; packet = 0 }
effect_told (effect.Release queue packet) = record { kind = 2; address = 0; length = 0; signal = 0; before = pos 0; after = pos 0; queue = queue.0; packet = packet.0 }

-- the bytes that a change wrote, if it did
abbrev pub bytes_of : Effect → Option (List ℕ)
bytes_of (effect.Write address bytes) = Some bytes
bytes_of _ = None
