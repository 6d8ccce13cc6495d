-- What comes of a policy that is handed in to be put in force, and how it is told (own).
use Rattle.std.specs.Prelude.{ℕ, ◌≡◌, List, Result, Ok, Err}
use Rattle.core_model.specs.declared.outcome.Outcome.TheVariants as outcomes
use Rattle.core_model.specs.declared.refusal.Refusal.{Refusal}
use Rattle.core_model.specs.History.{History}
use Rattle.core_model.specs.Legal.{ReloadMeetsOrLacks}
use Rattle.policy.specs.Results.{map_ok}
use Rattle.policy.specs.Policy.{Declared}
use Rattle.policy.specs.Format.{Declares, HasFault}
use Rattle.hobbydresser_c.specs.declared.broker.Broker.{Broker}
use Rattle.hobbydresser_c.specs.declared.opening.FaultRecord.{FaultRecord}
use Rattle.hobbydresser_c.specs.declared.reloading.ReloadFault.{ReloadFault}
use Rattle.hobbydresser_c.specs.declared.reloading.ReloadFault.TheVariants as fault
use Rattle.hobbydresser_c.specs.Calls.{history_of, holder_packet, holder_queue}
use Rattle.hobbydresser_c.specs.Opening.{policy_fault_told}
use Rattle.hobbydresser_c.specs.Statuses.{ok, out_of_memory, status_of_cause, status_of_refusal}

-- the policy that a text declares was handed to the core, which answered so
pub record IsHandedIn (text : List ℕ) (old new : History) (answer : Result (Unit {0}) Refusal) : Type 0 where
  pub policy : Declared
  pub declares : Declares text policy
  pub answered : ReloadMeetsOrLacks policy old new (map_ok (λ done. outcomes.Accepted) answer)

-- what a text comes to that is handed in
abbrev pub ComesTo : List ℕ → History → History → Result (Unit {0}) ReloadFault → Type 0
ComesTo text old new (Ok done) = IsHandedIn text old new (Ok tt)
ComesTo text old new (Err fault.OutOfMemory) = new ≡ old
ComesTo text old new (Err (fault.Policy why)) = HasFault text why × (new ≡ old)
ComesTo text old new (Err (fault.Refused why)) = IsHandedIn text old new (Err why)

-- ---- how it is told

abbrev pub status_of_reload : Result (Unit {0}) ReloadFault → ℕ
status_of_reload (Ok done) = ok
status_of_reload (Err fault.OutOfMemory) = out_of_memory
status_of_reload (Err (fault.Policy why)) = status_of_cause why.cause
status_of_reload (Err (fault.Refused why)) = status_of_refusal why

-- where a text has its fault, after what stood there before
abbrev pub fault_after : FaultRecord → Result (Unit {0}) ReloadFault → FaultRecord
fault_after before (Err (fault.Policy why)) = policy_fault_told why
fault_after before _ = before

-- why the core refused, as far as it did
abbrev pub refused_in : Result (Unit {0}) ReloadFault → Result (Unit {0}) Refusal
refused_in (Err (fault.Refused why)) = Err why
refused_in _ = Ok tt

-- a reload was told: by the status, and where a text has its fault, or which packet holds a right that would go
pub record TellsReload (status : ℕ) (fault_before fault_now : FaultRecord) (queue_before queue_now packet_before packet_now : ℕ) (came : Result (Unit {0}) ReloadFault) : Type 0 where
  pub status_is : status ≡ status_of_reload came
  pub fault_is : fault_now ≡ fault_after fault_before came
  pub queue_is : queue_now ≡ holder_queue queue_before (refused_in came)
  pub packet_is : packet_now ≡ holder_packet packet_before (refused_in came)

-- a text was handed in, and what came of it was told
abbrev pub Reloaded : List ℕ → Broker → Broker → (Result (Unit {0}) ReloadFault → Type 0) → Type 0
Reloaded text old new Tells = (came : Result (Unit {0}) ReloadFault) × ComesTo text (history_of old) (history_of new) came × Tells came
