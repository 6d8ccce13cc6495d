-- What memory is asked for, by a query and by an event that is entered: what it copies, or makes a list of (own).
use Rattle.std.specs.Prelude.{ℕ, ◌+◌, Bool, true, false, nat_lt, length, List, Option, Some, None, Ok, Err}
use Rattle.aql_packet.specs.declared.packet.Packet.{Packet}
use Rattle.aql_packet.specs.declared.packet.Packet.TheVariants as packet
use Rattle.core_model.specs.declared.answer.Answer.{Answer}
use Rattle.core_model.specs.declared.answer.Answer.TheVariants as answer
use Rattle.core_model.specs.declared.call.Call.TheVariants.{RunNext, HostWrite}
use Rattle.core_model.specs.declared.entry.Entry.{Entry}
use Rattle.core_model.specs.declared.event.Event.{Event}
use Rattle.core_model.specs.declared.event.Event.TheVariants.{Take, Reload, Call}
use Rattle.core_model.specs.declared.flight.InFlight.{InFlight}
use Rattle.core_model.specs.declared.outcome.Outcome.TheVariants as outcome
use Rattle.core_model.specs.declared.outcome.Taken.TheVariants.{Launched}
use Rattle.core_model.specs.declared.origin.Opening.{Opening}
use Rattle.core_model.specs.Flight.{in_flight, launched_by}
use Rattle.core_model.specs.History.{History, Start, beginning}
use Rattle.core_model.specs.Holds.{arguments_of, rights_at_launch}
use Rattle.core_model.specs.Owed.{Owed, enters}
use Rattle.core_model.specs.Queries.{AnswerOrRefusal}
use Rattle.core_model.specs.Queues.{owner}

-- how many bytes, rights, errors or entries an answer copies; a value copies none (own)
abbrev pub copied_by : Answer → ℕ
copied_by (answer.Bytes bytes) = length bytes
copied_by (answer.Listing rights) = length rights
copied_by (answer.Errors errors) = length errors
copied_by (answer.Audit before entries) = length entries
copied_by _ = 0

-- whether a query that is replied this asks for memory: for what its answer copies; one that is refused never does (own)
abbrev pub query_may_lack_memory : AnswerOrRefusal → Bool
query_may_lack_memory (Err _) = false
query_may_lack_memory (Ok answered) = nat_lt 0 (copied_by answered)

-- how many rights and bytes a launch makes lists of: the rights that its packet holds, and its argument block (own)
abbrev pub listed_at_launch : Start → List Entry → Option Opening → Option InFlight → ℕ
listed_at_launch start entries (Some opening) (Some f) = length (rights_at_launch start entries opening f.packet) + length (arguments_of start entries f.packet)
listed_at_launch start entries _ _ = 0

-- whether the next group of a packet asks for memory: one of a kernel dispatch always, for what its work-items keep; that of an agent
-- dispatch only where it is entered with something that it writes, for those bytes (own)
abbrev pub asks_for_group : Packet → Owed → Bool
asks_for_group (packet.Kernel _) owing = true
asks_for_group _ (enters _ effects) = nat_lt 0 (length effects)
asks_for_group _ _ = false

-- the same of a packet in flight, if there is one (own)
abbrev pub asks_in_flight : Option InFlight → Owed → Bool
asks_in_flight None owing = false
asks_in_flight (Some f) owing = asks_for_group f.packet owing

-- Whether an event that is due this asks for memory by what it copies or makes a list of: a launch, a group, a client's write its bytes, a
-- reload its rows. Of the others only an opening may lack memory: it makes lists for its queue's errors and releases, of places whatever it
-- is handed (own).
abbrev pub asks_for_memory : History → Event → Owed → Bool
asks_for_memory history (Take queue id bytes) owing =
    nat_lt 0 (listed_at_launch (beginning history) history.entries (owner (beginning history) history.entries queue) (launched_by (Take queue id bytes) (outcome.Taken Launched)))
asks_for_memory history (Call (RunNext queue id)) owing = asks_in_flight (in_flight (beginning history) history.entries queue id) owing
asks_for_memory history (Call (HostWrite client address bytes)) owing = nat_lt 0 (length bytes)
asks_for_memory history (Reload rows) owing = nat_lt 0 (length rows.allows + length rows.denies)
asks_for_memory history _ owing = true
