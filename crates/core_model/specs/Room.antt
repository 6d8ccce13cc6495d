-- How much room an audit keeps for what comes of the packets in flight.
use Rattle.std.specs.Prelude.{◌+◌, ◌≡◌, ◌≤◌, length}
use Rattle.core_model.specs.declared.event.Event.{Event}
use Rattle.core_model.specs.History.{beginning, History}
use Rattle.core_model.specs.Flight.{flight}
use Rattle.core_model.specs.Owed.{owed}
use Rattle.core_model.specs.Legal.{due}

-- an audit keeps a place for each packet in flight: its entries and those packets together are at most its capacity (own)
abbrev pub HasRoom : History → Type 0
HasRoom history = length history.entries + length (flight (beginning history) history.entries) ≤ history.capacity

-- an event is due what it is owed, however full the audit is (own)
abbrev pub FindsRoom : History → Event → Type 0
FindsRoom history event = due history event ≡ owed (beginning history) history.entries event
