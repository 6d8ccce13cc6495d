use Rattle.core_model.proofs.Room.{event-roomy, list-roomy, opening-roomy}
use Rattle.core_model.proofs.laws.law_audits_keep_room_for_packets_in_flight.Goals as goal

pub returns-clause-opened : goal.returns-clause-opened
returns-clause-opened c = λ history policy kernels capacity is. opening-roomy history policy kernels capacity is

pub returns-clause-event : goal.returns-clause-event
returns-clause-event c = λ old new event reply room served. event-roomy old room event new reply served

pub returns-clause-list : goal.returns-clause-list
returns-clause-list c = λ old new requests replies room are. list-roomy old new requests replies room are
