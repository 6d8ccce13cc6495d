-- What entries took of a queue, by ids and bytes (own).
use Rattle.std.specs.Prelude.{◌==◌, List, Option, Some, None, if◌then◌else◌}
use Rattle.std.specs.List.{filter_map}
use Rattle.aql_packet.specs.declared.ids.QueueId.{QueueId}
use Rattle.core_model.specs.declared.entry.Entry.{Entry}
use Rattle.core_model.specs.declared.event.Event.{Event}
use Rattle.core_model.specs.declared.event.Event.TheVariants.{Take}
use Rattle.core_model.specs.declared.served.Served.{Served}

-- the packet of a queue that an event hands over, if it does
abbrev pub taken_by : QueueId → Event → Option Served
taken_by queue (Take q id bytes) = if q.0 == queue.0 then Some (record { id = id; bytes = bytes }) else None
taken_by queue _ = None

-- the packets of a queue that entries launched or denied, in order
abbrev pub takes : List Entry → QueueId → List Served
takes entries queue = filter_map (λ entry. taken_by queue entry.event) entries
