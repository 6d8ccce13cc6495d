-- A round of a drain, and a drain that is over: behind a round in which nothing moved (own).
use Rattle.std.specs.Prelude.{ℕ, ◌≡◌, ◌==◌, ◌||◌, Bool, true, false, List, [], ◌∷◌, ◌++◌, filter, Option, Some, None}
use Rattle.std.specs.List.{list_any}
use Rattle.aql_packet.specs.declared.ids.QueueId.{QueueId}
use Rattle.aql_packet.specs.declared.ids.PacketId.{PacketId}
use Rattle.aql_packet.specs.declared.packet.Packet.{Packet}
use Rattle.aql_packet.specs.declared.packet.Packet.TheVariants as packet
use Rattle.core_model.specs.declared.flight.InFlight.{InFlight}
use Rattle.core_model.specs.Flight.{flight}
use Rattle.core_model.specs.History.{beginning}
use Rattle.world.specs.States.{IsNextOpen, Joined}
use Rattle.readable.specs.declared.flight.Queues.{Queues}
use Rattle.readable.specs.declared.flight.Queues.TheVariants as queues
use Rattle.readable.specs.declared.moves.Move.{Move}
use Rattle.readable.specs.declared.moves.Move.TheVariants as move
use Rattle.readable.specs.declared.steps.Step.{Step}
use Rattle.readable.specs.Moves.{Made, MadeInTurn}
use Rattle.readable.specs.Steps.{has_moved, is_again, is_done, step_made}

-- ---- which queues and packets

-- whether a queue is one of those that are drained, if it is open
abbrev pub has : Queues → QueueId → Bool
has (queues.One one) queue = one.0 == queue.0
has queues.All queue = true

-- the first of these queues: the one that is named, or the first that is open
abbrev pub IsFirst : Queues → Joined → Option QueueId → Type 0
IsFirst (queues.One one) world next = next ≡ Some one
IsFirst queues.All world next = IsNextOpen world (record { 0 = 0 }) next

-- the one behind another: none, or the next that is open
abbrev pub IsBehind : Queues → Joined → QueueId → Option QueueId → Type 0
IsBehind (queues.One one) world queue next = next ≡ None
IsBehind queues.All world queue next = IsNextOpen world queue next

-- the packets of these queues that are in flight, in the order of their launches
abbrev pub flight_in : Queues → Joined → List InFlight
flight_in queues world = filter (λ f. has queues f.queue) (flight (beginning world.core) world.core.entries)

-- the request that works on a packet, and the one that finishes it
abbrev pub work_by : QueueId → PacketId → Packet → Move
work_by queue id (packet.Kernel kernel) = move.Run queue id
work_by queue id (packet.Agent agent) = move.Run queue id
work_by queue id (packet.BarrierAnd barrier) = move.Poll queue id
work_by queue id (packet.BarrierOr barrier) = move.Poll queue id

abbrev pub work_of : InFlight → Move
work_of f = work_by f.queue f.id f.packet

abbrev pub finish_of : InFlight → Move
finish_of f = move.Finish f.queue f.id

-- ---- a round

-- the last of these requests is this one, from which this follows, and it isn't asked once more
abbrev pub EndsWith : Move → Step → List Made → Type 0
EndsWith asked step made =
    (front : List Made) × (last : Made) × (made ≡ front ++ last ∷ []) × (last.asked ≡ asked) × (step_made last ≡ step) × (is_again step ≡ false)

-- queues were served in turn, each as far as it comes, of which these are the numbers, the last first; and this is the one behind them
unfoldable pub Served : Queues → Joined → List QueueId → List Made → Joined → Option QueueId → Type 0
Served queues old [] made new next = (made ≡ []) × (new ≡ old) × IsFirst queues old next
Served queues old (queue ∷ before) made new next =
    (front : List Made) × (last : List Made) × (mid : Joined) × (step : Step) × (made ≡ front ++ last) × Served queues old before front mid (Some queue)
    × MadeInTurn mid last new × EndsWith (move.Serve queue) step last × IsBehind queues new queue next

-- behind the work on a packet it is finished, if the work is done
abbrev pub Finishes : InFlight → Bool → List Made → Type 0
Finishes f true made = (one : Made) × (made ≡ one ∷ []) × (one.asked ≡ finish_of f)
Finishes f false made = made ≡ []

-- a packet was worked on as far as it comes, and finished once that was done
abbrev pub IsWorkedOn : InFlight → List Made → Type 0
IsWorkedOn f made = (work : List Made) × (rest : List Made) × (step : Step) × (made ≡ work ++ rest) × EndsWith (work_of f) step work × Finishes f (is_done step) rest

-- each of some packets was, in turn
unfoldable pub AreWorkedOn : List InFlight → List Made → Type 0
AreWorkedOn [] made = made ≡ []
AreWorkedOn (f ∷ flight) made = (first : List Made) × (rest : List Made) × (made ≡ first ++ rest) × IsWorkedOn f first × AreWorkedOn flight rest

-- a round: all of these queues were served, and then the packets that were in flight worked on
abbrev pub IsRound : Queues → Joined → List Made → Joined → Type 0
IsRound queues old made new =
    (serves : List Made) × (works : List Made) × (mid : Joined) × (served : List QueueId) × (made ≡ serves ++ works)
    × Served queues old served serves mid None × MadeInTurn mid works new × AreWorkedOn (flight_in queues mid) works

-- a drain of these queues is over behind these requests: they end with a round in which nothing moved
abbrev pub IsOver : Queues → Joined → List Made → Joined → Type 0
IsOver queues old made new =
    (front : List Made) × (round : List Made) × (mid : Joined) × (made ≡ front ++ round) × MadeInTurn old front mid
    × IsRound queues mid round new × (list_any has_moved round ≡ false)
