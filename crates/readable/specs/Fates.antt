-- What came of packets in a drain: of each by the replies to the requests that name it, in their order (own).
use Rattle.std.specs.Prelude.{ℕ, ◌==◌, ◌&&◌, Bool, true, false, not, List, [], ◌∷◌, ◌++◌, Option, Some, None, if◌then◌else◌}
use Rattle.std.specs.List.{list_any}
use Rattle.aql_packet.specs.declared.ids.PacketId.{PacketId}
use Rattle.aql_packet.specs.declared.ids.QueueId.{QueueId}
use Rattle.aql_packet.specs.declared.packet.Packet.{Packet}
use Rattle.aql_packet.specs.Ids.{same_packet}
use Rattle.core_model.specs.declared.outcome.Outcome.{Outcome}
use Rattle.core_model.specs.declared.outcome.Outcome.TheVariants as outcome
use Rattle.core_model.specs.declared.outcome.Polled.{Polled}
use Rattle.core_model.specs.declared.outcome.Polled.TheVariants as polled
use Rattle.core_model.specs.declared.outcome.Taken.{Taken}
use Rattle.core_model.specs.declared.outcome.Taken.TheVariants as taken
use Rattle.core_model.specs.declared.outcome.Worked.{Worked}
use Rattle.core_model.specs.declared.outcome.Worked.TheVariants as worked
use Rattle.readable.specs.declared.fates.Ending.TheVariants as ending
use Rattle.readable.specs.declared.fates.Fate.{Fate}
use Rattle.readable.specs.declared.moves.Came.{Came}
use Rattle.readable.specs.declared.moves.Came.TheVariants as came
use Rattle.readable.specs.declared.moves.Move.{Move}
use Rattle.readable.specs.Moves.{Made, came_of, packet_of, queue_of}
use Rattle.readable.specs.Tallies.{one_more}

-- nothing came of it yet
abbrev pub begun : QueueId → PacketId → Option Packet → Fate
begun queue packet about = record { queue = queue; packet = packet; about = about; launched = false; ran = 0; ready = false; ending = ending.Open }

-- with what became of it as it was handed over
abbrev pub with_taken : Fate → Taken → Fate
with_taken f taken.Launched = record { queue = f.queue; packet = f.packet; about = f.about; launched = true; ran = f.ran; ready = f.ready; ending = f.ending }
with_taken f (taken.Denied error) = record { queue = f.queue; packet = f.packet; about = f.about; launched = f.launched; ran = f.ran; ready = f.ready; ending = ending.Denied error.rule }
with_taken f (taken.Waiting cause) = f

-- with what became of a group
abbrev pub with_worked : Fate → Worked → Fate
with_worked f (worked.Ran group left) = record { queue = f.queue; packet = f.packet; about = f.about; launched = f.launched; ran = one_more f.ran; ready = f.ready; ending = f.ending }
with_worked f (worked.Faulted error) = record { queue = f.queue; packet = f.packet; about = f.about; launched = f.launched; ran = f.ran; ready = f.ready; ending = ending.Faulted error.rule }
with_worked f worked.Done = f

-- with what a poll found
abbrev pub with_polled : Fate → Polled → Fate
with_polled f (polled.Pending seen) = f
with_polled f (polled.Ready seen) = record { queue = f.queue; packet = f.packet; about = f.about; launched = f.launched; ran = f.ran; ready = true; ending = f.ending }
with_polled f (polled.Failed error) = record { queue = f.queue; packet = f.packet; about = f.about; launched = f.launched; ran = f.ran; ready = f.ready; ending = ending.Failed error.rule }

-- with what an event came to: of a drain's requests a finish alone is accepted
abbrev pub with_outcome : Fate → Outcome → Fate
with_outcome f outcome.Accepted = record { queue = f.queue; packet = f.packet; about = f.about; launched = f.launched; ran = f.ran; ready = f.ready; ending = ending.Finished }
with_outcome f (outcome.Worked worked) = with_worked f worked
with_outcome f (outcome.Polled polled) = with_polled f polled
with_outcome f _ = f

-- whether something came of a packet by an event
abbrev pub tells : Outcome → Bool
tells outcome.Accepted = true
tells (outcome.Worked worked.Done) = false
tells (outcome.Worked _) = true
tells (outcome.Polled (polled.Pending seen)) = false
tells (outcome.Polled _) = true
tells _ = false

-- whether it is that of a packet
abbrev pub is_of : QueueId → PacketId → Fate → Bool
is_of queue packet fate = same_packet fate.queue fate.packet queue packet

-- what an event came to, put to the last that is of its packet, or else behind all
unfoldable pub put : QueueId → PacketId → Option Packet → Outcome → List Fate → List Fate
put queue packet about outcome [] = with_outcome (begun queue packet about) outcome ∷ []
put queue packet about outcome (fate ∷ fates) =
    if is_of queue packet fate && not (list_any (is_of queue packet) fates) then with_outcome fate outcome ∷ fates
    else fate ∷ put queue packet about outcome fates

-- what became of a packet that was handed over, behind all
abbrev pub put_taken : QueueId → PacketId → Option Packet → Taken → List Fate → List Fate
put_taken queue packet about (taken.Waiting cause) fates = fates
put_taken queue packet about taken.Launched fates = fates ++ with_taken (begun queue packet about) taken.Launched ∷ []
put_taken queue packet about (taken.Denied error) fates = fates ++ with_taken (begun queue packet about) (taken.Denied error) ∷ []

-- what an event came to, where something came of a packet that its request names
abbrev pub put_outcome : QueueId → Option PacketId → Option Packet → Outcome → List Fate → List Fate
put_outcome queue None about outcome fates = fates
put_outcome queue (Some packet) about outcome fates = if tells outcome then put queue packet about outcome fates else fates

-- with what a request came to
abbrev pub with_fate : List Fate → Move → Option Packet → Came → List Fate
with_fate fates asked about (came.Taken packet taken) = put_taken (queue_of asked) packet about taken fates
with_fate fates asked about (came.Outcome outcome) = put_outcome (queue_of asked) (packet_of asked) about outcome fates
with_fate fates asked about came.Nothing = fates
with_fate fates asked about (came.Refused why) = fates

-- with what requests in turn came to
unfoldable pub fated : List Fate → List Made → List Fate
fated fates [] = fates
fated fates (made ∷ later) = fated (with_fate fates made.asked made.about (came_of made.told)) later
