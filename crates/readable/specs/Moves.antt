-- What a drain asks, and what it comes to: each request is that of a line of a script (own).
use Rattle.std.specs.Prelude.{◌≡◌, List, [], ◌∷◌, Option, Some, None, Result, Ok, Err}
use Rattle.aql_packet.specs.declared.ids.PacketId.{PacketId}
use Rattle.aql_packet.specs.declared.ids.QueueId.{QueueId}
use Rattle.aql_packet.specs.declared.packet.Packet.{Packet}
use Rattle.core_model.specs.declared.answer.Answer as core
use Rattle.core_model.specs.declared.answer.Answer.TheVariants as answer
use Rattle.core_model.specs.declared.call.Call.TheVariants as call
use Rattle.world.specs.declared.reply.Answer.{Answer}
use Rattle.world.specs.declared.reply.Answer.TheVariants as world
use Rattle.world.specs.declared.request.Request.TheVariants as request
use Rattle.world.specs.States.{Joined}
use Rattle.script.specs.declared.command.Command.{Command}
use Rattle.script.specs.declared.command.Command.TheVariants as command
use Rattle.script.specs.declared.command.LineAnswer.TheVariants as line
use Rattle.script.specs.Expansions.{does}
use Rattle.script.specs.Runs.{Told}
use Rattle.readable.specs.declared.moves.Came.{Came}
use Rattle.readable.specs.declared.moves.Came.TheVariants as came
use Rattle.readable.specs.declared.moves.Move.{Move}
use Rattle.readable.specs.declared.moves.Move.TheVariants as move

-- what the line of a request asks
abbrev pub command_of : Move → Command
command_of (move.Serve queue) = command.Serve queue
command_of (move.Run queue packet) = command.Ask (request.Call (call.RunNext queue packet))
command_of (move.Poll queue packet) = command.Ask (request.Call (call.Poll queue packet))
command_of (move.Finish queue packet) = command.Ask (request.Call (call.Finish queue packet))

-- what a reply says of what a request came to
abbrev pub of_core : core.Answer → Came
of_core (answer.Outcome outcome) = came.Outcome outcome
of_core _ = came.Nothing

abbrev pub of_answer : Answer → Came
of_answer (world.Taken packet taken) = came.Taken packet taken
of_answer (world.Core answer) = of_core answer
of_answer _ = came.Nothing

abbrev pub came_of : Told → Came
came_of (Ok (line.Answered meaning answer)) = of_answer answer
came_of (Ok _) = came.Nothing
came_of (Err why) = came.Refused why

-- the queue that a request is about, and the packet, if it names one
abbrev pub queue_of : Move → QueueId
queue_of (move.Serve queue) = queue
queue_of (move.Run queue packet) = queue
queue_of (move.Poll queue packet) = queue
queue_of (move.Finish queue packet) = queue

abbrev pub packet_of : Move → Option PacketId
packet_of (move.Serve queue) = None
packet_of (move.Run queue packet) = Some packet
packet_of (move.Poll queue packet) = Some packet
packet_of (move.Finish queue packet) = Some packet

-- a request that was made, what it was replied, and the packet that it launched or was about
pub record Made : Type 0 where
  pub asked : Move
  pub told : Told
  pub about : Option Packet

-- requests are made in turn, each as its line would be
unfoldable pub MadeInTurn : Joined → List Made → Joined → Type 0
MadeInTurn old [] new = new ≡ old
MadeInTurn old (made ∷ later) new =
    (mid : Joined) × does [] (command_of made.asked) old made.told mid × MadeInTurn mid later new
