-- What each line of a script asks of a world, and what it is answered, row by row (own).
use Rattle.std.specs.Prelude.{ℕ, ◌≡◌, ◌⊎◌, Bool, true, false, List, Option, Some, None, Result, Ok, Err, if◌then◌else◌}
use Rattle.aql_packet.specs.declared.ids.PacketId.{PacketId}
use Rattle.aql_packet.specs.declared.ids.QueueId.{QueueId}
use Rattle.policy.specs.Policy.{Declared, numbered}
use Rattle.signals.specs.declared.operation.SignalOp.{SignalOp}
use Rattle.signals.specs.declared.operation.SignalOp.TheVariants as op
use Rattle.ring_core.specs.declared.access.Access.{Access}
use Rattle.ring_core.specs.declared.access.Access.TheVariants.{Reserve, LoadBody, RaiseReadIndex}
use Rattle.ring_core.specs.declared.access.Seen.TheVariants as seen
use Rattle.core_model.specs.declared.call.Call.{Call}
use Rattle.core_model.specs.declared.call.Call.TheVariants as call
use Rattle.core_model.specs.declared.refusal.Refusal.TheVariants as why
use Rattle.world.specs.declared.lane.Served.{Served}
use Rattle.world.specs.declared.lane.Shown.{Shown}
use Rattle.world.specs.declared.reply.Answer.TheVariants as answer
use Rattle.world.specs.declared.reply.Refusal.TheVariants as refusal
use Rattle.world.specs.declared.reply.Refusal.{Refusal}
use Rattle.world.specs.declared.request.Request.{Request}
use Rattle.world.specs.declared.request.Request.TheVariants as request
use Rattle.world.specs.Actions.{Action, and_then, asks, returns}
use Rattle.world.specs.Lanes.{answer_of, peek, publish, retire, serve_next, submit}
use Rattle.script.specs.declared.command.Command.{Command}
use Rattle.script.specs.declared.command.Command.TheVariants as command
use Rattle.script.specs.declared.command.NumberMeaning.{NumberMeaning}
use Rattle.script.specs.declared.command.NumberMeaning.TheVariants as meaning
use Rattle.script.specs.declared.command.LineAnswer.{LineAnswer}
use Rattle.script.specs.declared.command.LineAnswer.TheVariants as line

-- ---- one request

-- the operation's old value is told
abbrev pub gives_old : SignalOp → Bool
gives_old (op.Exchange value) = true
gives_old (op.Cas expected value) = true
gives_old _ = false

-- how the answer to a call, what a step read, and the answer to any request are told
abbrev pub meaning_of_call : Call → NumberMeaning
meaning_of_call (call.ChangeSignal client signal operation) = if gives_old operation then meaning.Old else meaning.Plain
meaning_of_call _ = meaning.Plain

abbrev pub meaning_of_access : Access → NumberMeaning
meaning_of_access Reserve = meaning.Ticket
meaning_of_access (LoadBody place) = meaning.Word
meaning_of_access RaiseReadIndex = meaning.Raised
meaning_of_access _ = meaning.Plain

abbrev pub meaning_of : Request → NumberMeaning
meaning_of (request.Step queue step) = meaning_of_access step.access
meaning_of (request.Call call) = meaning_of_call call
meaning_of _ = meaning.Plain

-- the request, and its answer told so
abbrev pub ask : Request → Action LineAnswer
ask request = and_then (asks request) (λ answer. returns (line.Answered (meaning_of request) answer))

-- ---- a packet's way through a queue's ring: each line is a call of the world, and its value told so

abbrev pub publish_line : QueueId → ℕ → PacketId → List ℕ → Action LineAnswer
publish_line queue producer ticket words = and_then (publish queue producer ticket words) (λ sent. returns (line.Sent sent))

abbrev pub submit_line : QueueId → ℕ → List ℕ → Action LineAnswer
submit_line queue producer words = and_then (submit queue producer words) (λ sent. returns (line.Sent sent))

abbrev pub shown_or_empty : Option Shown → LineAnswer
shown_or_empty None = line.Empty
shown_or_empty (Some shown) = line.Shown shown

abbrev pub peek_line : QueueId → Action LineAnswer
peek_line queue = and_then (peek queue) (λ shown. returns (shown_or_empty shown))

-- the read index before it was raised, told as that which was raised
abbrev pub raised : ℕ → LineAnswer
raised read = line.Answered meaning.Raised (answer.Step (seen.Read read))

abbrev pub retire_line : QueueId → Action LineAnswer
retire_line queue = and_then (retire queue) (λ read. returns (raised read))

-- what became of the packet, told as the answer to its take
abbrev pub served_or_empty : Option Served → LineAnswer
served_or_empty None = line.Empty
served_or_empty (Some served) = line.Answered meaning.Plain (answer_of served)

abbrev pub serve_line : QueueId → Action LineAnswer
serve_line queue = and_then (serve_next queue) (λ served. returns (served_or_empty served))

-- ---- reload

-- a further policy is there to be handed in, as a copy, or memory was wanted for it; a line of a form names one that is there
abbrev pub IsCopied : Option Declared → Result Declared Refusal → Type 0
IsCopied (Some policy) result = (result ≡ Ok policy) ⊎ (result ≡ Err (refusal.Core why.OutOfMemory))
IsCopied None result = result ≡ Err refusal.NotAStep

abbrev pub copies : Option Declared → Action Declared
copies named old result new = IsCopied named result × (new ≡ old)

-- the further policy of a number is handed in, as a copy
abbrev pub reload : Option Declared → Action LineAnswer
reload named = and_then (copies named) (λ policy. ask (request.Reload policy))

-- ---- any line

-- what a line does, where these are the further policies (own)
unfoldable pub does : List Declared → Command → Action LineAnswer
does later (command.Ask request) = ask request
does later (command.Publish queue producer ticket words) = publish_line queue producer ticket words
does later (command.Submit queue producer words) = submit_line queue producer words
does later (command.Peek queue) = peek_line queue
does later (command.Retire queue) = retire_line queue
does later (command.Serve queue) = serve_line queue
does later (command.Reload number) = reload (numbered later number)
