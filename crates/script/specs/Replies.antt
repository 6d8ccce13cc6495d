-- Replies as texts, row by row (own). Each line of a reply ends with a line feed.
use Rattle.std.specs.Prelude.{ℕ, ◌+◌, Bool, true, false, List, [], ◌++◌, length, flat_map, codes, decimal, Result, Ok, Err, if◌then◌else◌}
use Rattle.std.specs.Fmt.{signed_decimal}
use Rattle.aql_packet.specs.declared.ids.PacketId.{PacketId}
use Rattle.policy.specs.declared.object.Object.{Object}
use Rattle.policy.specs.declared.rights.Rights.{Rights}
use Rattle.policy.specs.Object.{kind_of, number_of}
use Rattle.policy.specs.KindNames.{name_of_kind}
use Rattle.policy.specs.RightNames.{name_of_right}
use Rattle.policy.specs.Policy.{Declared}
use Rattle.queue_error.specs.declared.error.QueueError.{QueueError}
use Rattle.queue_error.specs.Texts.{text_of_error}
use Rattle.core_model.specs.declared.refusal.Refusal.{Refusal}
use Rattle.core_model.specs.declared.refusal.Refusal.TheVariants as refusal
use Rattle.core_model.specs.declared.outcome.WaitCause.{WaitCause}
use Rattle.core_model.specs.declared.outcome.WaitCause.TheVariants as cause
use Rattle.core_model.specs.declared.outcome.Taken.{Taken}
use Rattle.core_model.specs.declared.outcome.Taken.TheVariants as taken
use Rattle.core_model.specs.declared.outcome.Worked.{Worked}
use Rattle.core_model.specs.declared.outcome.Worked.TheVariants as worked
use Rattle.core_model.specs.declared.outcome.Polled.{Polled}
use Rattle.core_model.specs.declared.outcome.Polled.TheVariants as polled
use Rattle.core_model.specs.declared.outcome.Outcome.{Outcome}
use Rattle.core_model.specs.declared.outcome.Outcome.TheVariants as outcome
use Rattle.core_model.specs.declared.answer.Answer.{Answer}
use Rattle.core_model.specs.declared.answer.Answer.TheVariants as answer
use Rattle.ring_core.specs.declared.access.Seen.{Seen}
use Rattle.ring_core.specs.declared.access.Seen.TheVariants as seen
use Rattle.world.specs.declared.lane.Sent.{Sent}
use Rattle.world.specs.declared.lane.Sent.TheVariants as sent
use Rattle.world.specs.declared.reply.Answer.{Answer as Made}
use Rattle.world.specs.declared.reply.Answer.TheVariants as made
use Rattle.world.specs.declared.reply.Refusal.{Refusal as Why}
use Rattle.world.specs.declared.reply.Refusal.TheVariants as why
use Rattle.script.specs.declared.command.NumberMeaning.{NumberMeaning}
use Rattle.script.specs.declared.command.NumberMeaning.TheVariants as meaning
use Rattle.script.specs.declared.command.LineAnswer.{LineAnswer}
use Rattle.script.specs.declared.command.LineAnswer.TheVariants as line
use Rattle.words.specs.Bytes.{text_of_bytes}
use Rattle.script.specs.Refusals.{name_of_why, number_of_why}
use Rattle.script.specs.Rights.{text_of_rights}
use Rattle.words.specs.Names.{name_of_object}
use Rattle.words.specs.Packets.{text_of_word}
use Rattle.script.specs.Entries.{text_of_audit, text_of_rotated}

-- what a refusal names
abbrev pub details_of_refusal : Refusal → List ℕ
details_of_refusal (refusal.Denied right) = codes " " ++ name_of_right right
details_of_refusal (refusal.Busy queue packet) = codes " queue " ++ decimal queue.0 ++ codes " packet " ++ decimal packet.0
details_of_refusal (refusal.OutOfStep next) = codes " " ++ decimal next
details_of_refusal _ = []

-- why a packet waits
abbrev pub text_of_cause : WaitCause → List ℕ
text_of_cause cause.Barrier = codes "Barrier"
text_of_cause cause.Active = codes "Active"
text_of_cause cause.Slots = codes "Slots"

-- what became of a packet that was handed over
abbrev pub text_of_taken : PacketId → Taken → List ℕ
text_of_taken packet taken.Launched = codes "launched " ++ decimal packet.0
text_of_taken packet (taken.Denied error) = codes "denied " ++ text_of_error error
text_of_taken packet (taken.Waiting why) = codes "waiting " ++ decimal packet.0 ++ codes " " ++ text_of_cause why

-- what became of a group
abbrev pub text_of_worked : Worked → List ℕ
text_of_worked (worked.Ran group left) = codes "ran " ++ decimal group ++ codes " left " ++ decimal left
text_of_worked (worked.Faulted error) = codes "faulted " ++ text_of_error error
text_of_worked worked.Done = codes "done"

-- what a poll found
abbrev pub text_of_polled : Polled → List ℕ
text_of_polled (polled.Pending seen) = codes "pending"
text_of_polled (polled.Ready seen) = codes "ready"
text_of_polled (polled.Failed error) = codes "failed " ++ text_of_error error

-- what an event came to; `old` says whether the old value of a signal is told
abbrev pub text_of_outcome : Bool → Outcome → List ℕ
text_of_outcome old outcome.Accepted = codes "ok"
text_of_outcome old (outcome.Opened queue) = codes "queue " ++ decimal queue.0
text_of_outcome old (outcome.Taken taken) = codes "ok"
text_of_outcome old (outcome.Worked worked) = text_of_worked worked
text_of_outcome old (outcome.Polled polled) = text_of_polled polled
text_of_outcome old (outcome.Changed value) = if old then codes "old " ++ signed_decimal value else codes "ok"

-- an object with a client's rights on it: `KIND NUMBER NAME R,R`
abbrev pub text_of_listed : Declared → Object → Rights → List ℕ
text_of_listed policy object rights =
    name_of_kind (kind_of object) ++ codes " " ++ decimal (number_of object) ++ codes " "
    ++ name_of_object policy object ++ codes " " ++ text_of_rights rights ++ codes "\n"

-- a listing: `list N`, then N lines
abbrev pub text_of_listing : Declared → List (Object × Rights) → List ℕ
text_of_listing policy all = codes "list " ++ decimal (length all) ++ codes "\n" ++ flat_map (λ listed. text_of_listed policy listed.0 listed.1) all

-- an error of a listing
abbrev pub line_of_error : QueueError → List ℕ
line_of_error error = text_of_error error ++ codes "\n"

-- a queue's errors: `errors N`, then N lines
abbrev pub text_of_errors : List QueueError → List ℕ
text_of_errors all = codes "errors " ++ decimal (length all) ++ codes "\n" ++ flat_map line_of_error all

-- an answer of the core
abbrev pub text_of_answer : Declared → Bool → Answer → List ℕ
text_of_answer policy old (answer.Outcome outcome) = text_of_outcome old outcome ++ codes "\n"
text_of_answer policy old (answer.Bytes bytes) = codes "bytes " ++ text_of_bytes bytes ++ codes "\n"
text_of_answer policy old (answer.Value value) = codes "value " ++ signed_decimal value ++ codes "\n"
text_of_answer policy old (answer.Test held) = if held then codes "true\n" else codes "false\n"
text_of_answer policy old (answer.Listing all) = text_of_listing policy all
text_of_answer policy old (answer.Errors all) = text_of_errors all
text_of_answer policy old (answer.Audit before all) = text_of_audit policy before all

-- ---- what the world answers

-- the old value of a signal is told
abbrev pub tells_old : NumberMeaning → Bool
tells_old meaning.Old = true
tells_old _ = false

-- a number that a step read; of a read index that was raised, the one after it
abbrev pub text_of_number : NumberMeaning → ℕ → List ℕ
text_of_number meaning.Ticket number = codes "ticket " ++ decimal number
text_of_number meaning.Word number = codes "word " ++ text_of_word number
text_of_number meaning.Raised number = codes "read " ++ decimal (number + 1)
text_of_number _ number = codes "read " ++ decimal number

-- what a step read
abbrev pub text_of_seen : NumberMeaning → Seen → List ℕ
text_of_seen meaning (seen.Read number) = text_of_number meaning number
text_of_seen meaning seen.Stored = codes "ok"

-- an answer of the world
abbrev pub text_of_made : Declared → NumberMeaning → Made → List ℕ
text_of_made policy meaning (made.Step seen) = text_of_seen meaning seen ++ codes "\n"
text_of_made policy meaning (made.Header packet word) = codes "word " ++ text_of_word word ++ codes "\n"
text_of_made policy meaning (made.Taken packet taken) = text_of_taken packet taken ++ codes "\n"
text_of_made policy meaning (made.Core answer) = text_of_answer policy (tells_old meaning) answer
text_of_made policy meaning (made.Rotated part) = text_of_rotated policy part

-- the words of a packet, as its bytes
abbrev pub text_of_words : List ℕ → List ℕ
text_of_words words = flat_map text_of_word words

-- what a refusal of a request names
abbrev pub details_of_why : Why → List ℕ
details_of_why (why.Core refusal) = details_of_refusal refusal
details_of_why why.NotAStep = []
details_of_why why.Spent = []

-- why a request was refused: `refused`, the refusal's number and name, and what it names
abbrev pub text_of_why : Why → List ℕ
text_of_why why = codes "refused " ++ decimal (number_of_why why) ++ codes " " ++ name_of_why why ++ details_of_why why

-- ---- what a line is told

-- what became of a packet that was to be published
abbrev pub text_of_sent : Sent → List ℕ
text_of_sent (sent.Published packet) = codes "published " ++ decimal packet.0 ++ codes "\n"
text_of_sent (sent.Busy ticket read) = codes "busy ticket " ++ decimal ticket.0 ++ codes " read " ++ decimal read ++ codes "\n"
text_of_sent (sent.NotPublishable ticket) = codes "not publishable " ++ decimal ticket.0 ++ codes "\n"

-- what a line is answered
abbrev pub text_of_line_answer : Declared → LineAnswer → List ℕ
text_of_line_answer policy (line.Answered meaning answer) = text_of_made policy meaning answer
text_of_line_answer policy (line.Sent sent) = text_of_sent sent
text_of_line_answer policy (line.Shown shown) = codes "shown " ++ decimal shown.packet.0 ++ codes " " ++ text_of_words shown.words ++ codes "\n"
text_of_line_answer policy line.Empty = codes "empty\n"

-- the reply to a line
abbrev pub text_of_line : Declared → Result LineAnswer Why → List ℕ
text_of_line policy (Ok answer) = text_of_line_answer policy answer
text_of_line policy (Err why) = text_of_why why ++ codes "\n"
