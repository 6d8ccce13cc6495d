-- Lines and the requests that they stand for, row by row (own).
use Rattle.std.specs.Prelude.{ℕ, Bool, false, ◌==◌, ◌&&◌, nat_le, nat_lt, List, [], ◌∷◌, length, codes, Option, Some, None, option_map, option_and_then, bytes_eq, if◌then◌else◌}
use Rattle.std.specs.Option.{option_or}
use Rattle.aql_packet.specs.declared.ids.ClientId.{ClientId}
use Rattle.aql_packet.specs.declared.ids.QueueId.{QueueId}
use Rattle.aql_packet.specs.declared.ids.PacketId.{PacketId}
use Rattle.aql_packet.specs.declared.ids.AgentHandle.{AgentHandle}
use Rattle.aql_packet.specs.declared.ids.SignalHandle.{SignalHandle}
use Rattle.policy.specs.declared.object.Kind.{Kind}
use Rattle.policy.specs.declared.object.Kind.TheVariants as kind
use Rattle.policy.specs.declared.object.Object.{Object}
use Rattle.policy.specs.declared.rights.Rights.{Rights}
use Rattle.policy.specs.Format.{kind_named}
use Rattle.policy.specs.Object.{object_of}
use Rattle.policy.specs.Policy.{Declared, number_in, names_of}
use Rattle.signals.specs.declared.operation.SignalOp.{SignalOp}
use Rattle.signals.specs.declared.operation.SignalOp.TheVariants as op
use Rattle.core_model.specs.declared.event.Query.{Query}
use Rattle.core_model.specs.declared.event.Query.TheVariants as query
use Rattle.ring_core.specs.declared.access.Access.{Access}
use Rattle.ring_core.specs.declared.access.Access.TheVariants.{Reserve, LoadReadIndex, StoreBody, StoreHeader, LoadHeader, LoadBody, ClearHeader, RaiseReadIndex}
use Rattle.core_model.specs.declared.call.Call.{Call}
use Rattle.core_model.specs.declared.call.Call.TheVariants as call
use Rattle.world.specs.declared.request.Request.TheVariants as request
use Rattle.script.specs.Limits.{longest_line}
use Rattle.script.specs.declared.command.Command.{Command}
use Rattle.script.specs.declared.command.Command.TheVariants as command
use Rattle.script.specs.declared.lines.Line.{Line}
use Rattle.script.specs.declared.lines.Line.TheVariants as line
use Rattle.script.specs.declared.forms.Verb.{Verb}
use Rattle.script.specs.declared.forms.Verb.TheVariants as verb
use Rattle.world.specs.Actions.{step}
use Rattle.script.specs.Forms.{verb_of}
use Rattle.words.specs.Lines.{Word, words, no_words, one_word, two_words, three_words, four_words, five_words}
use Rattle.script.specs.Operations.{operation_of, condition_word}
use Rattle.words.specs.Numbers.{decimal_word, signed_word, address_word}
use Rattle.words.specs.Bytes.{bytes_word}
use Rattle.words.specs.Packets.{eight_bytes, packet_word}
use Rattle.script.specs.Rights.{rights_word}

-- the client of a name; a name that isn't there is number 0
abbrev pub client_in : Declared → Word → ClientId
client_in policy name = record { 0 = number_in policy.clients name }

-- the object of a kind and a name; a name that isn't there is number 0
abbrev pub object_in : Declared → Kind → Word → Object
object_in policy kind name = object_of kind (number_in (names_of policy kind) name)

-- the agent of a name, and the signal of a name
abbrev pub agent_in : Declared → Word → AgentHandle
agent_in policy name = record { 0 = number_in (names_of policy kind.Agent) name }

abbrev pub signal_in : Declared → Word → SignalHandle
signal_in policy name = record { 0 = number_in (names_of policy kind.Signal) name }

-- lines of one request: a call, a query, a step of a producer, a step of the processor, which has seat 0
abbrev pub calls : Call → Command
calls call = command.Ask (request.Call call)

abbrev pub asks : Query → Command
asks query = command.Ask (request.Query query)

abbrev pub steps : ℕ → ℕ → Access → Command
steps queue seat access = command.Ask (step (record { 0 = queue }) seat access)

abbrev pub processes : Access → QueueId → Command
processes access queue = command.Ask (step queue 0 access)

-- `C KIND NAME R,R`
abbrev pub rights_on : Declared → List Word → Option (ClientId × Object × Rights)
rights_on policy words = option_and_then (λ w. option_and_then (λ kind. option_map (λ rights.
    (client_in policy w.0, object_in policy kind w.2, rights)) (rights_word w.3)) (kind_named w.1)) (four_words words)

-- `grant C KIND NAME R,R`
abbrev pub grant_row : Declared → List Word → Option Command
grant_row policy words = option_map (λ row. calls (call.Grant row.0 row.1 row.2)) (rights_on policy words)

-- `revoke C KIND NAME R,R`
abbrev pub revoke_row : Declared → List Word → Option Command
revoke_row policy words = option_map (λ row. calls (call.Revoke row.0 row.1 row.2)) (rights_on policy words)

-- `queue C AGENT SIZE PRODUCERS`
abbrev pub queue_row : Declared → List Word → Option Command
queue_row policy words = option_and_then (λ w. option_and_then (λ size. option_map (λ producers.
    command.Ask (request.OpenQueue (client_in policy w.0) (agent_in policy w.1) size producers)) (decimal_word w.3)) (decimal_word w.2)) (four_words words)

-- `Q`
abbrev pub queue_of : List Word → Option QueueId
queue_of words = option_and_then (λ w. option_map (λ queue. record { 0 = queue }) (decimal_word w)) (one_word words)

-- `Q ID`
abbrev pub packet_of_queue : List Word → Option (QueueId × PacketId)
packet_of_queue words = option_and_then (λ w. option_and_then (λ queue. option_map (λ packet.
    (record { 0 = queue }, record { 0 = packet })) (decimal_word w.1)) (decimal_word w.0)) (two_words words)

-- `reserve Q P`: s1
abbrev pub reserve_row : List Word → Option Command
reserve_row words = option_and_then (λ w. option_and_then (λ queue. option_map (λ producer.
    steps queue producer Reserve) (decimal_word w.1)) (decimal_word w.0)) (two_words words)

-- `room Q P T`: s2
abbrev pub room_row : List Word → Option Command
room_row words = option_and_then (λ w. option_and_then (λ queue. option_and_then (λ producer. option_map (λ ticket.
    steps queue producer (LoadReadIndex (record { 0 = ticket }))) (decimal_word w.2)) (decimal_word w.1)) (decimal_word w.0)) (three_words words)

-- s4 for word 0, and s3 for any other
abbrev pub store_of : ℕ → ℕ → ℕ → Access
store_of ticket place word = if place == 0 then StoreHeader (record { 0 = ticket }) word else StoreBody (record { 0 = ticket }) place word

-- `word Q P T K H`: s3, or s4 for K = 0
abbrev pub word_row : List Word → Option Command
word_row words = option_and_then (λ w. option_and_then (λ queue. option_and_then (λ producer. option_and_then (λ ticket. option_and_then (λ place. option_map (λ word.
    steps queue producer (store_of ticket place word)) (eight_bytes w.4)) (decimal_word w.3)) (decimal_word w.2)) (decimal_word w.1)) (decimal_word w.0)) (five_words words)

-- `part Q K`: s6
abbrev pub part_row : List Word → Option Command
part_row words = option_and_then (λ w. option_and_then (λ queue. option_map (λ place.
    steps queue 0 (LoadBody place)) (decimal_word w.1)) (decimal_word w.0)) (two_words words)

-- `publish Q P T H`
abbrev pub publish_row : List Word → Option Command
publish_row words = option_and_then (λ w. option_and_then (λ queue. option_and_then (λ producer. option_and_then (λ ticket. option_map (λ packet.
    command.Publish (record { 0 = queue }) producer (record { 0 = ticket }) packet) (packet_word w.3)) (decimal_word w.2)) (decimal_word w.1)) (decimal_word w.0)) (four_words words)

-- `submit Q P H`
abbrev pub submit_row : List Word → Option Command
submit_row words = option_and_then (λ w. option_and_then (λ queue. option_and_then (λ producer. option_map (λ packet.
    command.Submit (record { 0 = queue }) producer packet) (packet_word w.2)) (decimal_word w.1)) (decimal_word w.0)) (three_words words)

-- `write C ADDR H`
abbrev pub write_row : Declared → List Word → Option Command
write_row policy words = option_and_then (λ w. option_and_then (λ address. option_map (λ bytes.
    calls (call.HostWrite (client_in policy w.0) (record { 0 = address }) bytes)) (bytes_word w.2)) (address_word w.1)) (three_words words)

-- `read C ADDR N`
abbrev pub read_row : Declared → List Word → Option Command
read_row policy words = option_and_then (λ w. option_and_then (λ address. option_map (λ length.
    asks (query.HostRead (client_in policy w.0) (record { 0 = address }) length)) (decimal_word w.2)) (address_word w.1)) (three_words words)

-- `C NAME OP V`
abbrev pub plain_operation : Declared → List Word → Option Command
plain_operation policy words = option_and_then (λ w. option_and_then (λ value. option_map (λ operation.
    calls (call.ChangeSignal (client_in policy w.0) (signal_in policy w.1) operation)) (operation_of w.2 value)) (signed_word w.3)) (four_words words)

-- `C NAME cas V V`
abbrev pub cas_operation : Declared → List Word → Option Command
cas_operation policy words = option_and_then (λ w. if bytes_eq w.2 (codes "cas") then option_and_then (λ expected. option_map (λ value.
    calls (call.ChangeSignal (client_in policy w.0) (signal_in policy w.1) (op.Cas expected value))) (signed_word w.4)) (signed_word w.3) else None) (five_words words)

-- `signal C NAME OP V`, `signal C NAME cas V V`
abbrev pub signal_row : Declared → List Word → Option Command
signal_row policy words = option_or (plain_operation policy words) (cas_operation policy words)

-- `load C NAME`
abbrev pub load_row : Declared → List Word → Option Command
load_row policy words = option_map (λ w. asks (query.LoadSignal (client_in policy w.0) (signal_in policy w.1))) (two_words words)

-- `test C NAME COND V`
abbrev pub test_row : Declared → List Word → Option Command
test_row policy words = option_and_then (λ w. option_and_then (λ condition. option_map (λ value.
    asks (query.TestSignal (client_in policy w.0) (signal_in policy w.1) condition value)) (signed_word w.3)) (condition_word w.2)) (four_words words)

-- `list C`
abbrev pub list_row : Declared → List Word → Option Command
list_row policy words = option_map (λ w. asks (query.List (client_in policy w))) (one_word words)

-- a number of further policies has this one, counted from 1
abbrev pub is_later : ℕ → ℕ → Bool
is_later later number = nat_le 1 number && nat_le number later

-- `reload N`, where there are so many further policies
abbrev pub reload_row : ℕ → List Word → Option Command
reload_row later words = option_and_then (λ w. option_and_then (λ number.
    if is_later later number then Some (command.Reload number) else None) (decimal_word w)) (one_word words)

-- `audit`
abbrev pub audit_row : List Word → Option Command
audit_row words = if no_words words then Some (asks query.Audit) else None

-- `rotate`
abbrev pub rotate_row : List Word → Option Command
rotate_row words = if no_words words then Some (command.Ask request.Rotate) else None

-- the row of a verb, where there are so many further policies
abbrev pub command_of : Declared → ℕ → Verb → List Word → Option Command
command_of policy later verb.Grant words = grant_row policy words
command_of policy later verb.Revoke words = revoke_row policy words
command_of policy later verb.Queue words = queue_row policy words
command_of policy later verb.Stop words = option_map (λ queue. calls (call.Stop queue)) (queue_of words)
command_of policy later verb.Close words = option_map (λ queue. calls (call.Close queue)) (queue_of words)
command_of policy later verb.Reserve words = reserve_row words
command_of policy later verb.Room words = room_row words
command_of policy later verb.Word words = word_row words
command_of policy later verb.Publish words = publish_row words
command_of policy later verb.Submit words = submit_row words
command_of policy later verb.Look words = option_map (processes LoadHeader) (queue_of words)
command_of policy later verb.Part words = part_row words
command_of policy later verb.Peek words = option_map (λ queue. command.Peek queue) (queue_of words)
command_of policy later verb.Take words = option_map (λ queue. command.Ask (request.Take queue)) (queue_of words)
command_of policy later verb.Clear words = option_map (processes ClearHeader) (queue_of words)
command_of policy later verb.Advance words = option_map (processes RaiseReadIndex) (queue_of words)
command_of policy later verb.Retire words = option_map (λ queue. command.Retire queue) (queue_of words)
command_of policy later verb.Serve words = option_map (λ queue. command.Serve queue) (queue_of words)
command_of policy later verb.Run words = option_map (λ row. calls (call.RunNext row.0 row.1)) (packet_of_queue words)
command_of policy later verb.Poll words = option_map (λ row. calls (call.Poll row.0 row.1)) (packet_of_queue words)
command_of policy later verb.Finish words = option_map (λ row. calls (call.Finish row.0 row.1)) (packet_of_queue words)
command_of policy later verb.Write words = write_row policy words
command_of policy later verb.Read words = read_row policy words
command_of policy later verb.Signal words = signal_row policy words
command_of policy later verb.Load words = load_row policy words
command_of policy later verb.Test words = test_row policy words
command_of policy later verb.List words = list_row policy words
command_of policy later verb.Errors words = option_map (λ queue. asks (query.Errors queue)) (queue_of words)
command_of policy later verb.Audit words = audit_row words
command_of policy later verb.Reload words = reload_row later words
command_of policy later verb.Rotate words = rotate_row words

-- what words ask: none ask nothing, else the first is a verb
abbrev pub asked_by : Declared → ℕ → List Word → Option Line
asked_by policy later [] = Some line.Quiet
asked_by policy later (word ∷ words) = option_map (λ command. line.Asks command) (option_and_then (λ verb. command_of policy later verb words) (verb_of word))

-- a line that begins with `#` is a comment
abbrev pub is_comment : List ℕ → Bool
is_comment [] = false
is_comment (byte ∷ bytes) = byte == 35

-- what a line stands for, if it has at most 16,384 bytes and a form: names go by a policy, and there are so many further policies
abbrev pub line_of : Declared → ℕ → List ℕ → Option Line
line_of policy later bytes =
    if nat_lt longest_line (length bytes) then None
    else if is_comment bytes then Some line.Quiet
    else asked_by policy later (words bytes)

-- the verb's row needs no memory to be read
abbrev pub IsPlain : Verb → Type 0
IsPlain verb.Word = ⊥
IsPlain verb.Write = ⊥
IsPlain _ = Unit {0}
