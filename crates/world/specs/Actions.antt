-- Requests made of a world in turn, up to the first that is refused.
use Rattle.std.specs.Prelude.{ℕ, ◌≡◌, Bool, true, false, List, ⊤, Result, Ok, Err}
use Rattle.aql_packet.specs.declared.ids.PacketId.{PacketId}
use Rattle.aql_packet.specs.declared.ids.QueueId.{QueueId}
use Rattle.ring_core.specs.declared.access.Access.{Access}
use Rattle.ring_core.specs.declared.access.Seen.TheVariants as seen
use Rattle.world.specs.declared.reply.Answer.{Answer}
use Rattle.world.specs.declared.reply.Answer.TheVariants as answer
use Rattle.world.specs.declared.reply.Refusal.{Refusal}
use Rattle.world.specs.declared.request.Request.{Request}
use Rattle.world.specs.declared.request.Request.TheVariants as request
use Rattle.core_model.specs.History.{Part as Handed}
use Rattle.world.specs.Dues.{AreReplies, IsServed, Reply, parts_out}
use Rattle.world.specs.States.{Joined}

-- what is done with a world: it comes to a value, or to the refusal that ended it, and to the world after it (own)
abbrev pub Action : Type 0 → Type 1
Action X = Joined → Result X Refusal → Joined → Type 0

-- nothing is asked, and this is the value
abbrev pub returns : {X : Type 0} → X → Action X
returns x old result new = (result ≡ Ok x) × (new ≡ old)

-- a request is made, and its answer is the value
unfoldable pub asks : Request → Action Answer
asks request old reply new = IsServed old request reply new

-- behind a value something further is done; behind a refusal nothing
abbrev pub goes_on : {X Y : Type 0} → (X → Action Y) → Result X Refusal → Action Y
goes_on next (Ok x) mid result new = next x mid result new
goes_on next (Err why) mid result new = (result ≡ Err why) × (new ≡ mid)

-- one thing is done, and then what its value says: an expansion stops at its first refusal
abbrev pub and_then : {X Y : Type 0} → Action X → (X → Action Y) → Action Y
and_then {X = X} first next old result new =
    (reached : Result X Refusal) × (mid : Joined) × first old reached mid × goes_on next reached mid result new

-- the first where the test holds, else the second
abbrev pub if_else : {X : Type 0} → Bool → Action X → Action X → Action X
if_else true first second old result new = first old result new
if_else false first second old result new = second old result new

-- ---- steps

-- a step of a seat on a queue's ring; seat 0 is the processor
abbrev pub step : QueueId → ℕ → Access → Request
step queue seat access = request.Step queue (record { seat = seat; access = access })

-- the number that a step read, and the id of the packet whose header was read; 0 where it read none
abbrev pub number_read : Answer → ℕ
number_read (answer.Step (seen.Read number)) = number
number_read (answer.Header packet word) = word
number_read _ = 0

abbrev pub packet_read : Answer → PacketId
packet_read (answer.Header packet word) = packet
packet_read _ = record { 0 = 0 }

-- a step is made, and the number that it read is the value
abbrev pub reads : QueueId → ℕ → Access → Action ℕ
reads queue seat access = and_then (asks (step queue seat access)) (λ answer. returns (number_read answer))

-- a step is made, whatever it read
abbrev pub makes : QueueId → ℕ → Access → Action ⊤
makes queue seat access = and_then (asks (step queue seat access)) (λ answer. returns tt)

-- ---- requests behind one another

-- some requests, served in turn, lead from one world to the other, and hand out these parts of its audit, in order (own)
abbrev pub Reaches : Joined → List Handed → Joined → Type 0
Reaches old parts new = (requests : List Request) × (replies : List Reply) × AreReplies old requests replies new × (parts_out replies ≡ parts)
