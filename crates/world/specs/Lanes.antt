-- A packet's way through a queue's ring, call by call: which requests each call makes in turn, and what it comes to (own; over PSA, User
-- Mode Queuing). The steps: s1 an id is reserved, s2 the read index is looked at, s3 a body word is stored, s4 the header; s5 the header at
-- the read index is read, s6 a body word, s7 the header is cleared, s8 the read index is raised.
use Rattle.std.specs.Prelude.{ℕ, zero, suc, ◌≡◌, ◌+◌, Bool, true, false, List, [], ◌∷◌, drop, replicate, slice_index, slice_set, Option, Some, None, ⊤}
use Rattle.aql_packet.specs.declared.ids.PacketId.{PacketId}
use Rattle.aql_packet.specs.declared.ids.QueueId.{QueueId}
use Rattle.policy.specs.Results.{map_ok}
use Rattle.core_model.specs.declared.outcome.Taken.{Taken}
use Rattle.core_model.specs.declared.outcome.Taken.TheVariants as taken
use Rattle.ring_core.specs.declared.access.Access.TheVariants.{Reserve, LoadReadIndex, StoreBody, StoreHeader, LoadHeader, LoadBody, ClearHeader, RaiseReadIndex}
use Rattle.ring_core.specs.Calls.{has_room}
use Rattle.ring_core.specs.Words.{is_invalid}
use Rattle.world.specs.declared.lane.Sent.{Sent}
use Rattle.world.specs.declared.lane.Sent.TheVariants as sent
use Rattle.world.specs.declared.lane.Served.{Served}
use Rattle.world.specs.declared.lane.Shown.{Shown}
use Rattle.world.specs.declared.reply.Answer.{Answer}
use Rattle.world.specs.declared.reply.Answer.TheVariants as answer
use Rattle.world.specs.declared.request.Request.TheVariants as request
use Rattle.world.specs.States.{slots_of}
use Rattle.world.specs.Actions.{Action, and_then, asks, if_else, makes, number_read, packet_read, reads, returns, step}

-- ---- publish, submit

-- s3 for each body word in turn, from a place on
unfoldable pub stores_body : QueueId → ℕ → PacketId → ℕ → List ℕ → Action ⊤
stores_body queue producer ticket place [] = returns tt
stores_body queue producer ticket place (word ∷ words) =
    and_then (makes queue producer (StoreBody ticket place word)) (λ stored. stores_body queue producer ticket (place + 1) words)

-- s3 seven times, s4
abbrev pub stores : QueueId → ℕ → PacketId → List ℕ → Action Sent
stores queue producer ticket words =
    and_then (stores_body queue producer ticket 1 (drop 1 words)) (λ body.
    and_then (makes queue producer (StoreHeader ticket (slice_index words 0))) (λ header. returns (sent.Published ticket)))

-- where the read index shows room for the ticket, the packet is stored
abbrev pub publish_room : QueueId → ℕ → PacketId → List ℕ → ℕ → Action Sent
publish_room queue producer ticket words index old result new =
    if_else (has_room (slots_of old queue) ticket.0 index) (stores queue producer ticket words) (returns (sent.Busy ticket index)) old result new

-- s2, and where it saw room s3 seven times, s4
abbrev pub publish_where : QueueId → ℕ → PacketId → List ℕ → Action Sent
publish_where queue producer ticket words =
    and_then (reads queue producer (LoadReadIndex ticket)) (λ index. publish_room queue producer ticket words index)

-- a packet of type INVALID makes no request
abbrev pub publish : QueueId → ℕ → PacketId → List ℕ → Action Sent
publish queue producer ticket words =
    if_else (is_invalid (slice_index words 0)) (returns (sent.NotPublishable ticket)) (publish_where queue producer ticket words)

-- s1, and what it read is the ticket
abbrev pub submit : QueueId → ℕ → List ℕ → Action Sent
submit queue producer words = and_then (reads queue producer Reserve) (λ ticket. publish queue producer (record { 0 = ticket }) words)

-- ---- peek, retire, serve

-- s6 for so many places from one on: each word is put in its place
unfoldable pub collects : QueueId → ℕ → ℕ → List ℕ → Action (List ℕ)
collects queue place zero words = returns words
collects queue place (suc count) words =
    and_then (reads queue 0 (LoadBody place)) (λ word. collects queue (place + 1) count (slice_set words place word))

abbrev pub shown_as : PacketId → List ℕ → Shown
shown_as packet words = record { packet = packet; words = words }

-- where the header's type isn't INVALID, s6 seven times
abbrev pub shows : QueueId → PacketId → ℕ → Action (Option Shown)
shows queue packet header =
    if_else (is_invalid header) (returns None)
    (and_then (collects queue 1 7 (header ∷ replicate 7 0)) (λ words. returns (Some (shown_as packet words))))

-- s5, s6 seven times
abbrev pub peek : QueueId → Action (Option Shown)
peek queue = and_then (asks (step queue 0 LoadHeader)) (λ answer. shows queue (packet_read answer) (number_read answer))

-- s7, s8: the value is the read index before it was raised
abbrev pub retire : QueueId → Action ℕ
retire queue = and_then (makes queue 0 ClearHeader) (λ cleared. reads queue 0 RaiseReadIndex)

-- a packet that was handed over leaves its ring: it was launched or denied
abbrev pub leaves_ring : Taken → Bool
leaves_ring taken.Launched = true
leaves_ring (taken.Denied error) = true
leaves_ring (taken.Waiting cause) = false

-- what a take answers
abbrev pub answer_of : Served → Answer
answer_of served = answer.Taken served.packet served.taken

-- an answer is one to a take
abbrev pub TellsServed : Answer → Type 0
TellsServed told = (served : Served) × (told ≡ answer_of served)

-- a take, and what became of the packet is the value
abbrev pub hands_over : QueueId → Action Served
hands_over queue old result new = asks (request.Take queue) old (map_ok answer_of result) new

abbrev pub retire_decided : QueueId → Served → Action (Option Served)
retire_decided queue served = if_else (leaves_ring served.taken) (and_then (retire queue) (λ raised. returns (Some served))) (returns (Some served))

-- unless it is empty, take; if launched or denied, retire
abbrev pub serve_shown : QueueId → Option Shown → Action (Option Served)
serve_shown queue None = returns None
serve_shown queue (Some shown) = and_then (hands_over queue) (λ served. retire_decided queue served)

abbrev pub serve_next : QueueId → Action (Option Served)
serve_next queue = and_then (peek queue) (λ shown. serve_shown queue shown)
