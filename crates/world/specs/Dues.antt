-- What each request of the world is owed: its reply, and the world after it.
use Rattle.std.specs.Prelude.{◌≡◌, ℕ, ◌==◌, ◌&&◌, ◌⊎◌, Bool, true, false, nat_lt, List, [], ◌∷◌, ◌++◌, slice_get, Option, Some, None, Result, Ok, Err, if◌then◌else◌}
use Rattle.aql_packet.specs.declared.ids.QueueId.{QueueId}
use Rattle.std.specs.List.{filter_map, flat_map}
use Rattle.policy.specs.Declaring.{DeclaresAs}
use Rattle.policy.specs.Policy.{Declared}
use Rattle.core_model.specs.declared.call.Call.{Call}
use Rattle.core_model.specs.declared.call.Call.TheVariants as call
use Rattle.core_model.specs.declared.entry.Entry.{Entry}
use Rattle.core_model.specs.declared.event.Event.{Event}
use Rattle.core_model.specs.declared.event.Event.TheVariants.{Open, Reload, Take}
use Rattle.core_model.specs.declared.event.Query.{Query}
use Rattle.core_model.specs.declared.outcome.Outcome.{Outcome}
use Rattle.core_model.specs.declared.outcome.Outcome.TheVariants as outcome
use Rattle.core_model.specs.declared.refusal.Refusal as cores
use Rattle.core_model.specs.declared.refusal.Refusal.TheVariants as why
use Rattle.core_model.specs.declared.answer.Answer.TheVariants as told
use Rattle.core_model.specs.History.{beginning, History}
use Rattle.core_model.specs.History.{Part as Handed}
use Rattle.core_model.specs.Rotation.{Rotates}
use Rattle.core_model.specs.Queues.{next_id}
use Rattle.core_model.specs.Owed.{Owed}
use Rattle.core_model.specs.Legal.{as_reply, asks_for_memory, due, history_after, may_lack_memory, query_may_lack_memory, reply_of}
use Rattle.core_model.specs.Queries.{AnswerOrRefusal, query_answer}
use Rattle.ring_core.specs.declared.access.Access.{Access}
use Rattle.ring_core.specs.declared.access.Access.TheVariants.{Reserve, LoadHeader, ClearHeader}
use Rattle.ring_core.specs.declared.access.Step.{Step}
use Rattle.ring_core.specs.declared.part.SeatPart.{SeatPart}
use Rattle.ring_core.specs.declared.part.SeatPart.TheVariants.{Producer, Processor}
use Rattle.ring_core.specs.Parts.{collected_packet, seen_by}
use Rattle.ring_core.specs.Machine.{Machine, found, is_allowed, judged_size, made, opened, read_index}
use Rattle.ring_core.specs.Rule.{processor_of}
use Rattle.world.specs.declared.request.Request.{Request}
use Rattle.world.specs.declared.request.Request.TheVariants as request
use Rattle.world.specs.declared.reply.Answer.{Answer}
use Rattle.world.specs.declared.reply.Answer.TheVariants as answer
use Rattle.world.specs.declared.reply.Refusal.{Refusal}
use Rattle.world.specs.declared.reply.Refusal.TheVariants as refusal
use Rattle.world.specs.States.{Joined, Rings, joined, ring_of, with_core, with_one, with_ring, without_ring}
use Rattle.aql_packet.specs.Words.{bytes_of}
use Rattle.core_model.specs.declared.event.Event.TheVariants as event

abbrev pub Reply : Type 0
Reply = Result Answer Refusal

-- what a request is owed: its reply, the world after it, and whether it may want memory in place of both (own)
pub record Due : Type 0 where
  pub reply : Reply
  pub after : Joined
  pub may_lack_memory : Bool

-- a refusal, after which all is as before
abbrev pub refused : Joined → Refusal → Due
refused world why = record { reply = Err why; after = world; may_lack_memory = false }

-- ---- ring steps

-- whether an access reserves an id
abbrev pub reserves : Access → Bool
reserves Reserve = true
reserves _ = false

-- whether a seat is a producer that has reserved all that it may
abbrev pub has_spent : Option SeatPart → Bool
has_spent None = false
has_spent (Some (Processor p)) = false
has_spent (Some (Producer p)) = p.allowance == 0

-- a header is cleared only when the packet at the read index was launched or denied (own)
abbrev pub may_follow : Bool → Access → Bool
may_follow decided ClearHeader = decided
may_follow decided _ = true

-- why a step on a ring isn't made, if it isn't: the producer has reserved all that it may, or the step is none that is allowed
-- (PSA, User Mode Queuing); `decided` tells whether the packet at the read index was launched or denied (own)
abbrev pub hindrance : Bool → Machine → Step → Option Refusal
hindrance decided ring step =
    if reserves step.access && has_spent (slice_get ring.parts step.seat) then Some refusal.Spent
    else if is_allowed ring step && may_follow decided step.access then None
    else Some refusal.NotAStep

-- what a step that is made answers: what it read; the look at the header tells the read index too
abbrev pub answer_to : Access → ℕ → ℕ → Answer
answer_to LoadHeader index old = answer.Header (record { 0 = index }) old
answer_to access index old = answer.Step (seen_by access old)

-- whether the packet at a ring's read index was launched or denied: its id is below the queue's next
abbrev pub is_decided : History → QueueId → Machine → Bool
is_decided core queue ring = nat_lt (read_index ring) (next_id (beginning core) core.entries queue)

abbrev pub due_where : Joined → QueueId → Machine → Step → Option Refusal → Due
due_where world queue ring step (Some why) = refused world why
due_where world queue ring step None = record {
  reply = Ok (answer_to step.access (read_index ring) (found ring step));
  after = with_ring world queue (made ring step);
  may_lack_memory = reserves step.access;
}

-- a step on the ring of a queue, if it is open (own)
abbrev pub due_step : Joined → QueueId → Step → Option Machine → Due
due_step world queue step None = refused world (refusal.Core why.UnknownQueue)
due_step world queue step (Some ring) = due_where world queue ring step (hindrance (is_decided world.core queue ring) ring step)

-- ---- calls of the core

-- the core's reply as the world's
abbrev pub of_core : AnswerOrRefusal → Reply
of_core (Ok answered) = Ok (answer.Core answered)
of_core (Err why) = Err (refusal.Core why)

-- whether an event that is due this may be told that memory was wanted: it may, and asks for some (own)
abbrev pub lacks_memory : History → Event → Owed → Bool
lacks_memory core event owing = may_lack_memory event owing && asks_for_memory core event owing

-- an event that concerns no ring
abbrev pub due_event : Joined → Event → Owed → Due
due_event world event owing = record {
  reply = of_core (as_reply (reply_of owing));
  after = with_core world (history_after world.core event owing);
  may_lack_memory = lacks_memory world.core event owing;
}

-- the queue that a call closes, if it does (own)
abbrev pub closed_by : Call → Option QueueId
closed_by (call.Close queue) = Some queue
closed_by _ = None

-- the world once a call that closes a queue, or none, came to this: a queue that was closed has no ring any more (own)
abbrev pub left_by : Joined → Option QueueId → Result Outcome cores.Refusal → Joined
left_by world None made = world
left_by world (Some queue) (Ok told) = without_ring world queue
left_by world (Some queue) (Err why) = world

-- a call (own)
abbrev pub due_call : Joined → Call → Owed → Due
due_call world asked owing = record {
  reply = of_core (as_reply (reply_of owing));
  after = with_core (left_by world (closed_by asked) (reply_of owing)) (history_after world.core (event.Call asked) owing);
  may_lack_memory = lacks_memory world.core (event.Call asked) owing;
}

-- a query
abbrev pub due_query : Joined → Query → Due
due_query world query = record {
  reply = of_core (query_answer (beginning world.core) world.core.entries query);
  after = world;
  may_lack_memory = query_may_lack_memory (query_answer (beginning world.core) world.core.entries query);
}

-- ---- takes

-- what the hand-over of the packet with this id is told
abbrev pub taken_reply : ℕ → Result Outcome cores.Refusal → Reply
taken_reply id (Ok (outcome.Taken taken)) = Ok (answer.Taken (record { 0 = id }) taken)
taken_reply id (Ok other) = Ok (answer.Core (told.Outcome other))
taken_reply id (Err why) = Err (refusal.Core why)

-- the packet with this id is handed over
abbrev pub due_taken : Joined → ℕ → Event → Owed → Due
due_taken world id event owing = record {
  reply = taken_reply id (reply_of owing);
  after = with_core world (history_after world.core event owing);
  may_lack_memory = lacks_memory world.core event owing;
}

abbrev pub taking : QueueId → ℕ → List ℕ → Event
taking queue id words = Take queue (record { 0 = id }) (bytes_of words)

-- the packet that the processor has collected whole is handed over, with the read index as its id
abbrev pub due_collected : Joined → QueueId → ℕ → Option (List ℕ) → Due
due_collected world queue id None = refused world refusal.NotAStep
due_collected world queue id (Some words) = due_taken world id (taking queue id words) (due world.core (taking queue id words))

abbrev pub due_take : Joined → QueueId → Option Machine → Due
due_take world queue None = refused world (refusal.Core why.UnknownQueue)
due_take world queue (Some ring) = due_collected world queue (read_index ring) (collected_packet (processor_of ring.parts))

-- ---- openings

-- the rings after an opening that came to this: an opened queue has a ring of its size and producers, in which nothing happened
abbrev pub rings_after : Rings → ℕ → ℕ → Result Outcome cores.Refusal → Rings
rings_after rings size producers (Ok (outcome.Opened queue)) = with_one rings queue (Some (opened size producers))
rings_after rings size producers (Ok _) = rings
rings_after rings size producers (Err why) = rings

abbrev pub due_opening : Joined → ℕ → ℕ → Event → Owed → Due
due_opening world size producers event owing = record {
  reply = of_core (as_reply (reply_of owing));
  after = joined (history_after world.core event owing) (rings_after world.rings size producers (reply_of owing)) world.closed;
  may_lack_memory = lacks_memory world.core event owing;
}

-- ---- policies that are handed in

-- a request got what it is owed; or memory was wanted and not to be had, and all is as before (own)
abbrev pub Meets : Joined → Due → Reply → Joined → Type 0
Meets old owed reply new =
    ((reply ≡ owed.reply) × (new ≡ owed.after))
    ⊎ ((owed.may_lack_memory ≡ true) × (reply ≡ Err (refusal.Core why.OutOfMemory)) × (new ≡ old))

-- a policy that declares the same clients and objects as the one that the world was opened over got what its rows are owed; any other was
-- refused before all else (own)
abbrev pub Reloads : Joined → Declared → Reply → Joined → Type 0
Reloads old policy reply new =
    (DeclaresAs (beginning old.core).policy policy × Meets old (due_event old (Reload policy.rows) (due old.core (Reload policy.rows))) reply new)
    ⊎ ((DeclaresAs (beginning old.core).policy policy → ⊥) × (reply ≡ Err (refusal.Core why.OtherObjects)) × (new ≡ old))

-- ---- rotations

-- the reply to a rotation that came to this (own)
abbrev pub rotated_reply : Result Handed cores.Refusal → Reply
rotated_reply (Ok part) = Ok (answer.Rotated part)
rotated_reply (Err why) = Err (refusal.Core why)

-- the core's audit was handed out, or that was refused; the rings stay. A part tells its grants by their look-ups alone, so it is no function
-- of the history (own)
abbrev pub RotatesTo : Joined → Reply → Joined → Type 0
RotatesTo old reply new = (made : Result Handed cores.Refusal) × (reply ≡ rotated_reply made) × Rotates old.core made new.core × (new.rings ≡ old.rings) × (new.closed ≡ old.closed)

-- ---- any request

-- a request was served: it got what it is owed, if need be (own)
abbrev pub IsServed : Joined → Request → Reply → Joined → Type 0
IsServed old (request.Step queue step) reply new = Meets old (due_step old queue step (ring_of old queue)) reply new
IsServed old (request.Take queue) reply new = Meets old (due_take old queue (ring_of old queue)) reply new
IsServed old (request.OpenQueue client agent size producers) reply new =
    Meets old (due_opening old size producers (Open client agent (judged_size size producers)) (due old.core (Open client agent (judged_size size producers)))) reply new
IsServed old (request.Call call) reply new = Meets old (due_call old call (due old.core (event.Call call))) reply new
IsServed old (request.Query query) reply new = Meets old (due_query old query) reply new
IsServed old (request.Reload policy) reply new = Reloads old policy reply new
IsServed old request.Rotate reply new = RotatesTo old reply new

-- these replies answer these requests in turn, and lead from one world to the other (own)
abbrev pub AreReplies : Joined → List Request → List Reply → Joined → Type 0
AreReplies old [] [] new = new ≡ old
AreReplies old (asked ∷ requests) (reply ∷ replies) new = (mid : Joined) × IsServed old asked reply mid × AreReplies mid requests replies new
AreReplies old [] (reply ∷ replies) new = ⊥
AreReplies old (asked ∷ requests) [] new = ⊥

-- the part that a reply hands out, if it does (own)
abbrev pub part_of : Reply → Option Handed
part_of (Ok (answer.Rotated part)) = Some part
part_of (Ok _) = None
part_of (Err why) = None

-- the parts that replies hand out, in order (own)
abbrev pub parts_out : List Reply → List Handed
parts_out replies = filter_map part_of replies

-- the entries that a reply hands out: those of its part (own)
abbrev pub handed : Reply → List Entry
handed reply = elim (part_of reply) [ None ↦ [] | Some part ↦ part.entries ]

-- those that replies hand out, in order (own)
abbrev pub handed_out : List Reply → List Entry
handed_out replies = flat_map handed replies
