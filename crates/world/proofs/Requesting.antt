-- What a call of a queue's lane does is a list of requests, which hand out no part of the audit.
use Rattle.std.proofs.Common.{◌≡◌, ℕ, zero, suc, ◌+◌, Bool, true, false, List, [], ◌∷◌, ◌++◌, drop, replicate, slice_index, slice_set, Option, Some, None, Result, Ok, Err, refl, subst, ap, ◌∙◌, inl, inr}
use Rattle.aql_packet.specs.declared.ids.PacketId.{PacketId}
use Rattle.aql_packet.specs.declared.ids.QueueId.{QueueId}
use Rattle.std.specs.List.{cons_option}
use Rattle.policy.specs.Results.{map_ok}
use Rattle.core_model.specs.History.{Part as Handed}
use Rattle.ring_core.specs.InTurn.{step_by}
use Rattle.ring_core.specs.declared.access.Access.{Access}
use Rattle.ring_core.specs.declared.access.Access.TheVariants.{Reserve, LoadReadIndex, StoreBody, StoreHeader, LoadHeader, LoadBody, ClearHeader, RaiseReadIndex}
use Rattle.ring_core.specs.Calls.{has_room}
use Rattle.ring_core.specs.Words.{is_invalid}
use Rattle.world.specs.declared.lane.Sent.TheVariants as sent
use Rattle.world.specs.declared.lane.Served.{Served}
use Rattle.world.specs.declared.lane.Shown.{Shown}
use Rattle.world.specs.declared.reply.Refusal.{Refusal}
use Rattle.world.specs.declared.request.Request.{Request}
use Rattle.world.specs.declared.request.Request.TheVariants as request
use Rattle.world.specs.Actions.{Action, Reaches, and_then, asks, goes_on, if_else, makes, number_read, packet_read, reads, returns, step}
use Rattle.world.specs.Dues.{AreReplies, Due, IsServed, Meets, Reply, part_of, parts_out}
use Rattle.world.specs.Lanes.{answer_of, collects, hands_over, leaves_ring, peek, publish, publish_room, publish_where, retire, retire_decided, serve_next, serve_shown, shown_as, shows, stores, stores_body, submit}
use Rattle.world.specs.States.{Joined, ring_of, slots_of}
use Rattle.world.proofs.Kept.{IsUnparted, unparted_at_step, unparted_at_take}

-- ---- requests behind one another

replies_append : (old mid new : Joined) (requests others : List Request) (replies further : List Reply) → AreReplies old requests replies mid →
    AreReplies mid others further new → AreReplies old (requests ++ others) (replies ++ further) new
replies_append old mid new [] others [] further a b = subst (λ (w : Joined). AreReplies w others further new) a b
replies_append old mid new (r ∷ requests) others (p ∷ replies) further a b = (a.0, a.1, replies_append a.0 mid new requests others replies further a.2 b)
replies_append old mid new [] others (p ∷ replies) further a b = absurd a
replies_append old mid new (r ∷ requests) others [] further a b = absurd a

parts_append : (replies further : List Reply) → parts_out (replies ++ further) ≡ parts_out replies ++ parts_out further
parts_append [] further = refl
parts_append (reply ∷ replies) further = by_part (part_of reply) (parts_append replies further)
  where
    by_part : (o : Option Handed) → parts_out (replies ++ further) ≡ parts_out replies ++ parts_out further →
        cons_option o (parts_out (replies ++ further)) ≡ cons_option o (parts_out replies) ++ parts_out further
    by_part None rest = rest
    by_part (Some part) rest = ap (λ (ps : List Handed). part ∷ ps) rest

pub reaches_none : (old new : Joined) → new ≡ old → Reaches old [] new
reaches_none old new same = ([], [], same, refl)

-- one request, with the part that its reply hands out
pub reaches_one : (old new : Joined) (asked : Request) (reply : Reply) → IsServed old asked reply new → Reaches old (cons_option (part_of reply) []) new
reaches_one old new asked reply served = (asked ∷ [], reply ∷ [], (new, served, refl), refl)

pub reaches_more : (old mid new : Joined) (some more : List Handed) → Reaches old some mid → Reaches mid more new → Reaches old (some ++ more) new
reaches_more old mid new some more (requests, replies, a, here) (others, further, b, there) = (
  requests ++ others,
  replies ++ further,
  replies_append old mid new requests others replies further a b,
  subst (λ (ps : List Handed). parts_out (replies ++ further) ≡ ps ++ more) here
      (subst (λ (ps : List Handed). parts_out (replies ++ further) ≡ parts_out replies ++ ps) there (parts_append replies further)),
)

-- ---- whatever is done

-- what is owed without a part is told without one
hands_none : (old new : Joined) (owed : Due) (reply : Reply) → IsUnparted old owed → Meets old owed reply new → part_of reply ≡ None
hands_none old new owed reply unparted (inl served) = ap part_of served.0 ∙ unparted.no_part
hands_none old new owed reply unparted (inr lacked) = ap part_of lacked.1

unfoldable pub Keeps : {X : Type 0} → Action X → Type 0
Keeps {X = X} action = (old : Joined) (result : Result X Refusal) (new : Joined) → action old result new → Reaches old [] new

pub reaches : {X : Type 0} (action : Action X) → Keeps action → (old : Joined) (result : Result X Refusal) (new : Joined) → action old result new → Reaches old [] new
unfolding Keeps
reaches action kept old result new done = kept old result new done

pub keeps_returns : {X : Type 0} (x : X) → Keeps (returns x)
unfolding Keeps
keeps_returns x old result new done = reaches_none old new done.1

keeps_step : (queue : QueueId) (seat : ℕ) (access : Access) → Keeps (asks (step queue seat access))
unfolding Keeps asks
keeps_step queue seat access old reply new served =
    subst (λ (o : Option Handed). Reaches old (cons_option o []) new) (hands_none old new _ reply (unparted_at_step old queue (step_by seat access) (ring_of old queue)) served)
    (reaches_one old new (step queue seat access) reply served)

goes_where : {X Y : Type 0} (first : Action X) (next : X → Action Y) → Keeps first → ((x : X) → Keeps (next x)) → (old : Joined) (result : Result Y Refusal) (new : Joined)
    (reached : Result X Refusal) (mid : Joined) → first old reached mid → goes_on next reached mid result new → Reaches old [] new
unfolding Keeps
goes_where first next f n old result new (Ok x) mid done more = reaches_more old mid new [] [] (f old (Ok x) mid done) (n x mid result new more)
goes_where first next f n old result new (Err why) mid done more = reaches_more old mid new [] [] (f old (Err why) mid done) (reaches_none mid new more.1)

pub keeps_then : {X Y : Type 0} (first : Action X) (next : X → Action Y) → Keeps first → ((x : X) → Keeps (next x)) → Keeps (and_then first next)
unfolding Keeps
keeps_then first next f n old result new done = goes_where first next f n old result new done.0 done.1 done.2 done.3

keeps_if : {X : Type 0} (test : Bool) (first second : Action X) → Keeps first → Keeps second → Keeps (if_else test first second)
unfolding Keeps
keeps_if true first second f s = f
keeps_if false first second f s = s

keeps_reads : (queue : QueueId) (seat : ℕ) (access : Access) → Keeps (reads queue seat access)
keeps_reads queue seat access = keeps_then (asks (step queue seat access)) (λ answer. returns (number_read answer)) (keeps_step queue seat access) (λ answer. keeps_returns (number_read answer))

keeps_makes : (queue : QueueId) (seat : ℕ) (access : Access) → Keeps (makes queue seat access)
keeps_makes queue seat access = keeps_then (asks (step queue seat access)) (λ answer. returns tt) (keeps_step queue seat access) (λ answer. keeps_returns tt)

-- ---- publish, submit

keeps_body : (queue : QueueId) (producer : ℕ) (ticket : PacketId) (place : ℕ) (words : List ℕ) → Keeps (stores_body queue producer ticket place words)
unfolding stores_body
keeps_body queue producer ticket place [] = keeps_returns tt
keeps_body queue producer ticket place (word ∷ words) =
    keeps_then (makes queue producer (StoreBody ticket place word)) (λ stored. stores_body queue producer ticket (place + 1) words)
    (keeps_makes queue producer (StoreBody ticket place word)) (λ stored. keeps_body queue producer ticket (place + 1) words)

keeps_stores : (queue : QueueId) (producer : ℕ) (ticket : PacketId) (words : List ℕ) → Keeps (stores queue producer ticket words)
keeps_stores queue producer ticket words =
    keeps_then (stores_body queue producer ticket 1 (drop 1 words)) _ (keeps_body queue producer ticket 1 (drop 1 words)) (λ body.
    keeps_then (makes queue producer (StoreHeader ticket (slice_index words 0))) _ (keeps_makes queue producer (StoreHeader ticket (slice_index words 0))) (λ header.
    keeps_returns (sent.Published ticket)))

keeps_room : (queue : QueueId) (producer : ℕ) (ticket : PacketId) (words : List ℕ) (index : ℕ) → Keeps (publish_room queue producer ticket words index)
unfolding Keeps
keeps_room queue producer ticket words index old result new done =
    keeps_if (has_room (slots_of old queue) ticket.0 index) (stores queue producer ticket words) (returns (sent.Busy ticket index))
    (keeps_stores queue producer ticket words) (keeps_returns (sent.Busy ticket index)) old result new done

pub keeps_where : (queue : QueueId) (producer : ℕ) (ticket : PacketId) (words : List ℕ) → Keeps (publish_where queue producer ticket words)
keeps_where queue producer ticket words =
    keeps_then (reads queue producer (LoadReadIndex ticket)) _ (keeps_reads queue producer (LoadReadIndex ticket)) (λ index. keeps_room queue producer ticket words index)

pub keeps_publish : (queue : QueueId) (producer : ℕ) (ticket : PacketId) (words : List ℕ) → Keeps (publish queue producer ticket words)
keeps_publish queue producer ticket words =
    keeps_if (is_invalid (slice_index words 0)) (returns (sent.NotPublishable ticket)) (publish_where queue producer ticket words)
    (keeps_returns (sent.NotPublishable ticket)) (keeps_where queue producer ticket words)

pub keeps_submit : (queue : QueueId) (producer : ℕ) (words : List ℕ) → Keeps (submit queue producer words)
keeps_submit queue producer words =
    keeps_then (reads queue producer Reserve) _ (keeps_reads queue producer Reserve) (λ ticket. keeps_publish queue producer (record { 0 = ticket }) words)

-- ---- peek, retire, serve

keeps_collects : (queue : QueueId) (place count : ℕ) (words : List ℕ) → Keeps (collects queue place count words)
unfolding collects
keeps_collects queue place zero words = keeps_returns words
keeps_collects queue place (suc count) words =
    keeps_then (reads queue 0 (LoadBody place)) (λ word. collects queue (place + 1) count (slice_set words place word))
    (keeps_reads queue 0 (LoadBody place)) (λ word. keeps_collects queue (place + 1) count (slice_set words place word))

keeps_shows : (queue : QueueId) (packet : PacketId) (header : ℕ) → Keeps (shows queue packet header)
keeps_shows queue packet header =
    keeps_if (is_invalid header) (returns None) (and_then (collects queue 1 7 (header ∷ replicate 7 0)) (λ words. returns (Some (shown_as packet words))))
    (keeps_returns None)
    (keeps_then (collects queue 1 7 (header ∷ replicate 7 0)) _ (keeps_collects queue 1 7 (header ∷ replicate 7 0)) (λ words. keeps_returns (Some (shown_as packet words))))

pub keeps_peek : (queue : QueueId) → Keeps (peek queue)
keeps_peek queue =
    keeps_then (asks (step queue 0 LoadHeader)) _ (keeps_step queue 0 LoadHeader) (λ answer. keeps_shows queue (packet_read answer) (number_read answer))

pub keeps_retire : (queue : QueueId) → Keeps (retire queue)
keeps_retire queue = keeps_then (makes queue 0 ClearHeader) _ (keeps_makes queue 0 ClearHeader) (λ cleared. keeps_reads queue 0 RaiseReadIndex)

keeps_hands_over : (queue : QueueId) → Keeps (hands_over queue)
unfolding Keeps asks
keeps_hands_over queue old result new served =
    let reply : Reply = map_ok answer_of result in
    subst (λ (o : Option Handed). Reaches old (cons_option o []) new) (hands_none old new _ reply (unparted_at_take old queue (ring_of old queue)) served)
    (reaches_one old new (request.Take queue) reply served)

keeps_decided : (queue : QueueId) (served : Served) → Keeps (retire_decided queue served)
keeps_decided queue served =
    keeps_if (leaves_ring served.taken) (and_then (retire queue) (λ raised. returns (Some served))) (returns (Some served))
    (keeps_then (retire queue) _ (keeps_retire queue) (λ raised. keeps_returns (Some served))) (keeps_returns (Some served))

keeps_serve_shown : (queue : QueueId) (shown : Option Shown) → Keeps (serve_shown queue shown)
keeps_serve_shown queue None = keeps_returns None
keeps_serve_shown queue (Some shown) = keeps_then (hands_over queue) _ (keeps_hands_over queue) (λ served. keeps_decided queue served)

pub keeps_serve_next : (queue : QueueId) → Keeps (serve_next queue)
keeps_serve_next queue = keeps_then (peek queue) _ (keeps_peek queue) (λ shown. keeps_serve_shown queue shown)
