-- Each entry is of one of the requests, in their order; and kernels and the audit's room stay.
use Rattle.std.proofs.Common.{◌≡◌, ◌⊎◌, ℕ, List, [], ◌∷◌, ◌++◌, append_assoc, refl, sym, ◌∙◌, ap, subst, Option, Some, None, Result, Ok, Err, inl, inr}
use Rattle.std.proofs.lemmas.List.{append-nil}
use Rattle.kernel_check.specs.Programs.{Program}
use Rattle.policy.specs.Policy.{Declared}
use Rattle.aql_packet.specs.declared.ids.QueueId.{QueueId}
use Rattle.core_model.specs.declared.entry.Entry.{Entry}
use Rattle.core_model.specs.declared.event.Event.{Event}
use Rattle.core_model.specs.declared.event.Event.TheVariants as event
use Rattle.core_model.specs.declared.refusal.Refusal as cores
use Rattle.core_model.specs.History.{History}
use Rattle.core_model.specs.History.{Part as Handed}
use Rattle.core_model.specs.Owed.{Owed, answers, enters, refuses}
use Rattle.core_model.specs.Legal.{due, entry_of, history_after}
use Rattle.core_model.specs.Rotation.{Rotates}
use Rattle.ring_core.specs.declared.access.Step.{Step}
use Rattle.ring_core.specs.Machine.{Machine, read_index, judged_size}
use Rattle.ring_core.specs.Parts.{collected_packet}
use Rattle.ring_core.specs.Rule.{processor_of}
use Rattle.world.specs.declared.request.Request.{Request}
use Rattle.world.specs.declared.request.Request.TheVariants as request
use Rattle.world.specs.declared.reply.Refusal.{Refusal}
use Rattle.world.specs.Asked.{AreOf, IsAsAsked, IsOf}
use Rattle.world.specs.Dues.{AreReplies, Due, IsServed, Meets, Reply, due_collected, due_opening, due_query, due_step, due_take, due_where, handed, handed_out, hindrance, is_decided, rotated_reply, taking}
use Rattle.world.specs.Headline.{IsBegun}
use Rattle.world.specs.States.{Joined, ring_of}
use Rattle.world.proofs.GoingOn.{kernels-stay}
use Rattle.world.proofs.Kept.{IsUnparted, handed_none, unparted_at_step, unparted_at_take, unparted_call, unparted_event, unparted_opening, unparted_query, unrotated}

-- entries are those of a world, or one more, which is of a request
abbrev Adds : Joined → Request → List Entry → Type 0
Adds old asked entries = (entries ≡ old.core.entries) ⊎ ((entry : Entry) × IsOf asked entry.event × (entries ≡ old.core.entries ++ entry ∷ []))

-- a history has the audit's room of a world, and its entries or one more
pub record Follows (old : Joined) (asked : Request) (core : History) : Type 0 where
  pub adds : Adds old asked core.entries
  pub room : core.capacity ≡ old.core.capacity

stays : (old : Joined) (asked : Request) → Follows old asked old.core
stays old asked = record { adds = inl refl; room = refl }

after-event : (old : Joined) (asked : Request) (event : Event) (owing : Owed) → IsOf asked event → Follows old asked (history_after old.core event owing)
after-event old asked event (refuses why) of = record { adds = inl refl; room = refl }
after-event old asked event (answers told) of = record { adds = inl refl; room = refl }
after-event old asked event (enters told effects) of = record { adds = inr (entry_of event told effects, of, refl); room = refl }

-- ---- what each request is owed

after-where : (old : Joined) (asked : Request) (queue : QueueId) (ring : Machine) (step : Step) (o : Option Refusal) → Follows old asked (due_where old queue ring step o).after.core
after-where old asked queue ring step None = stays old asked
after-where old asked queue ring step (Some why) = stays old asked

after-step : (old : Joined) (queue : QueueId) (step : Step) (o : Option Machine) → Follows old (request.Step queue step) (due_step old queue step o).after.core
after-step old queue step None = stays old (request.Step queue step)
after-step old queue step (Some ring) = after-where old (request.Step queue step) queue ring step (hindrance (is_decided old.core queue ring) ring step)

after-collected : (old : Joined) (queue : QueueId) (id : ℕ) (packet : Option (List ℕ)) → Follows old (request.Take queue) (due_collected old queue id packet).after.core
after-collected old queue id None = stays old (request.Take queue)
after-collected old queue id (Some words) = after-event old (request.Take queue) (taking queue id words) (due old.core (taking queue id words)) (id, words, refl)

after-take : (old : Joined) (queue : QueueId) (o : Option Machine) → Follows old (request.Take queue) (due_take old queue o).after.core
after-take old queue None = stays old (request.Take queue)
after-take old queue (Some ring) = after-collected old queue (read_index ring) (collected_packet (processor_of ring.parts))

-- ---- one request

-- what was handed out by a reply, and then the world's own entries, are those before, or one more of the request; the room stays
pub record Enters (old : Joined) (asked : Request) (reply : Reply) (new : Joined) : Type 0 where
  pub adds : Adds old asked (handed reply ++ new.core.entries)
  pub room : new.core.capacity ≡ old.core.capacity

unchanged : (old new : Joined) (asked : Request) (reply : Reply) → handed reply ≡ [] → new ≡ old → Enters old asked reply new
unchanged old new asked reply none same = record {
  adds = inl (λ i. none i ++ (same i).core.entries);
  room = ap (λ (world : Joined). world.core.capacity) same;
}

by-due : (old new : Joined) (asked : Request) (owed : Due) (reply : Reply) → IsUnparted old owed → Follows old asked owed.after.core → Meets old owed reply new → Enters old asked reply new
by-due old new asked owed reply unparted follows (inl served) = record {
  adds = subst (Adds old asked) (sym all) follows.adds;
  room = ap (λ (world : Joined). world.core.capacity) served.1 ∙ follows.room;
}
  where
    none : handed reply ≡ []
    none = ap handed served.0 ∙ handed_none owed.reply unparted.no_part

    all : handed reply ++ new.core.entries ≡ owed.after.core.entries
    all = λ i. none i ++ (served.1 i).core.entries
by-due old new asked owed reply unparted follows (inr lacked) = unchanged old new asked reply (ap handed lacked.1) lacked.2

by-rotation : (old new : Joined) (reply : Reply) (made : Result Handed cores.Refusal) → reply ≡ rotated_reply made → Rotates old.core made new.core → Enters old request.Rotate reply new
by-rotation old new reply (Ok part) told is = record {
  adds = inl ((λ i. ap handed told i ++ is.1.empty i) ∙ append-nil part.entries ∙ is.1.entries_are);
  room = is.1.capacity_is;
}
by-rotation old new reply (Err why) told is =
    let same : new.core ≡ old.core = unrotated old.core new.core why is in
    record {
      adds = inl (λ i. ap handed told i ++ (same i).entries);
      room = ap (λ (history : History). history.capacity) same;
    }

enters-one : (old new : Joined) (asked : Request) (reply : Reply) → IsServed old asked reply new → Enters old asked reply new
enters-one old new (request.Step queue step) reply is =
    by-due old new (request.Step queue step) (due_step old queue step (ring_of old queue)) reply (unparted_at_step old queue step (ring_of old queue)) (after-step old queue step (ring_of old queue)) is
enters-one old new (request.Take queue) reply is =
    by-due old new (request.Take queue) (due_take old queue (ring_of old queue)) reply (unparted_at_take old queue (ring_of old queue)) (after-take old queue (ring_of old queue)) is
enters-one old new (request.OpenQueue client agent size producers) reply is =
    let asked : Request = request.OpenQueue client agent size producers in
    let opening : Event = event.Open client agent (judged_size size producers) in
    by-due old new asked (due_opening old size producers opening (due old.core opening)) reply (unparted_opening old size producers opening (due old.core opening)) (after-event old asked opening (due old.core opening) refl) is
enters-one old new (request.Call asked) reply is =
    by-due old new (request.Call asked) _ reply (unparted_call old asked (due old.core (event.Call asked))) (after-event old (request.Call asked) (event.Call asked) (due old.core (event.Call asked)) refl) is
enters-one old new (request.Query asked) reply is = by-due old new (request.Query asked) (due_query old asked) reply (unparted_query old asked) (stays old (request.Query asked)) is
enters-one old new (request.Reload policy) reply (inl is) =
    by-due old new (request.Reload policy) _ reply (unparted_event old (event.Reload policy.rows) (due old.core (event.Reload policy.rows)))
    (after-event old (request.Reload policy) (event.Reload policy.rows) (due old.core (event.Reload policy.rows)) refl) is.1
enters-one old new (request.Reload policy) reply (inr others) = unchanged old new (request.Reload policy) reply (ap handed others.1) others.2
enters-one old new request.Rotate reply is = by-rotation old new reply is.0 is.1 is.2

-- ---- any list of requests

-- what was handed out and then the world's own entries are those before and further ones, which are of the requests
pub record EntersAll (old : Joined) (requests : List Request) (replies : List Reply) (new : Joined) : Type 0 where
  pub more : List Entry
  pub entries_are : handed_out replies ++ new.core.entries ≡ old.core.entries ++ more
  pub of_requests : AreOf requests more
  pub room : new.core.capacity ≡ old.core.capacity

next : (old mid new : Joined) (asked : Request) (reply : Reply) (requests : List Request) (replies : List Reply) → Enters old asked reply mid → EntersAll mid requests replies new
    → Adds old asked (handed reply ++ mid.core.entries) → EntersAll old (asked ∷ requests) (reply ∷ replies) new
next old mid new asked reply requests replies one rest (inl same) = record {
  more = rest.more;
  entries_are = append_assoc (handed reply) (handed_out replies) new.core.entries ∙ ap (λ (es : List Entry). handed reply ++ es) rest.entries_are
      ∙ sym (append_assoc (handed reply) mid.core.entries rest.more) ∙ ap (λ (es : List Entry). es ++ rest.more) same;
  of_requests = inl rest.of_requests;
  room = rest.room ∙ one.room;
}
next old mid new asked reply requests replies one rest (inr (entry, of, same)) = record {
  more = entry ∷ rest.more;
  entries_are = append_assoc (handed reply) (handed_out replies) new.core.entries ∙ ap (λ (es : List Entry). handed reply ++ es) rest.entries_are
      ∙ sym (append_assoc (handed reply) mid.core.entries rest.more) ∙ ap (λ (es : List Entry). es ++ rest.more) same
      ∙ append_assoc old.core.entries (entry ∷ []) rest.more;
  of_requests = inr (entry, rest.more, refl, of, rest.of_requests);
  room = rest.room ∙ one.room;
}

pub enters-all : (old new : Joined) (requests : List Request) (replies : List Reply) → AreReplies old requests replies new → EntersAll old requests replies new
enters-all old new [] [] are = record {
  more = [];
  entries_are = ap (λ (world : Joined). world.core.entries) are ∙ sym (append-nil old.core.entries);
  of_requests = refl;
  room = ap (λ (world : Joined). world.core.capacity) are;
}
enters-all old new (asked ∷ requests) (reply ∷ replies) are =
    let one = enters-one old are.0 asked reply are.1 in
    next old are.0 new asked reply requests replies one (enters-all are.0 new requests replies are.2) one.adds
enters-all old new [] (reply ∷ replies) are = absurd are
enters-all old new (asked ∷ requests) [] are = absurd are

-- so it is of a world that was just opened, whose history is then of the requests alone
pub as-asked : (policy : Declared) (kernels : List Program) (capacity : ℕ) (opened world : Joined) (requests : List Request) (replies : List Reply) →
    IsBegun opened policy kernels capacity → AreReplies opened requests replies world → IsAsAsked kernels capacity requests (handed_out replies) world
as-asked policy kernels capacity opened world requests replies begun are =
    let all = enters-all opened world requests replies are in
    record {
      kernels_are = kernels-stay opened world requests replies are ∙ begun.core.kernels_are;
      capacity_is = all.room ∙ begun.core.capacity_is;
      entries_are = subst (AreOf requests) (sym (all.entries_are ∙ ap (λ (es : List Entry). es ++ all.more) begun.core.entries_are)) all.of_requests;
    }
