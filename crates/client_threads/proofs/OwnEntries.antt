-- What a turn enters.
use Rattle.std.proofs.Common.{◌≡◌, ◌⊎◌, List, [], ◌++◌, refl, sym, ap, ◌∙◌, subst, inl, inr, append_assoc, ⊎_elim}
use Rattle.std.specs.Prelude.{Bool, true, false, Result, Ok, Err}
use Rattle.aql_packet.specs.declared.ids.PacketId.{PacketId}
use Rattle.aql_packet.specs.declared.ids.QueueId.{QueueId}
use Rattle.ring.specs.Passes.{RingSeen}
use Rattle.ring.specs.declared.processor.Shown.{Shown}
use Rattle.core_model.specs.History.{History}
use Rattle.core_model.specs.Legal.{MeetsOrLacks}
use Rattle.core_model.specs.declared.call.Call.TheVariants.{Finish, Poll, RunNext}
use Rattle.core_model.specs.declared.entry.Entry.{Entry}
use Rattle.core_model.specs.declared.event.Event.{Event}
use Rattle.core_model.specs.declared.event.Event.TheVariants.{Call, Take}
use Rattle.core_model.specs.declared.outcome.Outcome.{Outcome}
use Rattle.core_model.specs.declared.outcome.Outcome.TheVariants as outcome
use Rattle.core_model.specs.declared.outcome.Taken.{Taken}
use Rattle.core_model.specs.declared.refusal.Refusal.{Refusal}
use Rattle.client_threads.specs.declared.advancing.Advanced.{Advanced}
use Rattle.client_threads.specs.declared.advancing.Advanced.TheVariants as advanced
use Rattle.client_threads.specs.declared.lanes.LaneAnswer.{LaneAnswer}
use Rattle.client_threads.specs.declared.serving.ServeAnswer.{ServeAnswer}
use Rattle.client_threads.specs.declared.serving.ServeAnswer.TheVariants.{Empty, Launched, Denied, Waiting, Refused}
use Rattle.client_threads.specs.Advancing.{AdvancesTo, IsAdvanced, IsLastCall, next_call}
use Rattle.client_threads.specs.Lanes.{LaneSeen}
use Rattle.client_threads.specs.Running.{DoesTurn, EntersOwn, IsAtMost, IsCallFor}
use Rattle.client_threads.specs.Serving.{IsLeft, IsServed, ServesTo}
use Rattle.client_threads.proofs.Sections.{none_more}
use Rattle.client_threads.proofs.Turning.{call_adds}

-- the lane stays of its queue, and at most a take of that was entered
record Takes (queue : QueueId) (before : History) (new : LaneSeen) (after : History) : Type 0 where
  same : new.queue ≡ queue
  taken : List Entry
  history : after ≡ record before { entries = before.entries ++ taken }
  take_is : (taken ≡ []) ⊎ (shown : Shown) × IsAtMost (Take queue shown.id shown.bytes) taken

takes_none : (queue : QueueId) (before : History) (new : LaneSeen) (after : History) → new.queue ≡ queue → after ≡ before → Takes queue before new after
takes_none queue before new after same is = record { same = same; taken = []; history = is ∙ none_more before; take_is = inl refl }

served_takes : (ring : RingSeen) (old : LaneSeen) (before : History) (shown : Shown) (became : Taken) (pending : List PacketId) (new : LaneSeen) (after : History) → IsServed ring old before shown became pending new after
    → Takes old.queue before new after
served_takes ring old before shown became pending new after h =
    let a = call_adds (Take old.queue shown.id shown.bytes) before after (Ok (outcome.Taken became)) (inl h.taken) in
    record { same = ap (λ (l : LaneSeen). l.queue) h.lane; taken = a.more; history = a.history; take_is = inr (shown, a.own) }

left_takes : (ring : RingSeen) (old : LaneSeen) (before : History) (id : PacketId) (reply : Result Taken Refusal) (new : LaneSeen) (after : History) → IsLeft ring old before id reply new after → Takes old.queue before new after
left_takes ring old before id reply new after h = takes_none old.queue before new after (ap (λ (l : LaneSeen). l.queue) h.lane) h.audit

serve_takes : (ring : RingSeen) (old : LaneSeen) (before : History) (answer : ServeAnswer) (new : LaneSeen) (after : History) → ServesTo ring old before answer new after → Takes old.queue before new after
serve_takes ring old before Empty new after h = takes_none old.queue before new after (ap (λ (l : LaneSeen). l.queue) h.lane) h.audit
serve_takes ring old before (Launched id) new after h = served_takes ring old before h.0 _ _ new after h.2
serve_takes ring old before (Denied error) new after h = served_takes ring old before h.0 _ _ new after h.1
serve_takes ring old before (Waiting id cause) new after h = left_takes ring old before id _ new after h
serve_takes ring old before (Refused id why) new after h = left_takes ring old before id _ new after h

-- at most one call for a packet of a queue was entered
record Calls (queue : QueueId) (before after : History) : Type 0 where
  entries : List Entry
  history : after ≡ record before { entries = before.entries ++ entries }
  call_is : (entries ≡ []) ⊎ (id : PacketId) × (event : Event) × IsCallFor queue id event × IsAtMost event entries

next_for : (queue : QueueId) (id : PacketId) (barrier : Bool) (event : Event) → event ≡ next_call queue id barrier → IsCallFor queue id event
next_for queue id true event is = inr (inl is)
next_for queue id false event is = inr (inr is)

last_for : (before : History) (queue : QueueId) (id : PacketId) (barrier : Bool) (event : Event) (reply : Result Outcome Refusal) → IsLastCall before queue id barrier event reply → IsCallFor queue id event
last_for before queue id barrier event reply (inl h) = inl h.0
last_for before queue id barrier event reply (inr h) = next_for queue id barrier event h.0

advanced_calls : (old : LaneSeen) (before : History) (answer : Advanced) (new : LaneSeen) (after : History) → IsAdvanced old before answer new after → Calls old.queue before after
advanced_calls old before answer new after h =
    let a = call_adds h.event before after h.reply h.met in
    record { entries = a.more; history = a.history; call_is = inr (h.id, h.event, last_for before old.queue h.id _ h.event h.reply h.last, a.own) }

advance_calls : (old : LaneSeen) (before : History) (answer : Advanced) (new : LaneSeen) (after : History) → AdvancesTo old before answer new after → Calls old.queue before after
advance_calls old before advanced.Idle new after h = record { entries = []; history = h.audit ∙ none_more before; call_is = inl refl }
advance_calls old before (advanced.Ran id) new after h = advanced_calls old before (advanced.Ran id) new after h
advance_calls old before (advanced.Polled id found) new after h = advanced_calls old before (advanced.Polled id found) new after h
advance_calls old before (advanced.Finished id) new after h = advanced_calls old before (advanced.Finished id) new after h
advance_calls old before (advanced.Faulted error) new after h = advanced_calls old before (advanced.Faulted error) new after h
advance_calls old before (advanced.Refused id why) new after h = advanced_calls old before (advanced.Refused id why) new after h

-- a turn enters calls for its own queue alone
pub turn_enters_own : (ring : RingSeen) (old : LaneSeen) (before : History) (answer : LaneAnswer) (new : LaneSeen) (after : History) → DoesTurn ring old before answer new after → EntersOwn old.queue before after
turn_enters_own ring old before answer new after h =
    let a = serve_takes ring old before answer.served h.mid h.between h.serves in
    let b = subst (λ (q : QueueId). Calls q h.between after) a.same (advance_calls h.mid h.between answer.advanced new after h.advances) in
    record {
      taken = a.taken;
      advanced = b.entries;
      history = b.history ∙ (ap (λ (x : History). record x { entries = x.entries ++ b.entries }) a.history ∙ ap (λ (es : List Entry). record before { entries = es }) (append_assoc before.entries a.taken b.entries));
      take_is = a.take_is;
      call_is = b.call_is;
    }
