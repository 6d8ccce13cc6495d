-- What a lane's turn adds to the core's history, and to what it served.
use Rattle.std.proofs.Common.{◌≡◌, ◌⊎◌, ℕ, List, [], ◌∷◌, ◌++◌, refl, sym, ap, ◌∙◌, subst, ⊎_elim, inl, inr, append_assoc}
use Rattle.std.specs.Prelude.{◌≢◌, ◌==◌, Bool, true, false, Option, Some, None, Result, Ok, Err, if◌then◌else◌}
use Rattle.std.specs.List.{cons_option}
use Rattle.std.proofs.lemmas.List.{append-nil}
use mathlib.Core.List.{IsPrefix}
use Rattle.aql_packet.specs.Reading.{barrier_bit}
use Rattle.aql_packet.specs.declared.ids.PacketId.{PacketId}
use Rattle.aql_packet.specs.declared.ids.QueueId.{QueueId}
use Rattle.queue_error.specs.declared.rule.Rule.{Rule}
use Rattle.ring.specs.Passes.{RingSeen, ProcessorSeen}
use Rattle.ring.specs.declared.processor.Shown.{Shown}
use Rattle.core_model.specs.Flight.{flight_of}
use Rattle.core_model.specs.History.{History, Start, beginning}
use Rattle.core_model.specs.LaunchRules.{cause_to_wait, first_failing_rule}
use Rattle.core_model.specs.Legal.{LacksMemory, Meets, MeetsOrLacks, due, entry_of, history_after, lacks_room, reply_of, within_room}
use Rattle.core_model.specs.Owed.{Owed, answers, enters, facts_of, owed, owed_take, owed_verdict, refuses}
use Rattle.core_model.specs.Queues.{is_down, next_id, owner}
use Rattle.core_model.specs.declared.origin.Opening.{Opening}
use Rattle.core_model.specs.Refusals.{for_some, refuse_unless}
use Rattle.core_model.specs.declared.entry.Effect.{Effect}
use Rattle.core_model.specs.declared.entry.Entry.{Entry}
use Rattle.core_model.specs.declared.event.Event.{Event}
use Rattle.core_model.specs.declared.event.Event.TheVariants.{Call, Take}
use Rattle.core_model.specs.declared.call.Call.TheVariants.{Finish, Poll, RunNext}
use Rattle.core_model.specs.declared.outcome.Outcome.{Outcome}
use Rattle.core_model.specs.declared.outcome.Outcome.TheVariants as outcome
use Rattle.core_model.specs.declared.outcome.Taken.{Taken}
use Rattle.core_model.specs.declared.outcome.Taken.TheVariants as taken
use Rattle.core_model.specs.declared.outcome.WaitCause.{WaitCause}
use Rattle.core_model.specs.declared.refusal.Refusal.{Refusal}
use Rattle.core_model.specs.declared.refusal.Refusal.TheVariants as refusal
use Rattle.core_model.specs.declared.served.Served.{Served}
use Rattle.client_threads.specs.declared.advancing.Advanced.{Advanced}
use Rattle.client_threads.specs.declared.advancing.Advanced.TheVariants as advanced
use Rattle.client_threads.specs.declared.serving.ServeAnswer.{ServeAnswer}
use Rattle.client_threads.specs.declared.serving.ServeAnswer.TheVariants.{Empty, Launched, Denied, Waiting, Refused}
use Rattle.client_threads.specs.Advancing.{AdvancesTo, IsAdvanced, IsLastCall, next_call}
use Rattle.access_core.specs.Cores.{Core}
use Rattle.client_threads.specs.Boards.{FrontSeen}
use Rattle.client_threads.specs.Lanes.{LaneSeen}
use Rattle.client_threads.specs.Running.{GoesOn}
use Rattle.client_threads.specs.Sections.{AllFollow, Appends, IsFirst, Stand, last_of, seen_entries}
use Rattle.client_threads.specs.Serving.{served_of}
use Rattle.client_threads.specs.Takes.{taken_by, takes}
use Rattle.client_threads.specs.inner.Turns.{HandsTo, IsHanded, IsKeptBack, ServesIn, StandsIn}
use Rattle.client_threads.proofs.Differences.{takes-append}
use Rattle.client_threads.proofs.Sections.{none_more, same_number, served_stand}

-- ---- what a call adds

-- a call adds its own entry, or none
pub record Adds (event : Event) (old new : History) : Type 0 where
  pub more : List Entry
  pub history : new ≡ record old { entries = old.entries ++ more }
  pub own : (more ≡ []) ⊎ (told : Outcome) × (effects : List Effect) × (more ≡ entry_of event told effects ∷ [])

adds_none : (event : Event) (old new : History) → new ≡ old → Adds event old new
adds_none event old new same = record { more = []; history = same ∙ none_more old; own = inl refl }

pub call_adds : (event : Event) (old new : History) (reply : Result Outcome Refusal) → MeetsOrLacks event old new reply → Adds event old new
call_adds event old new reply (inl m) = by_owing (due old event) m.history_is
  where
    by_owing : (owing : Owed) → new ≡ history_after old event owing → Adds event old new
    by_owing (refuses why) is = adds_none event old new is
    by_owing (answers told) is = adds_none event old new is
    by_owing (enters told effects) is = record { more = entry_of event told effects ∷ []; history = is; own = inr (told, effects, refl) }
call_adds event old new reply (inr l) = adds_none event old new l.history_is

-- and so adds entries
pub call_appends : (event : Event) (old new : History) (reply : Result Outcome Refusal) → MeetsOrLacks event old new reply → Appends old new
call_appends event old new reply m = let a = call_adds event old new reply m in record { more = a.more; history = a.history }

-- so does one that takes no memory
pub met_appends : (event : Event) (old new : History) (reply : Result Outcome Refusal) → Meets event old new reply → Appends old new
met_appends event old new reply m = call_appends event old new reply (inl m)

-- ---- a packet that is taken is entered

answered_owed : (history : History) (event : Event) (o : Outcome) → due history event ≡ answers o → owed (beginning history) history.entries event ≡ answers o
answered_owed history event o is = by_owed (owed (beginning history) history.entries event) is
  where
    by_room : (b : Bool) (told : Outcome) (effects : List Effect) → (if b then refuses refusal.AuditFull else enters told effects) ≡ answers o → enters told effects ≡ answers o
    by_room true told effects e = absurd cc
    by_room false told effects e = e

    by_owed : (owing : Owed) → within_room history event owing ≡ answers o → owing ≡ answers o
    by_owed (refuses why) e = e
    by_owed (answers told) e = e
    by_owed (enters told effects) e = by_room (lacks_room history (entry_of event told effects)) told effects e

abbrev Waits : Outcome → Type 0
Waits o = (cause : WaitCause) × (o ≡ outcome.Taken (taken.Waiting cause))

verdict_answers : (queue : QueueId) (id : ℕ) (cause : Option WaitCause) (verdict : Option Rule) (o : Outcome) → owed_verdict queue id cause verdict ≡ answers o → Waits o
verdict_answers queue id (Some cause) verdict o e = (cause, cc)
verdict_answers queue id None None o e = absurd cc
verdict_answers queue id None (Some rule) o e = absurd cc

refusal_answers : (b : Bool) (why : Refusal) (rest : Owed) (o : Outcome) → (rest ≡ answers o → Waits o) → refuse_unless b (refuses why) rest ≡ answers o → Waits o
refusal_answers true why rest o waits e = waits e
refusal_answers false why rest o waits e = absurd cc

down_answers : (b : Bool) (rest : Owed) (o : Outcome) → (rest ≡ answers o → Waits o) → (if b then refuses refusal.QueueDown else rest) ≡ answers o → Waits o
down_answers true rest o waits e = absurd cc
down_answers false rest o waits e = waits e

module _ (start : Start) (es : List Entry) (queue : QueueId) (id : PacketId) (bytes : List ℕ) (o : Outcome) where
  of_opening : (opening : Opening) → owed_take start es queue id bytes opening ≡ answers o → Waits o
  of_opening opening =
      down_answers (is_down start es queue) _ o
      (refusal_answers (id.0 == next_id start es queue) (refusal.OutOfStep (next_id start es queue)) _ o
      (verdict_answers queue id.0 _ _ o))

  of_owner : (found : Option Opening) → for_some found (refuses refusal.UnknownQueue) (λ opening. owed_take start es queue id bytes opening) ≡ answers o → Waits o
  of_owner None e = absurd cc
  of_owner (Some opening) e = of_opening opening e

  -- a take that leaves no entry waits
  take_answers : owed start es (Take queue id bytes) ≡ answers o → Waits o
  unfolding owed
  take_answers is = of_owner (owner start es queue) is

-- a packet that is launched or denied is entered
taken_enters : (queue : QueueId) (id : PacketId) (bytes : List ℕ) (old new : History) (became : Taken) → ((cause : WaitCause) → became ≢ taken.Waiting cause) → Meets (Take queue id bytes) old new (Ok (outcome.Taken became))
    → (told : Outcome) × (effects : List Effect) × (new ≡ record old { entries = old.entries ++ entry_of (Take queue id bytes) told effects ∷ [] })
taken_enters queue id bytes old new became goes m = by_owing (due old (Take queue id bytes)) refl m.reply_is m.history_is
  where
    by_owing : (owing : Owed) → due old (Take queue id bytes) ≡ owing → Ok (outcome.Taken became) ≡ reply_of owing → new ≡ history_after old (Take queue id bytes) owing
        → (told : Outcome) × (effects : List Effect) × (new ≡ record old { entries = old.entries ++ entry_of (Take queue id bytes) told effects ∷ [] })
    by_owing (refuses why) is r h = absurd cc
    by_owing (answers told) is r h =
        let waits = take_answers (beginning old) old.entries queue id bytes told (answered_owed old (Take queue id bytes) told is) in
        let same : outcome.Taken became ≡ told = cc in
        let waiting : outcome.Taken became ≡ outcome.Taken (taken.Waiting waits.0) = same ∙ waits.1 in
        absurd (goes waits.0 (cc (waiting)))
    by_owing (enters told effects) is r h = (told, effects, h)

-- ---- what a lane served

own_take : (queue : QueueId) (id : PacketId) (bytes : List ℕ) → taken_by queue.0 (Take queue id bytes) ≡ Some (record { id = id; bytes = bytes })
own_take queue id bytes = ap (λ b. if b then Some (record { id = id; bytes = bytes }) else None) (same_number queue.0 queue.0 refl)

takes_one : (event : Event) (told : Outcome) (effects : List Effect) (queue : ℕ) → takes (entry_of event told effects ∷ []) queue ≡ cons_option (taken_by queue event) []
takes_one event told effects queue = refl

-- a lane of which the pass alone changed, and a core that stays
looked_in : (old new : LaneSeen) (before after : History) → new.pass.table ≡ old.pass.table → new ≡ record old { pass = new.pass } → after ≡ before → ServesIn old before new after
looked_in old new before after table lane audit = record {
  queue = ap (λ l. l.queue) lane;
  table = table;
  front = ap (λ l. l.front) lane;
  entries = [];
  history = audit ∙ none_more before;
  served = ap (λ l. l.served) lane ∙ sym (append-nil old.served);
  kept = ap (λ l. l.kept) lane ∙ sym (append-nil old.kept);
}

-- a lane that does nothing serves nothing
pub stays_in : (lane : LaneSeen) (history : History) → ServesIn lane history lane history
stays_in lane history = looked_in lane lane history history refl refl refl

handed_in : (ring : RingSeen) (old new : LaneSeen) (before after : History) (shown : Shown) (became : Taken) (pending : List PacketId) → ((cause : WaitCause) → became ≢ taken.Waiting cause)
    → IsHanded ring shown old before became pending new after → ServesIn old before new after
handed_in ring old new before after shown became pending goes h =
    let entered = taken_enters old.queue shown.id shown.bytes before after became goes h.taken in
    let entry = entry_of (Take old.queue shown.id shown.bytes) entered.0 entered.1 in
    let took : takes (entry ∷ []) old.queue.0 ≡ served_of shown ∷ [] = takes_one (Take old.queue shown.id shown.bytes) entered.0 entered.1 old.queue.0 ∙ ap (λ o. cons_option o []) (own_take old.queue shown.id shown.bytes) in
    record {
      queue = ap (λ l. l.queue) h.lane;
      table = h.retired.0;
      front = ap (λ l. l.front) h.lane;
      entries = entry ∷ [];
      history = entered.2;
      served = ap (λ l. l.served) h.lane ∙ ap (λ (xs : List Served). old.served ++ xs) (sym took);
      kept = ap (λ l. l.kept) h.lane ∙ ap (λ (xs : List Served). old.kept ++ xs) (sym took);
    }

kept_in : (old new : LaneSeen) (before after : History) (shown : Shown) (reply : Result Taken Refusal) → IsKeptBack shown old before reply new after → ServesIn old before new after
kept_in old new before after shown reply h = looked_in old new before after (ap (λ l. l.pass.table) h.lane) (h.lane ∙ ap (λ p. record old { pass = p }) (sym (ap (λ l. l.pass) h.lane))) h.audit

pub hands_in : (ring : RingSeen) (shown : Shown) (old : LaneSeen) (before : History) (answer : ServeAnswer) (new : LaneSeen) (after : History) → HandsTo ring shown old before answer new after → ServesIn old before new after
hands_in ring shown old before Empty new after h = absurd h
hands_in ring shown old before (Launched id) new after h = handed_in ring old new before after shown taken.Launched _ (λ cause e. absurd cc) h.1
hands_in ring shown old before (Denied error) new after h = handed_in ring old new before after shown (taken.Denied error) _ (λ cause e. absurd cc) h
hands_in ring shown old before (Waiting id cause) new after h = kept_in old new before after shown (Ok (taken.Waiting cause)) h.1
hands_in ring shown old before (Refused id why) new after h = kept_in old new before after shown (Err why) h.1

-- ---- what a lane advanced

next_takes_none : (queue : QueueId) (id : PacketId) (barrier : Bool) (of : ℕ) → taken_by of (next_call queue id barrier) ≡ None
next_takes_none queue id true of = refl
next_takes_none queue id false of = refl

last_takes_none : (before : History) (queue : QueueId) (id : PacketId) (barrier : Bool) (event : Event) (reply : Result Outcome Refusal) (of : ℕ) → IsLastCall before queue id barrier event reply → taken_by of event ≡ None
last_takes_none before queue id barrier event reply of (inl h) = ap (taken_by of) h.0
last_takes_none before queue id barrier event reply of (inr h) = ap (taken_by of) h.0 ∙ next_takes_none queue id barrier of

none_taken : (event : Event) (of : ℕ) (more : List Entry) → taken_by of event ≡ None → (more ≡ []) ⊎ (told : Outcome) × (effects : List Effect) × (more ≡ entry_of event told effects ∷ []) → takes more of ≡ []
none_taken event of more none (inl e) = ap (λ (es : List Entry). takes es of) e
none_taken event of more none (inr e) = ap (λ (es : List Entry). takes es of) e.2 ∙ (takes_one event e.0 e.1 of ∙ ap (λ o. cons_option o []) none)

advanced_in : (old new : LaneSeen) (before after : History) (result : Advanced) → IsAdvanced old before result new after → ServesIn old before new after
advanced_in old new before after result h =
    let a = call_adds h.event before after h.reply h.met in
    let none = none_taken h.event old.queue.0 a.more (last_takes_none before old.queue h.id _ h.event h.reply old.queue.0 h.last) a.own in
    record {
      queue = ap (λ l. l.queue) h.lane;
      table = ap (λ l. l.pass.table) h.lane;
      front = ap (λ l. l.front) h.lane;
      entries = a.more;
      history = a.history;
      served = ap (λ l. l.served) h.lane ∙ (sym (append-nil old.served) ∙ ap (λ (xs : List Served). old.served ++ xs) (sym none));
      kept = ap (λ l. l.kept) h.lane ∙ (sym (append-nil old.kept) ∙ ap (λ (xs : List Served). old.kept ++ xs) (sym none));
    }

pub advances_in : (old : LaneSeen) (before : History) (answer : Advanced) (new : LaneSeen) (after : History) → AdvancesTo old before answer new after → ServesIn old before new after
advances_in old before advanced.Idle new after h = looked_in old new before after (ap (λ l. l.pass.table) h.lane) (h.lane ∙ ap (λ p. record old { pass = p }) (sym (ap (λ l. l.pass) h.lane))) h.audit
advances_in old before (advanced.Ran id) new after h = advanced_in old new before after (advanced.Ran id) h
advances_in old before (advanced.Polled id found) new after h = advanced_in old new before after (advanced.Polled id found) h
advances_in old before (advanced.Finished id) new after h = advanced_in old new before after (advanced.Finished id) h
advances_in old before (advanced.Faulted error) new after h = advanced_in old new before after (advanced.Faulted error) h
advances_in old before (advanced.Refused id why) new after h = advanced_in old new before after (advanced.Refused id why) h

-- ---- both

-- what came in two turns is what came in both
both_more : (one two three : List Served) (first second : List Entry) (queue next : QueueId) → next ≡ queue → two ≡ one ++ takes first queue.0 → three ≡ two ++ takes second next.0 → three ≡ one ++ takes (first ++ second) queue.0
both_more one two three first second queue next same a b =
    b ∙ (ap (λ (xs : List Served). xs ++ takes second next.0) a
    ∙ (append_assoc one (takes first queue.0) (takes second next.0)
    ∙ ap (λ (xs : List Served). one ++ xs) (ap (λ (q : QueueId). takes first queue.0 ++ takes second q.0) same ∙ sym (takes-append first second queue.0))))

pub serves_both : (one two three : LaneSeen) (before mid after : History) → ServesIn one before two mid → ServesIn two mid three after → ServesIn one before three after
serves_both one two three before mid after a b = record {
  queue = b.queue ∙ a.queue;
  table = b.table ∙ a.table;
  front = b.front ∙ a.front;
  entries = a.entries ++ b.entries;
  history = b.history ∙ (ap (λ (h : History). record h { entries = h.entries ++ b.entries }) a.history ∙ ap (λ (es : List Entry). record before { entries = es }) (append_assoc before.entries a.entries b.entries));
  served = both_more one.served two.served three.served a.entries b.entries one.queue two.queue a.queue a.served b.served;
  kept = both_more one.kept two.kept three.kept a.entries b.entries one.queue two.queue a.queue a.kept b.kept;
}

-- a lane that served in a section went on, and its front is as before
pub served_goes_on : (old new : LaneSeen) (before after : History) → ServesIn old before new after → GoesOn old new
served_goes_on old new before after h = record { queue = h.queue; table = h.table; share = ap (λ (f : FrontSeen). f.share) h.front; more = takes h.entries old.queue.0; served = h.served; kept = h.kept }

pub served_appends : (old new : LaneSeen) (before after : History) → ServesIn old before new after → Appends before after
served_appends old new before after h = record { more = h.entries; history = h.history }

-- ---- in a section

-- a lane that served in a section and sees what it left went on, and what it served stands in that
pub turn_on : (old mid : LaneSeen) (front : FrontSeen) (before after : History) → ServesIn old before mid after → front.share ≡ old.front.share → GoesOn old (record mid { front = front })
turn_on old mid front before after h share = record { queue = h.queue; table = h.table; share = share; more = takes h.entries old.queue.0; served = h.served; kept = h.kept }

pub turn_stands : (opened : Core) (left : List Core) (before core : Core) (old mid : LaneSeen) (front : FrontSeen) → IsFirst opened → AllFollow opened left → last_of opened left ≡ before → IsPrefix old.front.left left → StandsIn old
    → ServesIn old before.history mid core.history → front.left ≡ left ++ core ∷ [] → StandsIn (record mid { front = front })
turn_stands opened left before core old mid front first all last begins stands h is =
    let history : core.history ≡ record (last_of opened left).history { entries = (last_of opened left).history.entries ++ h.entries } = h.history ∙ ap (λ (c : Core). record c.history { entries = c.history.entries ++ h.entries }) (sym last) in
    let own : Stand (old.served ++ takes h.entries old.queue.0) (takes (seen_entries (left ++ core ∷ [])) old.queue.0) = served_stand opened old.served old.queue.0 old.front.left left core h.entries first stands begins all history in
    subst (λ (xs : List Served). Stand xs (takes (seen_entries front.left) mid.queue.0)) (sym h.served)
    (subst (λ (q : QueueId). Stand (old.served ++ takes h.entries old.queue.0) (takes (seen_entries front.left) q.0)) (sym h.queue)
    (subst (λ (cs : List Core). Stand (old.served ++ takes h.entries old.queue.0) (takes (seen_entries cs) old.queue.0)) (sym is) own))
