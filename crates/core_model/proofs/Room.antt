-- An audit keeps a place for each packet in flight, and so what takes a packet out of flight finds room.
use Rattle.std.proofs.Common.{ℤ, ◌≡◌, ◌⊎◌, ◌≤◌, ℕ, ◌+◌, List, [], ◌∷◌, ◌++◌, length, refl, sym, ◌∙◌, ap, subst, Bool, true, false, Option, Some, None, inl, inr, arith, Result, length-append}
use Rattle.std.specs.Prelude.{filter, find, fold, map, nat_le, not, option_map, ◌==◌, if◌then◌else◌}
use Rattle.std.proofs.lemmas.Bool.{ltb-false}
use Rattle.aql_packet.specs.declared.ids.QueueId.{QueueId}
use Rattle.aql_packet.specs.declared.ids.PacketId.{PacketId}
use Rattle.aql_packet.specs.declared.ids.SignalHandle.{SignalHandle}
use Rattle.aql_packet.specs.declared.packet.KernelDispatch.{KernelDispatch}
use Rattle.aql_packet.specs.declared.packet.Packet.{Packet}
use Rattle.aql_packet.specs.declared.packet.Packet.TheVariants as packet
use Rattle.executor.specs.Results.{GroupResult, broke_rule, group_result, wrote}
use Rattle.queue_error.specs.declared.rule.Rule.TheVariants.{B1}
use Rattle.kernel_check.specs.Programs.{Program}
use Rattle.policy.specs.Policy.{Declared, rules_of}
use Rattle.queue_error.specs.declared.error.QueueError.{QueueError}
use Rattle.core_model.specs.declared.event.Event.{Event}
use Rattle.core_model.specs.declared.event.Event.TheVariants.{Open, Take, Reload, Call}
use Rattle.core_model.specs.declared.call.Call.TheVariants.{Grant, Revoke, Stop, Close, RunNext, Poll, Finish, HostWrite, ChangeSignal}
use Rattle.core_model.specs.declared.event.CoreRequest.{CoreRequest}
use Rattle.core_model.specs.declared.event.CoreRequest.TheVariants as request
use Rattle.core_model.specs.declared.outcome.Outcome.{Outcome}
use Rattle.core_model.specs.declared.outcome.Outcome.TheVariants as outcome
use Rattle.core_model.specs.declared.outcome.Worked.TheVariants as worked
use Rattle.core_model.specs.declared.outcome.Polled.TheVariants as polled_as
use Rattle.core_model.specs.declared.entry.Effect.{Effect}
use Rattle.core_model.specs.declared.entry.Effect.TheVariants as effect
use Rattle.core_model.specs.declared.entry.Entry.{Entry}
use Rattle.core_model.specs.declared.flight.InFlight.{InFlight}
use Rattle.core_model.specs.declared.flight.Progress.{Progress}
use Rattle.core_model.specs.declared.refusal.Refusal.{Refusal}
use Rattle.core_model.specs.declared.refusal.Refusal.TheVariants as refusal
use Rattle.core_model.specs.History.{beginning, History, Start}
use Rattle.core_model.specs.Flight.{flight, flight_after, flight_after_effect, flight_of, in_flight, is_packet, progress, satisfied_by_either}
use Rattle.core_model.specs.LaunchRules.{cause_to_wait, first_failing_rule, is_barrier}
use Rattle.core_model.specs.Queues.{Opening, is_down, is_stopped, next_id, openings, owner}
use Rattle.core_model.specs.Grants.{in_force, in_force_on_range}
use Rattle.core_model.specs.Holds.{blocked, holder}
use Rattle.core_model.specs.Policies.{policy_at}
use Rattle.core_model.specs.declared.limits.TheConstants.{QUEUES}
use Rattle.policy.specs.Rules.{knows_client, knows_object, are_allowed}
use Rattle.policy.specs.declared.object.Object.TheVariants as object
use Rattle.policy.specs.declared.rights.Right.TheVariants as right
use Rattle.aql_packet.specs.Ring.{is_ring_size}
use Rattle.signals.specs.Values.{applied, value_of}
use Rattle.core_model.specs.Refusals.{for_some, refuse_unless}
use Rattle.core_model.specs.declared.outcome.WaitCause.{WaitCause}
use Rattle.queue_error.specs.declared.rule.Rule.{Rule}
use Rattle.aql_packet.specs.Reading.{barrier_bit}
use Rattle.core_model.specs.Owed.{Owed, answers, barrier_in, completion_of, enters, error_without_place, facts_of, for_packet, group_owed, is_finished, is_host_size, old_if_asked, owed, owed_finish, owed_group, owed_poll, owed_sight, owed_take, owed_verdict, refuses, release_of, releases_of, signal_decrement}
use Rattle.core_model.specs.Legal.{AreReplies, IsOpening, IsServed, MeetsOrLacks, ReloadMeetsOrLacks, entry_of, history_after, lacks_room, within_room}
use Rattle.core_model.specs.Queries.{AnswerOrRefusal}
use Rattle.core_model.specs.Room.{FindsRoom, HasRoom}
use Rattle.core_model.proofs.Lists.{found-passes}
use Rattle.core_model.proofs.States.{begin-opening}
use Rattle.core_model.proofs.More.{flight-more}
use Rattle.core_model.specs.View.{GivenAtLaunch, given_at_launch, group_input}
use Rattle.core_model.specs.Memory.{signals}
use Rattle.core_model.specs.Work.{agent_writes, group_count, is_negative, is_ready, newly_seen_positions, seen_dependencies}
use Rattle.core_model.specs.declared.outcome.Satisfied.{Satisfied}
use Rattle.core_model.specs.declared.outcome.TheConstants.{NONE_SATISFIED}
use Rattle.std.specs.List.{Contains, list_any}
use Rattle.core_model.proofs.Entered.{GroupFaulted, GroupRan, GroupWrote, HasFailed, HasRun, HasSeen, KernelRan, close-effects, finish-entered, kernel-ended, poll-entered, run-entered, stop-effects}

-- ---- how many are left

not_more : {X : Type 0} (test : X → Bool) (xs : List X) → length (filter test xs) ≤ length xs
not_more test [] = omega arith
not_more test (x ∷ xs) = grind (arith, not_more test xs)

-- one that is found, and doesn't pass another test, is left out by that
fewer : {X : Type 0} (test kept : X → Bool) (xs : List X) (f : X) → find test xs ≡ Some f → kept f ≡ false → length (filter kept xs) + 1 ≤ length xs
fewer test kept [] f found out = absurd cc
fewer test kept (x ∷ xs) f found out = grind (arith, not_more kept xs, fewer test kept xs f)

-- so is a packet of a queue that is told by its id
fewer-named : (test : InFlight → Bool) (queue : QueueId) (id : PacketId) (fs : List InFlight) →
    option_map (λ (f : InFlight). f.id) (find test (filter (λ (f : InFlight). f.queue.0 == queue.0) fs)) ≡ Some id → length (filter (λ f. not (is_packet queue id f)) fs) + 1 ≤ length fs
fewer-named test queue id [] found = absurd cc
fewer-named test queue id (f ∷ fs) found = grind (arith, not_more (λ g. not (is_packet queue id g)) fs, fewer-named test queue id fs)

-- changes lead to no more packets in flight
not_more-after : (effects : List Effect) (fs : List InFlight) → length (fold flight_after_effect fs effects) ≤ length fs
not_more-after [] fs = omega arith
not_more-after (effect.Write address bytes ∷ rest) fs = not_more-after rest fs
not_more-after (effect.Signal signal old new ∷ rest) fs = not_more-after rest fs
not_more-after (effect.Release queue id ∷ rest) fs =
    let one = not_more-after rest (filter (λ f. not (is_packet queue id f)) fs) in
    let two = not_more (λ f. not (is_packet queue id f)) fs in
    omega (arith, one, two)

-- the releases of all of a queue, where there is one, lead to fewer
fewer-of : (queue : QueueId) (fs own : List InFlight) (f : InFlight) → filter (λ (g : InFlight). g.queue.0 == queue.0) fs ≡ own → Contains own f → length (fold flight_after_effect fs (releases_of queue own)) + 1 ≤ length fs
fewer-of queue fs [] f is there = let none = there.1 in absurd (omega (arith, none))
fewer-of queue fs (g ∷ gs) f is there =
    let one = fewer-named (λ (h : InFlight). true) queue g.id fs (ap (λ (hs : List InFlight). option_map (λ (h : InFlight). h.id) (find (λ h. true) hs)) is) in
    let rest = not_more-after (releases_of queue gs) (filter (λ h. not (is_packet queue g.id h)) fs) in
    omega (arith, one, rest)

completed : (values : List ℤ) (signal : SignalHandle) (queue : QueueId) (id : PacketId) (flying : List InFlight) →
    fold flight_after_effect flying (signal_decrement values signal ++ effect.Release queue id ∷ []) ≡ filter (λ f. not (is_packet queue id f)) flying
completed values signal queue id flying = grind arith

-- ---- what finds room

-- an entry that leaves fewer packets in flight finds room
module _ (history : History) (room : HasRoom history) where
  abbrev flying : List InFlight
  flying = flight (beginning history) history.entries

  finds : (event : Event) (told : Outcome) (effects : List Effect) → owed (beginning history) history.entries event ≡ enters told effects →
      length (flight_after flying (entry_of event told effects)) + 1 ≤ length flying → FindsRoom history event
  finds event told effects owing less = ap (within_room history event) owing ∙ by_room (lacks_room history (entry_of event told effects)) roomy ∙ sym owing
    where
      roomy : lacks_room history (entry_of event told effects) ≡ false
      roomy = grind arith

      by_room : (b : Bool) → b ≡ false → (if b then refuses refusal.AuditFull else enters told effects) ≡ enters told effects
      by_room true is = absurd cc
      by_room false is = refl

  -- what is owed a refusal or an answer without an entry is due that
  finds-by : (event : Event) → ((told : Outcome) (effects : List Effect) → owed (beginning history) history.entries event ≡ enters told effects → FindsRoom history event) → FindsRoom history event
  finds-by event enters-so = by_owed (owed (beginning history) history.entries event) refl
    where
      by_owed : (owing : Owed) → owed (beginning history) history.entries event ≡ owing → FindsRoom history event
      by_owed (refuses why) is = ap (within_room history event) is ∙ sym is
      by_owed (answers told) is = ap (within_room history event) is ∙ sym is
      by_owed (enters told effects) is = enters-so told effects is

  left-out : (queue : QueueId) (id : PacketId) (f : InFlight) → in_flight (beginning history) history.entries queue id ≡ Some f → length (filter (λ g. not (is_packet queue id g)) flying) + 1 ≤ length flying
  left-out queue id f found = fewer (is_packet queue id) (λ g. not (is_packet queue id g)) flying f found (ap not (found-passes (is_packet queue id) flying f found))

  pub finish-finds : (queue : QueueId) (id : PacketId) → FindsRoom history (Call (Finish queue id))
  finish-finds queue id = finds-by (Call (Finish queue id)) so
    where
      so : (told : Outcome) (effects : List Effect) → owed (beginning history) history.entries (Call (Finish queue id)) ≡ enters told effects → FindsRoom history (Call (Finish queue id))
      so told effects owing =
          let done = finish-entered (beginning history) history.entries told effects queue id owing in
          let out = left-out queue id done.flying done.found in
          let left : flight_after flying (entry_of (Call (Finish queue id)) told effects) ≡ filter (λ g. not (is_packet queue id g)) flying = ap (fold flight_after_effect flying) done.effects_are ∙ completed _ _ queue id flying in
          finds (Call (Finish queue id)) told effects owing (subst (λ (fs : List InFlight). length fs + 1 ≤ length flying) (sym left) out)

  -- a group that is owed a fault releases its packet
  faulted-group : (told : Outcome) (effects : List Effect) (error : QueueError) (queue : QueueId) (id : PacketId) → told ≡ outcome.Worked (worked.Faulted error) → HasRun (beginning history) history.entries told effects queue id → effects ≡ effect.Release queue id ∷ []
  faulted-group told effects error queue id is run = by_kind run.group
    where
      other : (group left : ℕ) → told ≡ outcome.Worked (worked.Ran group left) → effects ≡ effect.Release queue id ∷ []
      other group left was = let e : outcome.Worked (worked.Ran group left) ≡ outcome.Worked (worked.Faulted error) = sym was ∙ is in absurd cc

      by_end : (d : KernelDispatch) (group : ℕ) (result : GroupResult) → GroupWrote (beginning history) history.entries told effects queue id d group result ⊎ GroupFaulted (beginning history) history.entries told effects queue id d group result → effects ≡ effect.Release queue id ∷ []
      by_end d group result (inl ran) = other _ _ ran.outcome_is
      by_end d group result (inr fault) = fault.effects_are

      by_kind : {p : Packet} {so_far : Progress} → GroupRan (beginning history) history.entries told effects p so_far ⊎ KernelRan (beginning history) history.entries told effects queue id (given_at_launch (beginning history) history.entries queue id) p so_far → effects ≡ effect.Release queue id ∷ []
      by_kind (inl ran) = other _ _ ran.outcome_is
      by_kind {p} {so_far} (inr ran) = by_end ran.dispatch so_far.groups_run _ (kernel-ended (beginning history) history.entries told effects queue id ran.dispatch so_far.groups_run _ ran.owed_is)

  pub fault-finds : (queue : QueueId) (id : PacketId) (error : QueueError) (effects : List Effect) → owed (beginning history) history.entries (Call (RunNext queue id)) ≡ enters (outcome.Worked (worked.Faulted error)) effects → FindsRoom history (Call (RunNext queue id))
  fault-finds queue id error effects owing =
      let done = run-entered (beginning history) history.entries (outcome.Worked (worked.Faulted error)) effects queue id owing in
      let out = left-out queue id done.flying done.found in
      let left : flight_after flying (entry_of (Call (RunNext queue id)) (outcome.Worked (worked.Faulted error)) effects) ≡ filter (λ g. not (is_packet queue id g)) flying =
      ap (fold flight_after_effect flying) (faulted-group _ effects error queue id refl done) in
      finds (Call (RunNext queue id)) _ effects owing (subst (λ (fs : List InFlight). length fs + 1 ≤ length flying) (sym left) out)

  pub failure-finds : (queue : QueueId) (id : PacketId) (error : QueueError) (effects : List Effect) → owed (beginning history) history.entries (Call (Poll queue id)) ≡ enters (outcome.Polled (polled_as.Failed error)) effects → FindsRoom history (Call (Poll queue id))
  failure-finds queue id error effects owing = by_end (poll-entered (beginning history) history.entries (outcome.Polled (polled_as.Failed error)) effects queue id owing)
    where
      by_end : HasSeen (beginning history) history.entries (outcome.Polled (polled_as.Failed error)) effects queue id ⊎ HasFailed (beginning history) history.entries (outcome.Polled (polled_as.Failed error)) effects queue id → FindsRoom history (Call (Poll queue id))
      by_end (inl seen) = let e : Some error ≡ None = seen.is_quiet.no_error in absurd cc
      by_end (inr failed) =
          let out = left-out queue id failed.flying failed.found in
          let left : flight_after flying (entry_of (Call (Poll queue id)) (outcome.Polled (polled_as.Failed error)) effects) ≡ filter (λ g. not (is_packet queue id g)) flying = ap (fold flight_after_effect flying) failed.effects_are in
          finds (Call (Poll queue id)) _ effects owing (subst (λ (fs : List InFlight). length fs + 1 ≤ length flying) (sym left) out)

  pub stop-finds : (queue : QueueId) (barrier : PacketId) → barrier_in (flight_of (beginning history) history.entries queue) ≡ Some barrier → FindsRoom history (Call (Stop queue))
  stop-finds queue barrier some = finds-by (Call (Stop queue)) so
    where
      so : (told : Outcome) (effects : List Effect) → owed (beginning history) history.entries (Call (Stop queue)) ≡ enters told effects → FindsRoom history (Call (Stop queue))
      so told effects owing =
          let done = stop-effects (beginning history) history.entries told effects queue owing in
          let out = fewer-named (λ f. is_barrier f.packet) queue barrier flying some in
          let left : flight_after flying (entry_of (Call (Stop queue)) told effects) ≡ filter (λ g. not (is_packet queue barrier g)) flying = ap (fold flight_after_effect flying) (done.effects_are ∙ ap (release_of queue) some) in
          finds (Call (Stop queue)) told effects owing (subst (λ (fs : List InFlight). length fs + 1 ≤ length flying) (sym left) out)

  pub close-finds : (queue : QueueId) (f : InFlight) → Contains (flight_of (beginning history) history.entries queue) f → FindsRoom history (Call (Close queue))
  close-finds queue f there = finds-by (Call (Close queue)) so
    where
      so : (told : Outcome) (effects : List Effect) → owed (beginning history) history.entries (Call (Close queue)) ≡ enters told effects → FindsRoom history (Call (Close queue))
      so told effects owing =
          let done = close-effects (beginning history) history.entries told effects queue owing in
          let out = fewer-of queue flying (flight_of (beginning history) history.entries queue) f refl there in
          let left : flight_after flying (entry_of (Call (Close queue)) told effects) ≡ fold flight_after_effect flying (releases_of queue (flight_of (beginning history) history.entries queue)) = ap (fold flight_after_effect flying) done.effects_are in
          finds (Call (Close queue)) told effects owing (subst (λ (fs : List InFlight). length fs + 1 ≤ length flying) (sym left) out)

-- ---- nothing is owed a refusal for want of room

verdict-never : (queue : QueueId) (id : ℕ) (cause : Option WaitCause) (verdict : Option Rule) → owed_verdict queue id cause verdict ≡ refuses refusal.AuditFull → ⊥
verdict-never queue id (Some cause) verdict is = absurd cc
verdict-never queue id None None is = absurd cc
verdict-never queue id None (Some rule) is = absurd cc

take-never : (down turn : Bool) (next : ℕ) (rest : Owed) → (rest ≡ refuses refusal.AuditFull → ⊥) →
    (if down then refuses refusal.QueueDown else refuse_unless turn (refuses (refusal.OutOfStep next)) rest) ≡ refuses refusal.AuditFull → ⊥
take-never true turn next rest none is = absurd cc
take-never false true next rest none is = none is
take-never false false next rest none is = absurd cc

sight-never : (p : Packet) (seen new : Satisfied) → owed_sight p seen new ≡ refuses refusal.AuditFull → ⊥
sight-never p seen new is = by_new (list_any (λ at. at) new.0) is
  where
    by_new : (b : Bool) → (if b then enters (outcome.Polled (if is_ready p (satisfied_by_either seen new) then polled_as.Ready new else polled_as.Pending new)) [] else answers (outcome.Polled (polled_as.Pending NONE_SATISFIED))) ≡ refuses refusal.AuditFull → ⊥
    by_new true same = absurd cc
    by_new false same = absurd cc

poll-never : (values : List ℤ) (queue : QueueId) (id : PacketId) (p : Packet) (so_far : Progress) → owed_poll values queue id p so_far ≡ refuses refusal.AuditFull → ⊥
poll-never values queue id p so_far is =
    by_tests (is_barrier p) (is_ready p so_far.satisfied) (list_any (is_negative values) (seen_dependencies p so_far.satisfied)) _ (sight-never p so_far.satisfied (newly_seen_positions values p so_far.satisfied)) is
  where
    by_tests : (barrier ready negative : Bool) (rest : Owed) → (rest ≡ refuses refusal.AuditFull → ⊥) →
        refuse_unless barrier (refuses refusal.NotInFlight)
        (if ready then answers (outcome.Polled (polled_as.Ready NONE_SATISFIED))
        else if negative then enters (outcome.Polled (polled_as.Failed (error_without_place queue id.0 B1))) (effect.Release queue id ∷ []) else rest) ≡ refuses refusal.AuditFull → ⊥
    by_tests false ready negative rest none same = absurd cc
    by_tests true true negative rest none same = absurd cc
    by_tests true false true rest none same = absurd cc
    by_tests true false false rest none same = none same

ended-never : (queue : QueueId) (id : PacketId) (d : KernelDispatch) (group : ℕ) (result : GroupResult) → group_owed queue id d group result ≡ refuses refusal.AuditFull → ⊥
ended-never queue id d group (wrote runs) is = absurd cc
ended-never queue id d group (broke_rule f) is = absurd cc

group-never : (start : Start) (entries : List Entry) (queue : QueueId) (id : PacketId) (own : GivenAtLaunch) (p : Packet) (so_far : Progress) → owed_group start entries queue id own p so_far ≡ refuses refusal.AuditFull → ⊥
group-never start entries queue id own (packet.Agent dispatch) so_far is = by_run (nat_le 1 so_far.groups_run) is
  where
    by_run : (b : Bool) → (if b then answers (outcome.Worked worked.Done) else enters (outcome.Worked (worked.Ran 0 0)) (agent_writes start entries dispatch)) ≡ refuses refusal.AuditFull → ⊥
    by_run true same = absurd cc
    by_run false same = absurd cc
group-never start entries queue id own (packet.Kernel d) so_far is = by_run (nat_le (group_count (packet.Kernel d)) so_far.groups_run) is
  where
    by_run : (b : Bool) → (if b then answers (outcome.Worked worked.Done) else group_owed queue id d so_far.groups_run (group_result (group_input start entries own d so_far.groups_run))) ≡ refuses refusal.AuditFull → ⊥
    by_run true same = absurd cc
    by_run false same = ended-never queue id d so_far.groups_run _ same
group-never start entries queue id own (packet.BarrierAnd _) so_far is = absurd cc
group-never start entries queue id own (packet.BarrierOr _) so_far is = absurd cc

packet-never : (start : Start) (entries : List Entry) (queue : QueueId) (id : PacketId) (rest : Packet → Progress → Owed) → ((p : Packet) (so_far : Progress) → rest p so_far ≡ refuses refusal.AuditFull → ⊥) →
    for_packet start entries queue id rest ≡ refuses refusal.AuditFull → ⊥
packet-never start entries queue id rest none is = by_both (owner start entries queue) (in_flight start entries queue id) is
  where
    by_both : (o : Option Opening) (found : Option InFlight) → for_some o (refuses refusal.UnknownQueue) (λ opening. for_some found (refuses refusal.NotInFlight) (λ f. rest f.packet (progress start entries queue id))) ≡ refuses refusal.AuditFull → ⊥
    by_both None found same = absurd cc
    by_both (Some opening) None same = absurd cc
    by_both (Some opening) (Some f) same = none _ _ same

finish-never : (values : List ℤ) (queue : QueueId) (id : PacketId) (p : Packet) (so_far : Progress) → owed_finish values queue id p so_far ≡ refuses refusal.AuditFull → ⊥
finish-never values queue id p so_far = by_done (is_finished p so_far)
  where
    by_done : (b : Bool) → refuse_unless b (refuses refusal.NotFinished) (enters outcome.Accepted (completion_of values queue id p)) ≡ refuses refusal.AuditFull → ⊥
    by_done true same = absurd cc
    by_done false same = absurd cc

unless-never : (test : Bool) (why : Refusal) (rest : Owed) → (why ≡ refusal.AuditFull → ⊥) → (rest ≡ refuses refusal.AuditFull → ⊥) → refuse_unless test (refuses why) rest ≡ refuses refusal.AuditFull → ⊥
unless-never true why rest other none same = none same
unless-never false why rest other none same = other cc

if-never : (test : Bool) (why : Refusal) (rest : Owed) → (why ≡ refusal.AuditFull → ⊥) → (rest ≡ refuses refusal.AuditFull → ⊥) → (if test then refuses why else rest) ≡ refuses refusal.AuditFull → ⊥
if-never true why rest other none same = other cc
if-never false why rest other none same = none same

entered-never : (told : Outcome) (effects : List Effect) → enters told effects ≡ refuses refusal.AuditFull → ⊥
entered-never told effects same = absurd cc

revoke-never : (o : Option InFlight) → elim o [ None ↦ enters outcome.Accepted [] | Some f ↦ refuses (refusal.Busy f.queue f.id) ] ≡ refuses refusal.AuditFull → ⊥
revoke-never None same = absurd cc
revoke-never (Some f) same = absurd cc

pub never-owed : (start : Start) (entries : List Entry) (event : Event) → owed start entries event ≡ refuses refusal.AuditFull → ⊥
unfolding owed
never-owed start entries (Call (Grant client on rights)) is =
    unless-never (knows_client (rules_of start.policy) client) refusal.UnknownClient _ (λ e. absurd cc)
    (unless-never (knows_object (rules_of start.policy) on) refusal.UnknownObject _ (λ e. absurd cc)
    (unless-never (are_allowed (rules_of (policy_at start entries)) client on rights) refusal.NotAllowed _ (λ e. absurd cc) (entered-never outcome.Accepted []))) is
never-owed start entries (Call (Revoke client on rights)) is =
    unless-never (knows_client (rules_of start.policy) client) refusal.UnknownClient _ (λ e. absurd cc)
    (unless-never (knows_object (rules_of start.policy) on) refusal.UnknownObject _ (λ e. absurd cc) (revoke-never (holder start entries client on rights))) is
never-owed start entries (Open client agent size) is =
    unless-never (knows_client (rules_of start.policy) client) refusal.UnknownClient _ (λ e. absurd cc)
    (unless-never (in_force start entries client (object.Agent agent) right.Use) (refusal.Denied right.Use) _ (λ e. absurd cc)
    (unless-never (is_ring_size size) refusal.BadSize _ (λ e. absurd cc)
    (if-never (nat_le QUEUES (length (openings start entries).queues)) refusal.TooMany _ (λ e. absurd cc) (entered-never _ [])))) is
never-owed start entries (Call (Stop queue)) is = by_owner (owner start entries queue) is
  where
    by_owner : (o : Option Opening) → for_some o (refuses refusal.UnknownQueue) (λ opening.
        if is_stopped start entries queue then refuses refusal.QueueDown else enters outcome.Accepted (release_of queue (barrier_in (flight_of start entries queue)))) ≡ refuses refusal.AuditFull → ⊥
    by_owner None same = absurd cc
    by_owner (Some opening) same = if-never (is_stopped start entries queue) refusal.QueueDown _ (λ e. absurd cc) (entered-never _ _) same
never-owed start entries (Call (Close queue)) is = by_owner (owner start entries queue) is
  where
    by_owner : (o : Option Opening) → for_some o (refuses refusal.UnknownQueue) (λ opening. enters outcome.Accepted (releases_of queue (flight_of start entries queue))) ≡ refuses refusal.AuditFull → ⊥
    by_owner None same = absurd cc
    by_owner (Some opening) same = absurd cc
never-owed start entries (Take queue id bytes) is = by_owner (owner start entries queue) is
  where
    by_owner : (o : Option Opening) → for_some o (refuses refusal.UnknownQueue) (owed_take start entries queue id bytes) ≡ refuses refusal.AuditFull → ⊥
    by_owner None is = absurd cc
    by_owner (Some opening) is =
        take-never (is_down start entries queue) (id.0 == next_id start entries queue) (next_id start entries queue) _
        (verdict-never queue id.0 (cause_to_wait (map (λ (f : InFlight). f.packet) (flight_of start entries queue)) (barrier_bit bytes)) (first_failing_rule (facts_of start entries opening) bytes)) is
never-owed start entries (Call (RunNext queue id)) is = packet-never start entries queue id _ (group-never start entries queue id (given_at_launch start entries queue id)) is
never-owed start entries (Call (Poll queue id)) is = packet-never start entries queue id _ (poll-never (signals start entries) queue id) is
never-owed start entries (Call (Finish queue id)) is = packet-never start entries queue id _ (finish-never (signals start entries) queue id) is
never-owed start entries (Call (HostWrite client address bytes)) is =
    unless-never (knows_client (rules_of start.policy) client) refusal.UnknownClient _ (λ e. absurd cc)
    (unless-never (is_host_size (length bytes)) refusal.BadSize _ (λ e. absurd cc)
    (unless-never (in_force_on_range start entries client right.Write address.0 (length bytes)) (refusal.Denied right.Write) _ (λ e. absurd cc) (entered-never _ _))) is
never-owed start entries (Call (ChangeSignal client signal operation)) is =
    unless-never (knows_client (rules_of start.policy) client) refusal.UnknownClient _ (λ e. absurd cc)
    (unless-never (in_force start entries client (object.Signal signal) right.Change) (refusal.Denied right.Change) _ (λ e. absurd cc) (by_value (value_of (signals start entries) signal.0))) is
  where
    by_value : (o : Option ℤ) → for_some o (refuses (refusal.Denied right.Change)) (λ old. enters (outcome.Changed (old_if_asked operation old)) (effect.Signal signal old (applied operation old) ∷ [])) ≡ refuses refusal.AuditFull → ⊥
    by_value None same = absurd cc
    by_value (Some old) same = absurd cc
never-owed start entries (Reload rows) is = revoke-never (blocked start entries rows) is

-- ---- the room stays

pub opening-roomy : (history : History) (policy : Declared) (kernels : List Program) (capacity : ℕ) → IsOpening history policy kernels capacity → HasRoom history
unfolding flight
opening-roomy history policy kernels capacity is =
    let none : length history.entries ≡ 0 = ap length is.entries_are in
    let quiet : length (flight (beginning history) history.entries) ≡ 0 = ap (λ (es : List Entry). length (fold flight_after (beginning history).flight es)) is.entries_are ∙ ap (λ (now : Start). length now.flight) (begin-opening policy history.kernels history.origin is.origin_is) in
    omega (arith, none, quiet)

module _ (old : History) (room : HasRoom old) (event : Event) where
  roomy-after : (owing : Owed) → HasRoom (history_after old event (within_room old event owing))
  roomy-after (refuses why) = room
  roomy-after (answers told) = room
  roomy-after (enters told effects) = by_room (lacks_room old (entry_of event told effects)) refl
    where
      by_room : (b : Bool) → lacks_room old (entry_of event told effects) ≡ b → HasRoom (history_after old event (if b then refuses refusal.AuditFull else enters told effects))
      by_room true is = room
      by_room false is =
          let longer : length (old.entries ++ entry_of event told effects ∷ []) ≡ length old.entries + 1 = length-append old.entries (entry_of event told effects ∷ []) in
          let flown : length (flight (beginning old) (old.entries ++ entry_of event told effects ∷ [])) ≡ length (flight_after (flight (beginning old) old.entries) (entry_of event told effects)) = ap length (flight-more (beginning old) old.entries (entry_of event told effects)) in
          let fits = ltb-false _ _ is in
          omega (arith, longer, flown, fits)

  pub event-roomy : (new : History) (reply : Result Outcome Refusal) → MeetsOrLacks event old new reply → HasRoom new
  event-roomy new reply (inl meets) = subst HasRoom (sym meets.history_is) (roomy-after (owed (beginning old) old.entries event))
  event-roomy new reply (inr lacks) = subst HasRoom (sym lacks.history_is) room

request-roomy : (old new : History) (asked : CoreRequest) (reply : AnswerOrRefusal) → HasRoom old → IsServed old asked reply new → HasRoom new
request-roomy old new (request.Open client agent size) reply room served = event-roomy old room (Open client agent size) new served.0 served.2
request-roomy old new (request.Take queue packet bytes) reply room served = event-roomy old room (Take queue packet bytes) new served.0 served.2
request-roomy old new (request.Call asked) reply room served = event-roomy old room (Call asked) new served.0 served.2
request-roomy old new (request.Query query) reply room served = subst HasRoom (sym served.1) room
request-roomy old new (request.Reload policy) reply room served = by_reload served.2
  where
    by_reload : ReloadMeetsOrLacks policy old new served.0 → HasRoom new
    by_reload (inl other) = subst HasRoom (sym other.history_is) room
    by_reload (inr same) = event-roomy old room (Reload policy.rows) new served.0 same.1

pub list-roomy : (old new : History) (requests : List CoreRequest) (replies : List AnswerOrRefusal) → HasRoom old → AreReplies old requests replies new → HasRoom new
list-roomy old new [] [] room is = subst HasRoom (sym is) room
list-roomy old new (asked ∷ requests) (reply ∷ replies) room are = list-roomy are.0 new requests replies (request-roomy old are.0 asked reply room are.1) are.2
list-roomy old new [] (reply ∷ replies) room are = absurd are
list-roomy old new (asked ∷ requests) [] room are = absurd are
