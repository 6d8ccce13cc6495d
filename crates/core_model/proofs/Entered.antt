-- What an entry that was owed tells of its event: its outcome, its changes, and the tests that it passed.
use Rattle.std.proofs.Common.{◌≡◌, ◌<◌, ℕ, ℤ, ◌+◌, ◌-◌, List, [], ◌∷◌, ◌++◌, length, refl, sym, ap, subst, Bool, true, false, Option, Some, None, ◌⊎◌, inl, inr}
use Rattle.std.specs.Prelude.{map, nat_le, ◌&&◌, ◌==◌, if◌then◌else◌}
use Rattle.std.specs.List.{list_any}
use Rattle.std.proofs.lemmas.Bool.{and_parts, eqb-true, leb-true, leb-false}
use Rattle.aql_packet.specs.Ring.{is_ring_size}
use Rattle.aql_packet.specs.declared.ids.Address.{Address}
use Rattle.aql_packet.specs.declared.ids.AgentHandle.{AgentHandle}
use Rattle.aql_packet.specs.declared.ids.ClientId.{ClientId}
use Rattle.aql_packet.specs.declared.ids.QueueId.{QueueId}
use Rattle.aql_packet.specs.declared.ids.PacketId.{PacketId}
use Rattle.aql_packet.specs.declared.ids.SignalHandle.{SignalHandle}
use Rattle.aql_packet.specs.declared.packet.AgentDispatch.{AgentDispatch}
use Rattle.aql_packet.specs.declared.packet.KernelDispatch.{KernelDispatch}
use Rattle.aql_packet.specs.declared.packet.Packet.{Packet}
use Rattle.aql_packet.specs.declared.packet.Packet.TheVariants as packet
use Rattle.aql_packet.specs.Reading.{barrier_bit}
use Rattle.executor.specs.declared.fault.ItemFault.{ItemFault}
use Rattle.executor.specs.Results.{GroupResult, broke_rule, group_result, wrote}
use Rattle.executor.specs.declared.written_range.WrittenRange.{WrittenRange}
use Rattle.policy.specs.Rules.{knows_client, knows_object, are_allowed}
use Rattle.policy.specs.Policy.{region_lengths, rules_of}
use Rattle.policy.specs.declared.object.Object.{Object}
use Rattle.policy.specs.declared.object.Object.TheVariants as object
use Rattle.policy.specs.declared.rights.Right.TheVariants as right
use Rattle.policy.specs.declared.rights.Rights.{Rights}
use Rattle.regions.specs.Memory.{is_within, region_of}
use Rattle.signals.specs.Values.{applied, value_of}
use Rattle.signals.specs.declared.operation.SignalOp.{SignalOp}
use Rattle.queue_error.specs.declared.rule.Rule.{Rule}
use Rattle.queue_error.specs.declared.rule.Rule.TheVariants.{B1}
use Rattle.core_model.specs.declared.event.Event.TheVariants.{Open, Take, Reload, Call}
use Rattle.core_model.specs.declared.call.Call.TheVariants.{Grant, Revoke, Stop, Close, RunNext, Poll, Finish, HostWrite, ChangeSignal}
use Rattle.core_model.specs.declared.outcome.WaitCause.{WaitCause}
use Rattle.core_model.specs.declared.outcome.Outcome.{Outcome}
use Rattle.core_model.specs.declared.outcome.Outcome.TheVariants as outcome
use Rattle.core_model.specs.declared.outcome.Satisfied.{Satisfied}
use Rattle.core_model.specs.declared.outcome.Taken.TheVariants as taken
use Rattle.core_model.specs.declared.outcome.Worked.TheVariants as worked
use Rattle.core_model.specs.declared.outcome.Polled.TheVariants as polled_as
use Rattle.core_model.specs.declared.refusal.Refusal.{Refusal}
use Rattle.core_model.specs.declared.refusal.Refusal.TheVariants.{Busy}
use Rattle.core_model.specs.declared.entry.Effect.{Effect}
use Rattle.core_model.specs.declared.entry.Effect.TheVariants as effect
use Rattle.core_model.specs.declared.entry.Entry.{Entry}
use Rattle.core_model.specs.declared.flight.InFlight.{InFlight}
use Rattle.core_model.specs.declared.flight.Progress.{Progress}
use Rattle.core_model.specs.History.{Start}
use Rattle.core_model.specs.Grants.{in_force}
use Rattle.core_model.specs.Memory.{signals}
use Rattle.core_model.specs.Queues.{error_of, Opening, owner, openings, next_queue, next_id, is_down, is_stopped}
use Rattle.core_model.specs.declared.outcome.TheConstants.{NONE_SATISFIED}
use Rattle.core_model.specs.Flight.{flight, flight_of, in_flight, is_packet, progress, satisfied_by_either}
use Rattle.core_model.specs.Holds.{blocked, holder}
use Rattle.core_model.specs.Policies.{policy_at}
use Rattle.policy.specs.declared.rows.PolicyRows.{PolicyRows}
use Rattle.core_model.specs.declared.limits.TheConstants.{QUEUES}
use Rattle.core_model.specs.Needs.{completion_signal}
use Rattle.core_model.specs.LaunchRules.{first_failing_rule, cause_to_wait, is_barrier}
use Rattle.core_model.specs.View.{GivenAtLaunch, given_at_launch, group_input}
use Rattle.core_model.specs.Work.{group_count, write_of_run, agent_writes, is_ready, is_negative, seen_dependencies, newly_seen_positions}
use Rattle.core_model.specs.Owed.{refuses, Owed, owed, answers, enters, owed_verdict, for_packet, error_without_place, facts_of, is_host_size, is_finished, signal_decrement, owed_take, group_error, group_owed, owed_group, owed_poll, owed_finish, owed_sight, barrier_in, release_of, releases_of, old_if_asked}
use Rattle.core_model.proofs.Lists.{found-passes}
use Rattle.core_model.proofs.Launches.{refuse_if-passed, refuse_unless-passed, for_some-found}

-- a packet that is found in flight has the numbers that were looked for
pub named-found : (start : Start) (es : List Entry) (queue : QueueId) (id : PacketId) (f : InFlight) → in_flight start es queue id ≡ Some f → (f.queue ≡ queue) × (f.id ≡ id)
named-found start es queue id f found =
    let both = and_parts (f.queue.0 == queue.0) (f.id.0 == id.0) (found-passes (is_packet queue id) (flight start es) f found) in
    (ap (λ n. record { 0 = n }) (eqb-true _ _ both.0), ap (λ n. record { 0 = n }) (eqb-true _ _ both.1))

-- a test that refuses didn't
refused-not : (test : Bool) (why : Refusal) (rest : Owed) (told : Outcome) (effects : List Effect) → (if test then refuses why else rest) ≡ enters told effects → (test ≡ false) × (rest ≡ enters told effects)
refused-not true why rest told effects same = absurd cc
refused-not false why rest told effects same = (refl, same)

module _ (start : Start) (es : List Entry) (told : Outcome) (effects : List Effect) where
  -- an entry that tells no error and changes nothing
  pub record IsQuiet : Type 0 where
    pub effects_are : effects ≡ []
    pub no_error : error_of told ≡ None

  quiet : (outcome : Outcome) → error_of outcome ≡ None → enters outcome [] ≡ enters told effects → IsQuiet
  quiet outcome plain same =
      let is : outcome ≡ told = cc in
      record { effects_are = cc; no_error = subst (λ o. error_of o ≡ None) is plain }

  -- ---- a grant, a revocation, an opening change nothing

  pub grant-effects : (client : ClientId) (on : Object) (rights : Rights) → owed start es (Call (Grant client on rights)) ≡ enters told effects → IsQuiet × (are_allowed (rules_of (policy_at start es)) client on rights ≡ true)
  unfolding owed
  grant-effects client on rights owing =
      let one = refuse_unless-passed (knows_client (rules_of start.policy) client) _ _ told effects owing in
      let two = refuse_unless-passed (knows_object (rules_of start.policy) on) _ _ told effects one.rest_is in
      let three = refuse_unless-passed (are_allowed (rules_of (policy_at start es)) client on rights) _ _ told effects two.rest_is in
      (quiet outcome.Accepted refl three.rest_is, three.test_is)

  pub grant-known : (client : ClientId) (on : Object) (rights : Rights) → owed start es (Call (Grant client on rights)) ≡ enters told effects → knows_object (rules_of start.policy) on ≡ true
  unfolding owed
  grant-known client on rights owing =
      let one = refuse_unless-passed (knows_client (rules_of start.policy) client) _ _ told effects owing in
      (refuse_unless-passed (knows_object (rules_of start.policy) on) _ _ told effects one.rest_is).test_is

  -- no packet in flight holds what is revoked
  pub record Revoked (client : ClientId) (on : Object) (rights : Rights) : Type 0 where
    pub is_quiet : IsQuiet
    pub unheld : holder start es client on rights ≡ None

  unheld-passed : (o : Option InFlight) (rest : Owed) → elim o [ None ↦ rest | Some f ↦ refuses (Busy f.queue f.id) ] ≡ enters told effects → (o ≡ None) × (rest ≡ enters told effects)
  unheld-passed None rest same = (refl, same)
  unheld-passed (Some f) rest same = absurd cc

  pub revoke-effects : (client : ClientId) (on : Object) (rights : Rights) → owed start es (Call (Revoke client on rights)) ≡ enters told effects → Revoked client on rights
  unfolding owed
  revoke-effects client on rights owing =
      let one = refuse_unless-passed (knows_client (rules_of start.policy) client) _ _ told effects owing in
      let two = refuse_unless-passed (knows_object (rules_of start.policy) on) _ _ told effects one.rest_is in
      let three = unheld-passed (holder start es client on rights) _ two.rest_is in
      record { is_quiet = quiet outcome.Accepted refl three.1; unheld = three.0 }

  -- no packet in flight holds what a reload doesn't allow
  pub record Reloaded (rows : PolicyRows) : Type 0 where
    pub is_quiet : IsQuiet
    pub unheld : blocked start es rows ≡ None

  pub reload-effects : (rows : PolicyRows) → owed start es (Reload rows) ≡ enters told effects → Reloaded rows
  unfolding owed
  reload-effects rows owing =
      let one = unheld-passed (blocked start es rows) _ owing in
      record { is_quiet = quiet outcome.Accepted refl one.1; unheld = one.0 }

  -- the queue that was opened is the next, for a client that may use the agent
  pub record HasOpened (client : ClientId) (agent : AgentHandle) : Type 0 where
    pub is_quiet : IsQuiet
    pub granted : in_force start es client (object.Agent agent) right.Use ≡ true
    pub outcome_is : told ≡ outcome.Opened (next_queue (openings start es).opened)
    pub few : length (openings start es).queues < QUEUES

  pub open-effects : (client : ClientId) (agent : AgentHandle) (size : ℕ) → owed start es (Open client agent size) ≡ enters told effects → HasOpened client agent
  unfolding owed
  open-effects client agent size owing =
      let one = refuse_unless-passed (knows_client (rules_of start.policy) client) _ _ told effects owing in
      let two = refuse_unless-passed (in_force start es client (object.Agent agent) right.Use) _ _ told effects one.rest_is in
      let three = refuse_unless-passed (is_ring_size size) _ _ told effects two.rest_is in
      let last = refuse_if-passed (nat_le QUEUES (length (openings start es).queues)) _ _ told effects three.rest_is in
      record { is_quiet = quiet (outcome.Opened (next_queue (openings start es).opened)) refl last; granted = two.test_is; outcome_is = cc; few = leb-false _ _ (refused-not (nat_le QUEUES (length (openings start es).queues)) _ _ told effects three.rest_is).0 }

  -- ---- a stop releases at most

  pub record HasStopped (queue : QueueId) : Type 0 where
    pub effects_are : effects ≡ release_of queue (barrier_in (flight_of start es queue))
    pub outcome_is : told ≡ outcome.Accepted
    pub no_error : error_of told ≡ None

  pub stop-effects : (queue : QueueId) → owed start es (Call (Stop queue)) ≡ enters told effects → HasStopped queue
  unfolding owed
  stop-effects queue owing =
      let found = for_some-found (owner start es queue) _ _ told effects owing in
      let last = refuse_if-passed (is_stopped start es queue) _ _ told effects found.rest_is in
      let is : outcome.Accepted ≡ told = cc in
      record { effects_are = cc; outcome_is = sym is; no_error = ap error_of (sym is) }

  -- ---- a close releases all

  pub record HasClosed (queue : QueueId) : Type 0 where
    pub opening : Opening
    pub owner_is : owner start es queue ≡ Some opening
    pub effects_are : effects ≡ releases_of queue (flight_of start es queue)
    pub outcome_is : told ≡ outcome.Accepted
    pub no_error : error_of told ≡ None

  pub close-effects : (queue : QueueId) → owed start es (Call (Close queue)) ≡ enters told effects → HasClosed queue
  unfolding owed
  close-effects queue owing =
      let found = for_some-found (owner start es queue) _ _ told effects owing in
      let last = found.rest_is in
      let is : outcome.Accepted ≡ told = cc in
      record { opening = found.found; owner_is = found.is; effects_are = cc; outcome_is = sym is; no_error = ap error_of (sym is) }

  -- ---- a packet that is handed over

  -- it changes nothing, and is launched or denied by the launch rules
  pub record Decided (queue : QueueId) (id : PacketId) (bytes : List ℕ) : Type 0 where
    pub opening : Opening
    pub owner_is : owner start es queue ≡ Some opening
    pub launches_yet : is_down start es queue ≡ false
    pub id_is_next : id.0 ≡ next_id start es queue
    pub need_not_wait : cause_to_wait (map (λ f. f.packet) (flight_of start es queue)) (barrier_bit bytes) ≡ None
    pub effects_are : effects ≡ []
    pub verdict : Option Rule
    pub verdict_is : first_failing_rule (facts_of start es opening) bytes ≡ verdict
    pub outcome_is : told ≡ elim verdict [ None ↦ outcome.Taken taken.Launched | Some rule ↦ outcome.Taken (taken.Denied (error_without_place queue id.0 rule)) ]

  decided-entered : (queue : QueueId) (id : ℕ) (cause : Option WaitCause) (verdict : Option Rule) → owed_verdict queue id cause verdict ≡ enters told effects →
      (effects ≡ []) × (told ≡ elim verdict [ None ↦ outcome.Taken taken.Launched | Some rule ↦ outcome.Taken (taken.Denied (error_without_place queue id rule)) ]) × (cause ≡ None)
  decided-entered queue id (Some cause) verdict same = absurd cc
  decided-entered queue id None None same = (cc, cc, refl)
  decided-entered queue id None (Some rule) same = (cc, cc, refl)

  pub take-decided : (queue : QueueId) (id : PacketId) (bytes : List ℕ) → owed start es (Take queue id bytes) ≡ enters told effects → Decided queue id bytes
  unfolding owed
  take-decided queue id bytes owing =
      let found = for_some-found (owner start es queue) _ (owed_take start es queue id bytes) told effects owing in
      let opening = found.found in
      let up = refused-not (is_down start es queue) _ _ told effects found.rest_is in
      let next = refuse_unless-passed (id.0 == next_id start es queue) _ _ told effects up.1 in
      let last = decided-entered queue id.0 (cause_to_wait (map (λ f. f.packet) (flight_of start es queue)) (barrier_bit bytes)) (first_failing_rule (facts_of start es opening) bytes) next.rest_is in
      record {
        opening = opening;
        owner_is = found.is;
        launches_yet = up.0;
        id_is_next = eqb-true _ _ next.test_is;
        need_not_wait = last.2;
        effects_are = last.0;
        verdict = first_failing_rule (facts_of start es opening) bytes;
        verdict_is = refl;
        outcome_is = last.1;
      }

  -- ---- work

  -- a packet that a call names is in flight
  pub record IsFlying (queue : QueueId) (id : PacketId) (rest : Packet → Progress → Owed) : Type 0 where
    pub flying : InFlight
    pub found : in_flight start es queue id ≡ Some flying
    pub rest_is : rest flying.packet (progress start es queue id) ≡ enters told effects

  flying-found : (queue : QueueId) (id : PacketId) (rest : Packet → Progress → Owed) → for_packet start es queue id rest ≡ enters told effects → IsFlying queue id rest
  flying-found queue id rest owing =
      let queued = for_some-found (owner start es queue) _ _ told effects owing in
      let there = for_some-found (in_flight start es queue id) _ (λ f. rest f.packet (progress start es queue id)) told effects queued.rest_is in
      record { flying = there.found; found = there.is; rest_is = there.rest_is }

  -- an agent dispatch whose one group ran
  pub record GroupRan (p : Packet) (so_far : Progress) : Type 0 where
    pub dispatch : AgentDispatch
    pub is_agent : p ≡ packet.Agent dispatch
    pub is_left : so_far.groups_run < group_count p
    pub effects_are : effects ≡ agent_writes start es dispatch
    pub outcome_is : told ≡ outcome.Worked (worked.Ran 0 0)

  -- a kernel dispatch with a group left, which is run
  pub record KernelRan (queue : QueueId) (id : PacketId) (own : GivenAtLaunch) (p : Packet) (so_far : Progress) : Type 0 where
    pub dispatch : KernelDispatch
    pub is_kernel : p ≡ packet.Kernel dispatch
    pub is_left : so_far.groups_run < group_count p
    pub owed_is : group_owed queue id dispatch so_far.groups_run (group_result (group_input start es own dispatch so_far.groups_run)) ≡ enters told effects

  group-entered : (queue : QueueId) (id : PacketId) (own : GivenAtLaunch) (p : Packet) (so_far : Progress) → owed_group start es queue id own p so_far ≡ enters told effects → GroupRan p so_far ⊎ KernelRan queue id own p so_far
  group-entered queue id own (packet.Agent dispatch) so_far same = ran (nat_le 1 so_far.groups_run) refl same
    where
      ran : (b : Bool) → nat_le 1 so_far.groups_run ≡ b → (if b then answers (outcome.Worked worked.Done) else enters (outcome.Worked (worked.Ran 0 0)) (agent_writes start es dispatch)) ≡ enters told effects →
          GroupRan (packet.Agent dispatch) so_far ⊎ KernelRan queue id own (packet.Agent dispatch) so_far
      ran true has same = absurd cc
      ran false has same = inl (record { dispatch = dispatch; is_agent = refl; is_left = leb-false 1 so_far.groups_run has; effects_are = cc; outcome_is = cc })
  group-entered queue id own (packet.Kernel d) so_far same = ran (nat_le (group_count (packet.Kernel d)) so_far.groups_run) refl same
    where
      ran : (b : Bool) → nat_le (group_count (packet.Kernel d)) so_far.groups_run ≡ b →
          (if b then answers (outcome.Worked worked.Done) else group_owed queue id d so_far.groups_run (group_result (group_input start es own d so_far.groups_run))) ≡ enters told effects →
          GroupRan (packet.Kernel d) so_far ⊎ KernelRan queue id own (packet.Kernel d) so_far
      ran true has same = absurd cc
      ran false has same = inr (record { dispatch = d; is_kernel = refl; is_left = leb-false (group_count (packet.Kernel d)) so_far.groups_run has; owed_is = same })
  group-entered queue id own (packet.BarrierAnd _) so_far same = absurd cc
  group-entered queue id own (packet.BarrierOr _) so_far same = absurd cc

  -- a group of a kernel leaves its writes, or faults and releases its packet
  pub record GroupWrote (queue : QueueId) (id : PacketId) (d : KernelDispatch) (group : ℕ) (result : GroupResult) : Type 0 where
    pub runs : List WrittenRange
    pub result_is : result ≡ wrote runs
    pub effects_are : effects ≡ map write_of_run runs
    pub outcome_is : told ≡ outcome.Worked (worked.Ran group (group_count (packet.Kernel d) - (group + 1)))

  pub record GroupFaulted (queue : QueueId) (id : PacketId) (d : KernelDispatch) (group : ℕ) (result : GroupResult) : Type 0 where
    pub why : ItemFault
    pub effects_are : effects ≡ effect.Release queue id ∷ []
    pub outcome_is : told ≡ outcome.Worked (worked.Faulted (group_error queue id group why))

  pub kernel-ended : (queue : QueueId) (id : PacketId) (d : KernelDispatch) (group : ℕ) (result : GroupResult) → group_owed queue id d group result ≡ enters told effects →
      GroupWrote queue id d group result ⊎ GroupFaulted queue id d group result
  kernel-ended queue id d group (wrote runs) same = inl (record { runs = runs; result_is = refl; effects_are = cc; outcome_is = cc })
  kernel-ended queue id d group (broke_rule f) same = inr (record { why = f; effects_are = cc; outcome_is = cc })

  pub record HasRun (queue : QueueId) (id : PacketId) : Type 0 where
    pub flying : InFlight
    pub found : in_flight start es queue id ≡ Some flying
    pub owed_is : owed_group start es queue id (given_at_launch start es queue id) flying.packet (progress start es queue id) ≡ enters told effects
    pub group : GroupRan flying.packet (progress start es queue id) ⊎ KernelRan queue id (given_at_launch start es queue id) flying.packet (progress start es queue id)

  pub run-entered : (queue : QueueId) (id : PacketId) → owed start es (Call (RunNext queue id)) ≡ enters told effects → HasRun queue id
  unfolding owed
  run-entered queue id owing =
      let own = given_at_launch start es queue id in
      let there = flying-found queue id (owed_group start es queue id own) owing in
      record {
        flying = there.flying;
        found = there.found;
        owed_is = there.rest_is;
        group = group-entered queue id own there.flying.packet (progress start es queue id) there.rest_is;
      }

  -- ---- a poll fails, or changes nothing

  -- what a poll tells that sees something new
  abbrev pub sighting : Packet → Satisfied → Satisfied → Outcome
  sighting p satisfied new = outcome.Polled (if is_ready p (satisfied_by_either satisfied new) then polled_as.Ready new else polled_as.Pending new)

  pub record HasSeen (queue : QueueId) (id : PacketId) : Type 0 where
    pub is_quiet : IsQuiet
    pub flying : InFlight
    pub found : in_flight start es queue id ≡ Some flying
    pub outcome_is : told ≡ sighting flying.packet (progress start es queue id).satisfied (newly_seen_positions (signals start es) flying.packet (progress start es queue id).satisfied)
    pub none_negative : list_any (is_negative (signals start es)) (seen_dependencies flying.packet (progress start es queue id).satisfied) ≡ false
    pub some : list_any (λ at. at) (newly_seen_positions (signals start es) flying.packet (progress start es queue id).satisfied).0 ≡ true

  pub record HasFailed (queue : QueueId) (id : PacketId) : Type 0 where
    pub flying : InFlight
    pub found : in_flight start es queue id ≡ Some flying
    pub effects_are : effects ≡ effect.Release queue id ∷ []
    pub outcome_is : told ≡ outcome.Polled (polled_as.Failed (error_without_place queue id.0 B1))
    pub negative : list_any (is_negative (signals start es)) (seen_dependencies flying.packet (progress start es queue id).satisfied) ≡ true

  poll-end : (queue : QueueId) (id : PacketId) (f : InFlight) → in_flight start es queue id ≡ Some f → owed_poll (signals start es) queue id f.packet (progress start es queue id) ≡ enters told effects → HasSeen queue id ⊎ HasFailed queue id
  poll-end queue id f found same =
      let barrier = refuse_unless-passed (is_barrier f.packet) _ _ told effects same in
      ready (is_ready f.packet satisfied) (list_any (is_negative (signals start es)) (seen_dependencies f.packet satisfied)) refl barrier.rest_is
    where
      satisfied : Satisfied
      satisfied = (progress start es queue id).satisfied

      new : Satisfied
      new = newly_seen_positions (signals start es) f.packet satisfied

      some_seen : (b : Bool) → list_any (λ at. at) new.0 ≡ b → list_any (is_negative (signals start es)) (seen_dependencies f.packet satisfied) ≡ false → error_of (sighting f.packet satisfied new) ≡ None → (if b then enters (sighting f.packet satisfied new) [] else answers (outcome.Polled (polled_as.Pending NONE_SATISFIED))) ≡ enters told effects → HasSeen queue id
      some_seen true some none plain same = record { is_quiet = quiet (sighting f.packet satisfied new) plain same; flying = f; found = found; outcome_is = cc; none_negative = none; some = some }
      some_seen false some none plain same = absurd cc

      either : (b : Bool) → error_of (outcome.Polled (if b then polled_as.Ready new else polled_as.Pending new)) ≡ None
      either true = refl
      either false = refl

      ready : (is negative : Bool) → list_any (is_negative (signals start es)) (seen_dependencies f.packet satisfied) ≡ negative →
          (if is then answers (outcome.Polled (polled_as.Ready NONE_SATISFIED)) else if negative then enters (outcome.Polled (polled_as.Failed (error_without_place queue id.0 B1))) (effect.Release queue id ∷ []) else owed_sight f.packet satisfied new) ≡ enters told effects → HasSeen queue id ⊎ HasFailed queue id
      ready true negative looked same = absurd cc
      ready false true looked same = inr (record { flying = f; found = found; effects_are = cc; outcome_is = cc; negative = looked })
      ready false false looked same = inl (some_seen (list_any (λ at. at) new.0) refl looked (either (is_ready f.packet (satisfied_by_either satisfied new))) same)

  pub poll-entered : (queue : QueueId) (id : PacketId) → owed start es (Call (Poll queue id)) ≡ enters told effects → HasSeen queue id ⊎ HasFailed queue id
  unfolding owed
  poll-entered queue id owing =
      let there = flying-found queue id (owed_poll (signals start es) queue id) owing in
      poll-end queue id there.flying there.found there.rest_is

  -- ---- a packet's completion

  pub record Completed (queue : QueueId) (id : PacketId) : Type 0 where
    pub flying : InFlight
    pub found : in_flight start es queue id ≡ Some flying
    pub is_done : is_finished flying.packet (progress start es queue id) ≡ true
    pub outcome_is : told ≡ outcome.Accepted
    pub no_error : error_of told ≡ None
    pub effects_are : effects ≡ signal_decrement (signals start es) (completion_signal flying.packet) ++ effect.Release queue id ∷ []

  pub finish-entered : (queue : QueueId) (id : PacketId) → owed start es (Call (Finish queue id)) ≡ enters told effects → Completed queue id
  unfolding owed
  finish-entered queue id owing =
      let there = flying-found queue id (owed_finish (signals start es) queue id) owing in
      let last = refuse_unless-passed (is_finished there.flying.packet (progress start es queue id)) _ _ told effects there.rest_is in
      let same = last.rest_is in
      let accepted : outcome.Accepted ≡ told = cc in
      record { flying = there.flying; found = there.found; is_done = last.test_is; outcome_is = sym accepted; no_error = ap error_of (sym accepted); effects_are = cc }

  -- ---- a client's own write and change

  pub record HostWrote (client : ClientId) (address : Address) (bytes : List ℕ) : Type 0 where
    pub outcome_is : told ≡ outcome.Accepted
    pub no_error : error_of told ≡ None
    pub effects_are : effects ≡ effect.Write address bytes ∷ []
    pub some : 0 < length bytes
    pub whole : is_within (region_lengths start.policy) address.0 (length bytes) ≡ true
    pub granted : in_force start es client (object.Region (record { 0 = region_of address.0 })) right.Write ≡ true

  pub write-entered : (client : ClientId) (address : Address) (bytes : List ℕ) → owed start es (Call (HostWrite client address bytes)) ≡ enters told effects → HostWrote client address bytes
  unfolding owed
  write-entered client address bytes owing =
      let one = refuse_unless-passed (knows_client (rules_of start.policy) client) _ _ told effects owing in
      let two = refuse_unless-passed (is_host_size (length bytes)) _ _ told effects one.rest_is in
      let three = refuse_unless-passed (is_within (region_lengths start.policy) address.0 (length bytes) && in_force start es client (object.Region (record { 0 = region_of address.0 })) right.Write) _ _ told effects two.rest_is in
      let both = and_parts (is_within (region_lengths start.policy) address.0 (length bytes)) _ three.test_is in
      let last = three.rest_is in
      let is : outcome.Accepted ≡ told = cc in
      record { outcome_is = sym is; no_error = ap error_of (sym is); effects_are = cc; some = leb-true 1 (length bytes) (and_parts (nat_le 1 (length bytes)) _ two.test_is).0; whole = both.0; granted = both.1 }

  pub record ClientChanged (client : ClientId) (signal : SignalHandle) (operation : SignalOp) : Type 0 where
    pub old : ℤ
    pub outcome_is : told ≡ outcome.Changed (old_if_asked operation old)
    pub no_error : error_of told ≡ None
    pub was : value_of (signals start es) signal.0 ≡ Some old
    pub granted : in_force start es client (object.Signal signal) right.Change ≡ true
    pub effects_are : effects ≡ effect.Signal signal old (applied operation old) ∷ []

  pub change-entered : (client : ClientId) (signal : SignalHandle) (operation : SignalOp) → owed start es (Call (ChangeSignal client signal operation)) ≡ enters told effects → ClientChanged client signal operation
  unfolding owed
  change-entered client signal operation owing =
      let one = refuse_unless-passed (knows_client (rules_of start.policy) client) _ _ told effects owing in
      let two = refuse_unless-passed (in_force start es client (object.Signal signal) right.Change) _ _ told effects one.rest_is in
      let three = for_some-found (value_of (signals start es) signal.0) _ _ told effects two.rest_is in
      let last = three.rest_is in
      let is : outcome.Changed (old_if_asked operation three.found) ≡ told = cc in
      record { old = three.found; outcome_is = sym is; no_error = ap error_of (sym is); was = three.is; granted = two.test_is; effects_are = cc }
