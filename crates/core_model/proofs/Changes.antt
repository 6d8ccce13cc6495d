-- The changes of each entry of a legal history, one by one: who asked for them, and which grants allowed them.
use Rattle.std.proofs.Common.{◌≡◌, ◌<◌, ℕ, ℤ, ◌+◌, ◌^◌, pos, List, [], ◌∷◌, ◌++◌, length, refl, sym, ◌∙◌, ap, subst, Bool, true, false, Option, Some, None, ◌⊎◌, inl, inr, arith, zero, suc}
use Rattle.std.specs.Prelude.{All, find, get_or, map, option_map, replicate, ◌%◌, ◌==◌, if◌then◌else◌}
use Rattle.std.specs.List.{Contains}
use Rattle.std.specs.Int.{w64, to_le_bytes}
use Rattle.std.proofs.lemmas.Bool.{eqb-true}
use Rattle.std.proofs.lemmas.List.{length-replicate}
use Rattle.std.proofs.lemmas.List.Elements.{All-nil, All-head, All-append, All-filter, All-map, All-weaker, All-contains_itself}
use Rattle.std.proofs.lemmas.List.FromFn.{length-map-range_with_len}
use Rattle.aql_packet.specs.declared.ids.Address.{Address}
use Rattle.aql_packet.specs.declared.ids.ClientId.{ClientId}
use Rattle.aql_packet.specs.declared.ids.QueueId.{QueueId}
use Rattle.aql_packet.specs.declared.ids.PacketId.{PacketId}
use Rattle.aql_packet.specs.declared.ids.SignalHandle.{SignalHandle}
use Rattle.aql_packet.specs.declared.packet.AgentDispatch.{AgentDispatch}
use Rattle.aql_packet.specs.declared.packet.KernelDispatch.{KernelDispatch}
use Rattle.aql_packet.specs.declared.packet.Packet.{Packet}
use Rattle.aql_packet.specs.declared.packet.Packet.TheVariants as packet
use Rattle.executor.specs.Results.{GroupResult, group_result, wrote}
use Rattle.executor.specs.declared.written_range.WrittenRange.{WrittenRange}
use Rattle.aql_packet.specs.Memory.{are_region_lengths}
use Rattle.policy.specs.declared.object.Object.TheVariants as object
use Rattle.policy.specs.declared.rights.Right.TheVariants as right
use Rattle.signals.specs.Values.{applied, value_of}
use Rattle.signals.specs.declared.operation.SignalOp.{SignalOp}
use Rattle.signals.specs.declared.operation.SignalOp.TheVariants.{Subtract}
use Rattle.queue_error.specs.declared.error.QueueError.{QueueError}
use Rattle.queue_error.specs.declared.rule.Rule.{Rule}
use Rattle.queue_error.specs.declared.rule.Rule.TheVariants.{B1}
use Rattle.core_model.specs.declared.event.Event.{Event}
use Rattle.core_model.specs.declared.event.Event.TheVariants.{Open, Take, Reload, Call}
use Rattle.core_model.specs.declared.call.Call.TheVariants.{Grant, Revoke, Stop, Close, RunNext, Poll, Finish, HostWrite, ChangeSignal}
use Rattle.core_model.specs.declared.outcome.Outcome.{Outcome}
use Rattle.core_model.specs.declared.outcome.Outcome.TheVariants as outcome
use Rattle.core_model.specs.declared.outcome.Taken.TheVariants as taken
use Rattle.core_model.specs.declared.outcome.Worked.TheVariants as worked
use Rattle.core_model.specs.declared.outcome.Polled.TheVariants as polled_as
use Rattle.core_model.specs.declared.entry.Effect.{Effect}
use Rattle.core_model.specs.declared.entry.Effect.TheVariants as effect
use Rattle.core_model.specs.declared.entry.Entry.{Entry}
use Rattle.core_model.specs.declared.flight.InFlight.{InFlight}
use Rattle.core_model.specs.declared.flight.Progress.{Progress}
use Rattle.core_model.specs.declared.need.AgentFunction.{AgentFunction}
use Rattle.core_model.specs.declared.need.AgentFunction.TheVariants.{Fill, Copy, Add64}
use Rattle.core_model.specs.declared.need.Range.{Range}
use Rattle.core_model.specs.declared.need.TheConstants.{FILL, COPY, ADD64}
use Rattle.core_model.specs.History.{Start}
use Rattle.core_model.specs.Grants.{in_force}
use Rattle.policy.specs.Policy.{region_lengths}
use Rattle.core_model.specs.Memory.{memory_at, memory_from, signals}
use Rattle.core_model.specs.Queues.{error_of}
use Rattle.core_model.specs.Flight.{flight, flight_of, in_flight, is_packet, progress}
use Rattle.core_model.specs.Needs.{argument, range_at, completion_signal, function_of, result_range}
use Rattle.core_model.specs.LaunchRules.{is_barrier}
use Rattle.core_model.specs.Work.{group_count, number_in_memory, write_of, write_of_run, function_writes, function_result, result_writes, agent_writes}
use Rattle.core_model.specs.Holds.{own_rights}
use Rattle.core_model.specs.View.{given_at_launch, group_input}
use Rattle.core_model.proofs.Viewing.{IsWithinGrant, runs-granted}
use Rattle.core_model.specs.Owed.{owed, enters, error_without_place, group_error, barrier_in, signal_decrement, release_of, releases_of}
use Rattle.core_model.specs.Legal.{IsWhole}
use Rattle.core_model.specs.Headline.{AllInForce, ChangeIsGranted, InFlightSince, MayReach, MayReachRange, MayUseSignal, IsReleasedBy, ReleaseIsDue, WriteIsGranted, packet_named, ranges_written, writes_of}
use Rattle.core_model.proofs.Lists.{all-left, all-one, all-right, filter-passes, found-all, found-passes}
use Rattle.core_model.proofs.Holding.{flying-since}
use Rattle.core_model.proofs.Entered.{named-found, IsQuiet, HasSeen, HasFailed, HasRun, GroupRan, KernelRan, GroupWrote, GroupFaulted, kernel-ended, grant-effects, revoke-effects, reload-effects, open-effects, stop-effects, close-effects, take-decided, run-entered, poll-entered, finish-entered, write-entered, change-entered}

-- ---- the ranges that a function names

pub copy-size : (d : AgentDispatch) (source target : Range) → function_of d ≡ Some (Copy source target) → source.size ≡ target.size
copy-size d source target same = by_tests (d.function == FILL) (d.function == COPY) (d.function == ADD64) same
  where
    by_tests : (fill copy add : Bool) → (if fill then Some (Fill (range_at (argument d 0) (argument d 1)) (argument d 2 % 256)) else if copy then Some (Copy (range_at (argument d 0) (argument d 2)) (range_at (argument d 1) (argument d 2))) else if add then Some (Add64 (range_at (argument d 0) 8) (argument d 1)) else None) ≡ Some (Copy source target) → source.size ≡ target.size
    by_tests true copy add same = absurd cc
    by_tests false true add same =
        let from : range_at (argument d 0) (argument d 2) ≡ source = cc in
        let to : range_at (argument d 1) (argument d 2) ≡ target = cc in
        ap (λ r. r.size) (sym from) ∙ ap (λ r. r.size) to
    by_tests false false true same = absurd cc
    by_tests false false false same = absurd cc

pub add-size : (d : AgentDispatch) (number : Range) (addend : ℕ) → function_of d ≡ Some (Add64 number addend) → number.size ≡ 8
add-size d number addend same = by_tests (d.function == FILL) (d.function == COPY) (d.function == ADD64) same
  where
    by_tests : (fill copy add : Bool) → (if fill then Some (Fill (range_at (argument d 0) (argument d 1)) (argument d 2 % 256)) else if copy then Some (Copy (range_at (argument d 0) (argument d 2)) (range_at (argument d 1) (argument d 2))) else if add then Some (Add64 (range_at (argument d 0) 8) (argument d 1)) else None) ≡ Some (Add64 number addend) → number.size ≡ 8
    by_tests true copy add same = absurd cc
    by_tests false true add same = absurd cc
    by_tests false false true same =
        let is : range_at (argument d 0) 8 ≡ number = cc in
        ap (λ r. r.size) (sym is)
    by_tests false false false same = absurd cc

-- ---- what a group writes lies where its packet may write

module _ (P : Effect → Type 0) (May : Range → Type 0) (one : (target : Range) (bytes : List ℕ) → length bytes ≡ target.size → 0 < length bytes → May target → P (effect.Write target.address bytes)) where
  write-met : (target : Range) (bytes : List ℕ) → length bytes ≡ target.size → May target → All P (write_of target.address.0 bytes)
  write-met target bytes long may = by_test (length bytes == 0) refl
    where
      some : (n : ℕ) → (n == 0) ≡ false → 0 < n
      some zero is = absurd cc
      some (suc n) is = omega arith

      by_test : (b : Bool) → (length bytes == 0) ≡ b → All P (if b then [] else effect.Write (record { 0 = target.address.0 }) bytes ∷ [])
      by_test true is = All-nil P
      by_test false is = all-one P _ (one target bytes long (some (length bytes) is) may)

  module _ (start : Start) (es : List Entry) (d : AgentDispatch) where
    -- what a function writes: a copy as much as it reads
    function-met : (function : Option AgentFunction) → function_of d ≡ function → All May (ranges_written function) → All P (function_writes start es function)
    function-met None is may = All-nil P
    function-met (Some (Fill target byte)) is may = write-met target (replicate target.size byte) (length-replicate target.size byte) (All-head May target [] may)
    function-met (Some (Copy source target)) is may =
        write-met target (memory_from start es source.address.0 source.size) (length-map-range_with_len (memory_at start es) source.address.0 source.size ∙ copy-size d source target is) (All-head May target [] may)
    function-met (Some (Add64 number addend)) is may =
        write-met number (to_le_bytes w64 ((number_in_memory start es number.address.0 + addend) % 2 ^ 64)) (sym (add-size d number addend is)) (All-head May number [] may)

    result-met : May (result_range d) → All P (result_writes start es d)
    result-met may = by_test (d.return_address.0 == 0) may
      where
        result : List ℕ
        result = to_le_bytes w64 (function_result start es (function_of d))

        by_test : (b : Bool) → May (range_at d.return_address.0 (if b then 0 else 8)) → All P (if b then [] else write_of d.return_address.0 result)
        by_test true may = All-nil P
        by_test false may = write-met (range_at d.return_address.0 8) result refl may

    agent-met : All May (writes_of (packet.Agent d)) → All P (agent_writes start es d)
    agent-met all =
        All-append P _ _ (function-met (function_of d) refl (all-left May (ranges_written (function_of d)) _ all))
        (result-met (All-head May (result_range d) [] (all-right May (ranges_written (function_of d)) _ all)))

-- ---- releases

module _ (P : Effect → Type 0) where
  release-all : (queue : QueueId) (o : Option InFlight) → ((f : InFlight) → o ≡ Some f → P (effect.Release queue f.id)) → All P (release_of queue (option_map (λ f. f.id) o))
  release-all queue None each = All-nil P
  release-all queue (Some f) each = all-one P (effect.Release queue f.id) (each f refl)

  poll-all : (start : Start) (es : List Entry) (told : Outcome) (effects : List Effect) (queue : QueueId) (id : PacketId) → ((f : InFlight) → in_flight start es queue id ≡ Some f → told ≡ outcome.Polled (polled_as.Failed (error_without_place queue id.0 B1)) → P (effect.Release queue id)) →
      HasSeen start es told effects queue id ⊎ HasFailed start es told effects queue id → All P effects
  poll-all start es told effects queue id each (inl seen) = subst (All P) (sym seen.is_quiet.effects_are) (All-nil P)
  poll-all start es told effects queue id each (inr failed) = subst (All P) (sym failed.effects_are) (all-one P (effect.Release queue id) (each failed.flying failed.found failed.outcome_is))

  -- a completion's change and its release
  completed-all : (values : List ℤ) (s : SignalHandle) (queue : QueueId) (id : PacketId) →
      ((v : ℤ) → (s.0 == 0) ≡ false → value_of values s.0 ≡ Some v → P (effect.Signal s v (applied (Subtract (pos 1)) v))) → P (effect.Release queue id) → All P (signal_decrement values s ++ effect.Release queue id ∷ [])
  completed-all values s queue id changed released = All-append P (signal_decrement values s) _ (by_test (s.0 == 0) (value_of values s.0) refl refl) (all-one P (effect.Release queue id) released)
    where
      by_test : (b : Bool) (o : Option ℤ) → (s.0 == 0) ≡ b → value_of values s.0 ≡ o → All P (if b then [] else elim o [ None ↦ [] | Some v ↦ effect.Signal s v (applied (Subtract (pos 1)) v) ∷ [] ])
      by_test true o null is = All-nil P
      by_test false None null is = All-nil P
      by_test false (Some v) null is = all-one P _ (changed v null is)

  agent-writes : ((address : ℕ) (bytes : List ℕ) → P (effect.Write (record { 0 = address }) bytes)) → (start : Start) (es : List Entry) (d : AgentDispatch) → All P (agent_writes start es d)
  agent-writes written start es d = All-append P _ _ (function-of (function_of d)) (by_test (d.return_address.0 == 0))
    where
      write-of : (address : ℕ) (bytes : List ℕ) → All P (write_of address bytes)
      write-of address bytes = some (length bytes == 0)
        where
          some : (b : Bool) → All P (if b then [] else effect.Write (record { 0 = address }) bytes ∷ [])
          some true = All-nil P
          some false = all-one P _ (written address bytes)

      function-of : (function : Option AgentFunction) → All P (function_writes start es function)
      function-of None = All-nil P
      function-of (Some (Fill target byte)) = write-of target.address.0 (replicate target.size byte)
      function-of (Some (Copy source target)) = write-of target.address.0 (memory_from start es source.address.0 source.size)
      function-of (Some (Add64 number addend)) = write-of number.address.0 (to_le_bytes w64 ((number_in_memory start es number.address.0 + addend) % 2 ^ 64))

      by_test : (b : Bool) → All P (if b then [] else write_of d.return_address.0 (to_le_bytes w64 (function_result start es (function_of d))))
      by_test true = All-nil P
      by_test false = write-of d.return_address.0 (to_le_bytes w64 (function_result start es (function_of d)))

-- ---- each change, by the event

module _ (start : Start) (es : List Entry) (legal : IsWhole start es) where
  -- what is found in flight is one of the packets in flight
  flies : (queue : QueueId) (id : PacketId) (f : InFlight) → in_flight start es queue id ≡ Some f → Contains (flight start es) f
  flies queue id f found = found-all (Contains (flight start es)) (is_packet queue id) (flight start es) f (All-contains_itself (flight start es)) found

  named-release : (event : Event) (told : Outcome) (queue : QueueId) (id : PacketId) → ((f : InFlight) → queue ≡ f.queue → id ≡ f.id → IsReleasedBy event told f) → (f : InFlight) → in_flight start es queue id ≡ Some f → ReleaseIsDue start es event told (effect.Release queue id)
  named-release event told queue id by f found =
      let named = named-found start es queue id f found in
      (f, flies queue id f found, named.0, named.1, by f (sym named.0) (sym named.1))

  -- the changes of an event, given what holds of each kind of change
  module _ (P : Event → Outcome → Effect → Type 0)
      (ran : (told : Outcome) (queue : QueueId) (id : PacketId) (s : InFlightSince start es queue id) (d : AgentDispatch) → s.flying.packet ≡ packet.Agent d → (progress start es queue id).groups_run < group_count s.flying.packet → All (P (Call (RunNext queue id)) told) (agent_writes start es d))
      (kernel_ran : (told : Outcome) (queue : QueueId) (id : PacketId) (s : InFlightSince start es queue id) → AllInForce start s.launch.before s.launch.opening.client (own_rights start es queue id) →
      (d : KernelDispatch) → s.flying.packet ≡ packet.Kernel d → (progress start es queue id).groups_run < group_count s.flying.packet → (runs : List WrittenRange) →
      group_result (group_input start es (given_at_launch start es queue id) d (progress start es queue id).groups_run) ≡ wrote runs → All (P (Call (RunNext queue id)) told) (map write_of_run runs))
      (completed_so : (told : Outcome) (queue : QueueId) (id : PacketId) (s : InFlightSince start es queue id) (v : ℤ) → ((completion_signal s.flying.packet).0 == 0) ≡ false → value_of (signals start es) (completion_signal s.flying.packet).0 ≡ Some v →
      P (Call (Finish queue id)) told (effect.Signal (completion_signal s.flying.packet) v (applied (Subtract (pos 1)) v)))
      (released : (event : Event) (told : Outcome) (queue : QueueId) (id : PacketId) → ReleaseIsDue start es event told (effect.Release queue id) → P event told (effect.Release queue id))
      (written : (told : Outcome) (client : ClientId) (address : Address) (bytes : List ℕ) → 0 < length bytes → MayReach start es client right.Write address.0 (length bytes) → P (Call (HostWrite client address bytes)) told (effect.Write address bytes))
      (changed : (told : Outcome) (client : ClientId) (signal : SignalHandle) (operation : SignalOp) (old : ℤ) → value_of (signals start es) signal.0 ≡ Some old → in_force start es client (object.Signal signal) right.Change ≡ true →
      P (Call (ChangeSignal client signal operation)) told (effect.Signal signal old (applied operation old)))
    where
      quietly : (event : Event) (told : Outcome) (effects : List Effect) → IsQuiet start es told effects → All (P event told) effects
      quietly event told effects quiet = subst (All (P event told)) (sym quiet.effects_are) (All-nil (P event told))

      stopped : (queue : QueueId) → All (P (Call (Stop queue)) outcome.Accepted) (release_of queue (barrier_in (flight_of start es queue)))
      stopped queue = release-all (P (Call (Stop queue)) outcome.Accepted) queue (find (λ f. is_barrier f.packet) (flight_of start es queue)) (λ f found.
          let barrier : is_barrier f.packet ≡ true = found-passes (λ f. is_barrier f.packet) (flight_of start es queue) f found in
          let own : (f.queue.0 == queue.0) ≡ true = found-all (λ g. (g.queue.0 == queue.0) ≡ true) (λ f. is_barrier f.packet) (flight_of start es queue) f (filter-passes (λ g. g.queue.0 == queue.0) (flight start es)) found in
          let queue_is : f.queue ≡ queue = ap (λ n. record { 0 = n }) (eqb-true _ _ own) in
          let there : Contains (flight start es) f = found-all (Contains (flight start es)) (λ f. is_barrier f.packet) (flight_of start es queue) f (All-filter (λ g. g.queue.0 == queue.0) (Contains (flight start es)) (flight start es) (All-contains_itself (flight start es))) found in
          released (Call (Stop queue)) outcome.Accepted queue f.id (f, there, queue_is, refl, (sym (eqb-true _ _ own), barrier)))

      closed : (queue : QueueId) → All (P (Call (Close queue)) outcome.Accepted) (releases_of queue (flight_of start es queue))
      closed queue =
          All-map (P (Call (Close queue)) outcome.Accepted) (λ (f : InFlight). effect.Release queue f.id) (flight_of start es queue) (λ k d below.
          one (get_or (flight_of start es queue) k d) (filter-passes (λ g. g.queue.0 == queue.0) (flight start es) k d below)
          (All-filter (λ g. g.queue.0 == queue.0) (Contains (flight start es)) (flight start es) (All-contains_itself (flight start es)) k d below))
        where
          one : (f : InFlight) → (f.queue.0 == queue.0) ≡ true → Contains (flight start es) f → P (Call (Close queue)) outcome.Accepted (effect.Release queue f.id)
          one f own there =
              let queue_is : f.queue ≡ queue = ap (λ n. record { 0 = n }) (eqb-true _ _ own) in
              released (Call (Close queue)) outcome.Accepted queue f.id (f, there, queue_is, refl, sym (eqb-true _ _ own))

      finished : (queue : QueueId) (id : PacketId) (flying : InFlight) → in_flight start es queue id ≡ Some flying → All (P (Call (Finish queue id)) outcome.Accepted) (signal_decrement (signals start es) (completion_signal flying.packet) ++ effect.Release queue id ∷ [])
      finished queue id flying found =
          let since = flying-since start es legal queue id flying found in
          let s = since.0 in
          subst (λ f. All (P (Call (Finish queue id)) outcome.Accepted) (signal_decrement (signals start es) (completion_signal f.packet) ++ effect.Release queue id ∷ [])) since.1
          (completed-all (P (Call (Finish queue id)) outcome.Accepted) (signals start es) (completion_signal s.flying.packet) queue id (completed_so outcome.Accepted queue id s)
          (released (Call (Finish queue id)) outcome.Accepted queue id (named-release (Call (Finish queue id)) outcome.Accepted queue id (λ f q i. (q, i)) flying found)))

      abbrev failing : QueueId → PacketId → Outcome
      failing queue id = outcome.Polled (polled_as.Failed (error_without_place queue id.0 B1))

      -- a group that ran, of an agent dispatch or of a kernel, or that faulted
      kernel-changes : (told : Outcome) (effects : List Effect) (queue : QueueId) (id : PacketId) (flying : InFlight) → in_flight start es queue id ≡ Some flying →
          (s : InFlightSince start es queue id) → AllInForce start s.launch.before s.launch.opening.client (own_rights start es queue id) →
          (d : KernelDispatch) → s.flying.packet ≡ packet.Kernel d → (progress start es queue id).groups_run < group_count s.flying.packet →
          (result : GroupResult) → group_result (group_input start es (given_at_launch start es queue id) d (progress start es queue id).groups_run) ≡ result →
          GroupWrote start es told effects queue id d (progress start es queue id).groups_run result ⊎ GroupFaulted start es told effects queue id d (progress start es queue id).groups_run result → All (P (Call (RunNext queue id)) told) effects
      kernel-changes told effects queue id flying found s granted d is left result is_result (inl ended) =
          subst (All (P (Call (RunNext queue id)) told)) (sym ended.effects_are) (kernel_ran told queue id s granted d is left ended.runs (is_result ∙ ended.result_is))
      kernel-changes told effects queue id flying found s granted d is left result is_result (inr fault) =
          subst (All (P (Call (RunNext queue id)) told)) (sym fault.effects_are) (all-one (P (Call (RunNext queue id)) told) (effect.Release queue id)
          (subst (λ o. P (Call (RunNext queue id)) o (effect.Release queue id)) (sym fault.outcome_is)
          (released (Call (RunNext queue id)) (outcome.Worked (worked.Faulted (group_error queue id (progress start es queue id).groups_run fault.why))) queue id
          (named-release (Call (RunNext queue id)) (outcome.Worked (worked.Faulted (group_error queue id (progress start es queue id).groups_run fault.why))) queue id (λ f q i. (q, i)) flying found))))

      group-changes : (told : Outcome) (effects : List Effect) (queue : QueueId) (id : PacketId) (flying : InFlight) → in_flight start es queue id ≡ Some flying →
          (since : (s : InFlightSince start es queue id) × (s.flying ≡ flying) × AllInForce start s.launch.before s.launch.opening.client (own_rights start es queue id)) →
          GroupRan start es told effects flying.packet (progress start es queue id) ⊎ KernelRan start es told effects queue id (given_at_launch start es queue id) flying.packet (progress start es queue id) → All (P (Call (RunNext queue id)) told) effects
      group-changes told effects queue id flying found since (inl group) =
          subst (All (P (Call (RunNext queue id)) told)) (sym group.effects_are)
          (ran told queue id since.0 group.dispatch (ap (λ f. f.packet) since.1 ∙ group.is_agent) (subst (λ f. (progress start es queue id).groups_run < group_count f.packet) (sym since.1) group.is_left))
      group-changes told effects queue id flying found since (inr group) =
          kernel-changes told effects queue id flying found since.0 since.2 group.dispatch (ap (λ f. f.packet) since.1 ∙ group.is_kernel) (subst (λ f. (progress start es queue id).groups_run < group_count f.packet) (sym since.1) group.is_left)
          (group_result (group_input start es (given_at_launch start es queue id) group.dispatch (progress start es queue id).groups_run)) refl
          (kernel-ended start es told effects queue id group.dispatch (progress start es queue id).groups_run _ group.owed_is)

      pub each-change : (event : Event) (told : Outcome) (effects : List Effect) → owed start es event ≡ enters told effects → All (P event told) effects
      each-change (Call (Grant client on rights)) told effects owing = quietly _ told effects (grant-effects start es told effects client on rights owing).0
      each-change (Call (Revoke client on rights)) told effects owing = quietly _ told effects (revoke-effects start es told effects client on rights owing).is_quiet
      each-change (Open client agent size) told effects owing = quietly _ told effects (open-effects start es told effects client agent size owing).is_quiet
      each-change (Call (Stop queue)) told effects owing =
          let stop = stop-effects start es told effects queue owing in
          subst (λ o. All (P (Call (Stop queue)) o) effects) (sym stop.outcome_is) (subst (All (P (Call (Stop queue)) outcome.Accepted)) (sym stop.effects_are) (stopped queue))
      each-change (Call (Close queue)) told effects owing =
          let close = close-effects start es told effects queue owing in
          subst (λ o. All (P (Call (Close queue)) o) effects) (sym close.outcome_is) (subst (All (P (Call (Close queue)) outcome.Accepted)) (sym close.effects_are) (closed queue))
      each-change (Take queue id bytes) told effects owing = subst (All (P (Take queue id bytes) told)) (sym (take-decided start es told effects queue id bytes owing).effects_are) (All-nil _)
      each-change (Call (RunNext queue id)) told effects owing =
          let has_run = run-entered start es told effects queue id owing in
          let since = flying-since start es legal queue id has_run.flying has_run.found in
          group-changes told effects queue id has_run.flying has_run.found since has_run.group
      each-change (Call (Poll queue id)) told effects owing =
          poll-all (P (Call (Poll queue id)) told) start es told effects queue id (λ f found is. subst (λ o. P (Call (Poll queue id)) o (effect.Release queue id)) (sym is)
          (released (Call (Poll queue id)) (failing queue id) queue id (named-release (Call (Poll queue id)) (failing queue id) queue id (λ f q i. (q, i)) f found))) (poll-entered start es told effects queue id owing)
      each-change (Call (Finish queue id)) told effects owing =
          let done = finish-entered start es told effects queue id owing in
          subst (λ o. All (P (Call (Finish queue id)) o) effects) (sym done.outcome_is) (subst (All (P (Call (Finish queue id)) outcome.Accepted)) (sym done.effects_are) (finished queue id done.flying done.found))
      each-change (Call (HostWrite client address bytes)) told effects owing =
          let w = write-entered start es told effects client address bytes owing in
          subst (All (P (Call (HostWrite client address bytes)) told)) (sym w.effects_are) (all-one (P (Call (HostWrite client address bytes)) told) (effect.Write address bytes) (written told client address bytes w.some (record { lies_whole = w.whole; granted = w.granted })))
      each-change (Reload rows) told effects owing = quietly _ told effects (reload-effects start es told effects rows owing).is_quiet
      each-change (Call (ChangeSignal client signal operation)) told effects owing =
          let c = change-entered start es told effects client signal operation owing in
          subst (All (P (Call (ChangeSignal client signal operation)) told)) (sym c.effects_are) (all-one (P (Call (ChangeSignal client signal operation)) told) (effect.Signal signal c.old (applied operation c.old)) (changed told client signal operation c.old c.was c.granted))

  -- ---- writes, changes of signals, releases

  group-writes : (queue : QueueId) (id : PacketId) (s : InFlightSince start es queue id) (d : AgentDispatch) → s.flying.packet ≡ packet.Agent d → (progress start es queue id).groups_run < group_count s.flying.packet → All (WriteIsGranted start es (Call (RunNext queue id))) (agent_writes start es d)
  group-writes queue id s d is left =
      agent-met (WriteIsGranted start es (Call (RunNext queue id))) (MayReachRange start s.launch.before s.launch.opening.client right.Write)
      (λ target bytes long some may. (some, inr (record { queue = queue; id = id; event_is = refl; packet = s; is_left = left; allowed = reached target bytes long some may })))
      start es d (subst (λ p. All (MayReachRange start s.launch.before s.launch.opening.client right.Write) (writes_of p)) (s.packet_is ∙ is) s.launch.allowed.rights.writes)
    where
      reached : (target : Range) (bytes : List ℕ) → length bytes ≡ target.size → 0 < length bytes → MayReachRange start s.launch.before s.launch.opening.client right.Write target → MayReach start s.launch.before s.launch.opening.client right.Write target.address.0 (length bytes)
      reached target bytes long some (inl empty) = absurd (omega (arith, long, some, empty))
      reached target bytes long some (inr reach) = rw long reach

  -- a kernel's group writes where its packet holds WRITE, which was in force at its launch
  kernel-writes : are_region_lengths (region_lengths start.policy) ≡ true → (queue : QueueId) (id : PacketId) (s : InFlightSince start es queue id) →
      AllInForce start s.launch.before s.launch.opening.client (own_rights start es queue id) → (d : KernelDispatch) → (progress start es queue id).groups_run < group_count s.flying.packet → (runs : List WrittenRange) →
      group_result (group_input start es (given_at_launch start es queue id) d (progress start es queue id).groups_run) ≡ wrote runs → All (WriteIsGranted start es (Call (RunNext queue id))) (map write_of_run runs)
  kernel-writes fit queue id s granted d left runs is =
      All-map (WriteIsGranted start es (Call (RunNext queue id))) write_of_run runs
      (All-weaker (IsWithinGrant start s.launch.before s.launch.opening.client) (λ run. WriteIsGranted start es (Call (RunNext queue id)) (write_of_run run))
      (λ run may. (may.0, inr (record { queue = queue; id = id; event_is = refl; packet = s; is_left = left; allowed = may.1 })))
      runs (runs-granted start es s.launch.before s.launch.opening.client (given_at_launch start es queue id) d (progress start es queue id).groups_run fit granted runs is))

  pub write-granted : are_region_lengths (region_lengths start.policy) ≡ true → (event : Event) (told : Outcome) (effects : List Effect) → owed start es event ≡ enters told effects → All (WriteIsGranted start es event) effects
  write-granted fit = each-change (λ event told. WriteIsGranted start es event) (λ told. group-writes) (λ told queue id s granted d is left runs wrote_so. kernel-writes fit queue id s granted d left runs wrote_so) (λ told queue id s v null is. tt) (λ event told queue id due. tt)
      (λ told client address bytes some reach. (some, inl (record { client = client; event_is = refl; allowed = reach }))) (λ told client signal operation old was granted. tt)

  pub change-granted : (event : Event) (told : Outcome) (effects : List Effect) → owed start es event ≡ enters told effects → All (ChangeIsGranted start es event) effects
  change-granted = each-change (λ event told. ChangeIsGranted start es event) (λ told queue id s d is left. agent-writes (ChangeIsGranted start es (Call (RunNext queue id))) (λ address bytes. tt) start es d)
      (λ told queue id s granted d is left runs wrote_so. All-map (ChangeIsGranted start es (Call (RunNext queue id))) write_of_run runs (λ k run below. tt))
      (λ told queue id s v null is. (is, inr (record { queue = queue; id = id; event_is = refl; result = refl; packet = s; signal_is = refl; allowed = may_change queue id s null })))
      (λ event told queue id due. tt) (λ told client address bytes some reach. tt)
      (λ told client signal operation old was granted. (was, inl (record { client = client; operation = operation; event_is = refl; result = refl; allowed = granted })))
    where
      may_change : (queue : QueueId) (id : PacketId) (s : InFlightSince start es queue id) → ((completion_signal s.flying.packet).0 == 0) ≡ false → in_force start s.launch.before s.launch.opening.client (object.Signal (completion_signal s.flying.packet)) right.Change ≡ true
      may_change queue id s null = some (subst (λ p. MayUseSignal start s.launch.before s.launch.opening.client right.Change (completion_signal p)) s.packet_is s.launch.allowed.rights.completes)
        where
          some : MayUseSignal start s.launch.before s.launch.opening.client right.Change (completion_signal s.flying.packet) → in_force start s.launch.before s.launch.opening.client (object.Signal (completion_signal s.flying.packet)) right.Change ≡ true
          some (inl is) = let e : ((completion_signal s.flying.packet).0 == 0) ≡ true = rw is refl in absurd cc
          some (inr granted) = granted

  pub release-due : (event : Event) (told : Outcome) (effects : List Effect) → owed start es event ≡ enters told effects → All (ReleaseIsDue start es event told) effects
  release-due = each-change (ReleaseIsDue start es) (λ told queue id s d is left. agent-writes (ReleaseIsDue start es (Call (RunNext queue id)) told) (λ address bytes. tt) start es d)
      (λ told queue id s granted d is left runs wrote_so. All-map (ReleaseIsDue start es (Call (RunNext queue id)) told) write_of_run runs (λ k run below. tt))
      (λ told queue id s v null is. tt) (λ event told queue id due. due) (λ told client address bytes some reach. tt) (λ told client signal operation old was granted. tt)

  -- ---- errors

  -- an error that a fault tells
  abbrev Faults : Outcome → QueueError → Type 0
  Faults told error = (told ≡ outcome.Worked (worked.Faulted error)) ⊎ (told ≡ outcome.Polled (polled_as.Failed error))

  error-told : (told : Outcome) (error : QueueError) → Faults told error → error_of told ≡ Some error
  error-told told error (inl is) = ap error_of is
  error-told told error (inr is) = ap error_of is

  none-told : {X : Type 0} (told : Outcome) (error : QueueError) → error_of told ≡ Some error → error_of told ≡ None → X
  none-told told error some none = let e : Some error ≡ None = sym some ∙ none in absurd cc

  failed-error : (told : Outcome) (effects : List Effect) (error : QueueError) (queue : QueueId) (id : PacketId) → HasFailed start es told effects queue id → error_of told ≡ Some error → error_without_place queue id.0 B1 ≡ error
  failed-error told effects error queue id failed told_is = let same : Some (error_without_place queue id.0 B1) ≡ Some error = sym (ap error_of failed.outcome_is) ∙ told_is in cc

  abbrev named : QueueId → PacketId → Option (QueueId × PacketId)
  named queue id = Some (queue, id)

  pub error-named : (event : Event) (told : Outcome) (effects : List Effect) (error : QueueError) → owed start es event ≡ enters told effects → error_of told ≡ Some error → packet_named event ≡ named error.queue error.packet
  error-named (Call (Grant client on rights)) told effects error owing is = none-told told error is (grant-effects start es told effects client on rights owing).0.no_error
  error-named (Call (Revoke client on rights)) told effects error owing is = none-told told error is (revoke-effects start es told effects client on rights owing).is_quiet.no_error
  error-named (Open client agent size) told effects error owing is = none-told told error is (open-effects start es told effects client agent size owing).is_quiet.no_error
  error-named (Call (Stop queue)) told effects error owing is = none-told told error is (stop-effects start es told effects queue owing).no_error
  error-named (Call (Close queue)) told effects error owing is = none-told told error is (close-effects start es told effects queue owing).no_error
  error-named (Take queue id bytes) told effects error owing is =
      let decided = take-decided start es told effects queue id bytes owing in
      denied decided.verdict (sym (ap error_of decided.outcome_is) ∙ is)
    where
      denied : (verdict : Option Rule) → error_of (elim verdict [ None ↦ outcome.Taken taken.Launched | Some rule ↦ outcome.Taken (taken.Denied (error_without_place queue id.0 rule)) ]) ≡ Some error → named queue id ≡ named error.queue error.packet
      denied None same = absurd cc
      denied (Some rule) same = let e : error_without_place queue id.0 rule ≡ error = cc in ap (λ x. named x.queue x.packet) e
  error-named (Call (RunNext queue id)) told effects error owing is = by_group (run-entered start es told effects queue id owing)
    where
      by_end : (d : KernelDispatch) (group : ℕ) (result : GroupResult) → GroupWrote start es told effects queue id d group result ⊎ GroupFaulted start es told effects queue id d group result → named queue id ≡ named error.queue error.packet
      by_end d group result (inl ran) = none-told told error is (ap error_of ran.outcome_is)
      by_end d group result (inr fault) =
          let same : Some (group_error queue id group fault.why) ≡ Some error = sym (ap error_of fault.outcome_is) ∙ is in
          let e : group_error queue id group fault.why ≡ error = cc in
          ap (λ x. named x.queue x.packet) e

      by_kind : (p : Packet) (so_far : Progress) → GroupRan start es told effects p so_far ⊎ KernelRan start es told effects queue id (given_at_launch start es queue id) p so_far → named queue id ≡ named error.queue error.packet
      by_kind p so_far (inl ran) = none-told told error is (ap error_of ran.outcome_is)
      by_kind p so_far (inr ran) = by_end ran.dispatch so_far.groups_run _ (kernel-ended start es told effects queue id ran.dispatch so_far.groups_run _ ran.owed_is)

      by_group : HasRun start es told effects queue id → named queue id ≡ named error.queue error.packet
      by_group has_run = by_kind has_run.flying.packet (progress start es queue id) has_run.group
  error-named (Call (Poll queue id)) told effects error owing is = by_poll (poll-entered start es told effects queue id owing)
    where
      by_poll : HasSeen start es told effects queue id ⊎ HasFailed start es told effects queue id → named queue id ≡ named error.queue error.packet
      by_poll (inl seen) = none-told told error is seen.is_quiet.no_error
      by_poll (inr failed) = ap (λ x. named x.queue x.packet) (failed-error told effects error queue id failed is)
  error-named (Call (Finish queue id)) told effects error owing is = none-told told error is (finish-entered start es told effects queue id owing).no_error
  error-named (Call (HostWrite client address bytes)) told effects error owing is = none-told told error is (write-entered start es told effects client address bytes owing).no_error
  error-named (Reload rows) told effects error owing is = none-told told error is (reload-effects start es told effects rows owing).is_quiet.no_error
  error-named (Call (ChangeSignal client signal operation)) told effects error owing is = none-told told error is (change-entered start es told effects client signal operation owing).no_error

  pub fault-released : (event : Event) (told : Outcome) (effects : List Effect) (error : QueueError) → owed start es event ≡ enters told effects → Faults told error → effects ≡ effect.Release error.queue error.packet ∷ []
  fault-released (Call (Grant client on rights)) told effects error owing faults = none-told told error (error-told told error faults) (grant-effects start es told effects client on rights owing).0.no_error
  fault-released (Call (Revoke client on rights)) told effects error owing faults = none-told told error (error-told told error faults) (revoke-effects start es told effects client on rights owing).is_quiet.no_error
  fault-released (Open client agent size) told effects error owing faults = none-told told error (error-told told error faults) (open-effects start es told effects client agent size owing).is_quiet.no_error
  fault-released (Call (Stop queue)) told effects error owing faults = none-told told error (error-told told error faults) (stop-effects start es told effects queue owing).no_error
  fault-released (Call (Close queue)) told effects error owing faults = none-told told error (error-told told error faults) (close-effects start es told effects queue owing).no_error
  fault-released (Take queue id bytes) told effects error owing faults = decided_so (take-decided start es told effects queue id bytes owing).verdict (take-decided start es told effects queue id bytes owing).outcome_is faults
    where
      decided_so : (verdict : Option Rule) → told ≡ (elim verdict [ None ↦ outcome.Taken taken.Launched | Some rule ↦ outcome.Taken (taken.Denied (error_without_place queue id.0 rule)) ]) → Faults told error → effects ≡ effect.Release error.queue error.packet ∷ []
      decided_so None is (inl was) = let e : outcome.Taken taken.Launched ≡ outcome.Worked (worked.Faulted error) = sym is ∙ was in absurd cc
      decided_so None is (inr was) = let e : outcome.Taken taken.Launched ≡ outcome.Polled (polled_as.Failed error) = sym is ∙ was in absurd cc
      decided_so (Some rule) is (inl was) = let e : outcome.Taken (taken.Denied (error_without_place queue id.0 rule)) ≡ outcome.Worked (worked.Faulted error) = sym is ∙ was in absurd cc
      decided_so (Some rule) is (inr was) = let e : outcome.Taken (taken.Denied (error_without_place queue id.0 rule)) ≡ outcome.Polled (polled_as.Failed error) = sym is ∙ was in absurd cc
  fault-released (Call (RunNext queue id)) told effects error owing faults = by_group (run-entered start es told effects queue id owing)
    where
      by_end : (d : KernelDispatch) (group : ℕ) (result : GroupResult) → GroupWrote start es told effects queue id d group result ⊎ GroupFaulted start es told effects queue id d group result → effects ≡ effect.Release error.queue error.packet ∷ []
      by_end d group result (inl ran) = none-told told error (error-told told error faults) (ap error_of ran.outcome_is)
      by_end d group result (inr fault) =
          let same : Some (group_error queue id group fault.why) ≡ Some error = sym (ap error_of fault.outcome_is) ∙ error-told told error faults in
          let e : group_error queue id group fault.why ≡ error = cc in
          fault.effects_are ∙ ap (λ x. effect.Release x.queue x.packet ∷ []) e

      by_kind : (p : Packet) (so_far : Progress) → GroupRan start es told effects p so_far ⊎ KernelRan start es told effects queue id (given_at_launch start es queue id) p so_far → effects ≡ effect.Release error.queue error.packet ∷ []
      by_kind p so_far (inl ran) = none-told told error (error-told told error faults) (ap error_of ran.outcome_is)
      by_kind p so_far (inr ran) = by_end ran.dispatch so_far.groups_run _ (kernel-ended start es told effects queue id ran.dispatch so_far.groups_run _ ran.owed_is)

      by_group : HasRun start es told effects queue id → effects ≡ effect.Release error.queue error.packet ∷ []
      by_group has_run = by_kind has_run.flying.packet (progress start es queue id) has_run.group
  fault-released (Call (Poll queue id)) told effects error owing faults = by_poll (poll-entered start es told effects queue id owing)
    where
      by_poll : HasSeen start es told effects queue id ⊎ HasFailed start es told effects queue id → effects ≡ effect.Release error.queue error.packet ∷ []
      by_poll (inl seen) = none-told told error (error-told told error faults) seen.is_quiet.no_error
      by_poll (inr failed) = failed.effects_are ∙ ap (λ e. effect.Release e.queue e.packet ∷ []) (failed-error told effects error queue id failed (error-told told error faults))
  fault-released (Call (Finish queue id)) told effects error owing faults = none-told told error (error-told told error faults) (finish-entered start es told effects queue id owing).no_error
  fault-released (Call (HostWrite client address bytes)) told effects error owing faults = none-told told error (error-told told error faults) (write-entered start es told effects client address bytes owing).no_error
  fault-released (Reload rows) told effects error owing faults = none-told told error (error-told told error faults) (reload-effects start es told effects rows owing).is_quiet.no_error
  fault-released (Call (ChangeSignal client signal operation)) told effects error owing faults = none-told told error (error-told told error faults) (change-entered start es told effects client signal operation owing).no_error
