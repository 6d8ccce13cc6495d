-- What clients are told and what groups read, with the grants that allow it; and why a packet is denied.
use Rattle.std.proofs.Common.{◌≡◌, ℕ, ℤ, ◌+◌, ◌^◌, List, [], ◌∷◌, ◌++◌, refl, sym, ◌∙◌, ap, subst, Bool, true, false, Option, Some, None, Ok, ◌⊎◌, inl, inr, Err}
use Rattle.std.specs.Prelude.{All, nat_le, ◌%◌, find, filter, map, not, ◌&&◌, ◌==◌, if◌then◌else◌}
use Rattle.std.specs.Int.{w64, to_le_bytes, from_le_bytes}
use Rattle.std.proofs.lemmas.Bool.{and_parts}
use Rattle.std.proofs.lemmas.List.Elements.{All-nil, All-cons, All-head, All-tail, All-filter, All-map}
use Rattle.aql_packet.specs.declared.ids.Address.{Address}
use Rattle.aql_packet.specs.declared.ids.SignalHandle.{SignalHandle}
use Rattle.aql_packet.specs.declared.ids.ClientId.{ClientId}
use Rattle.signals.specs.declared.operation.Condition.{Condition}
use Rattle.policy.specs.Rules.{count, knows_client}
use Rattle.policy.specs.Policy.{region_lengths, rules_of}
use Rattle.policy.specs.declared.rights.Rights.{Rights}
use Rattle.aql_packet.specs.declared.ids.QueueId.{QueueId}
use Rattle.aql_packet.specs.declared.ids.PacketId.{PacketId}
use Rattle.aql_packet.specs.declared.packet.AgentDispatch.{AgentDispatch}
use Rattle.aql_packet.specs.declared.packet.Packet.{Packet}
use Rattle.aql_packet.specs.declared.packet.Packet.TheVariants as packet
use Rattle.signals.specs.Values.{meets, value_of}
use Rattle.aql_packet.specs.Reading.{barrier_bit, packet_at, packet_type}
use Rattle.policy.specs.declared.object.Object.{Object}
use Rattle.policy.specs.declared.object.Object.TheVariants as object
use Rattle.policy.specs.declared.rights.Right.TheVariants as right
use Rattle.regions.specs.Memory.{is_within, region_of}
use Rattle.queue_error.specs.declared.error.QueueError.{QueueError}
use Rattle.queue_error.specs.declared.rule.Rule.{Rule}
use Rattle.core_model.specs.declared.answer.Answer.{Answer}
use Rattle.core_model.specs.declared.answer.Answer.TheVariants as answer
use Rattle.core_model.specs.declared.event.Query.TheVariants as query
use Rattle.core_model.specs.declared.event.Event.TheVariants.{Take, Call}
use Rattle.core_model.specs.declared.call.Call.TheVariants.{RunNext}
use Rattle.core_model.specs.declared.outcome.Outcome.{Outcome}
use Rattle.core_model.specs.declared.outcome.Outcome.TheVariants as outcome
use Rattle.core_model.specs.declared.outcome.Taken.TheVariants as taken
use Rattle.core_model.specs.declared.outcome.Worked.TheVariants as worked
use Rattle.core_model.specs.declared.flight.InFlight.{InFlight}
use Rattle.core_model.specs.declared.flight.Progress.{Progress}
use Rattle.core_model.specs.Flight.{flight_of, in_flight, progress}
use Rattle.executor.specs.Items.{LentRegion}
use Rattle.executor.specs.Results.{group_result}
use Rattle.core_model.specs.Holds.{own_rights}
use Rattle.core_model.specs.View.{GivenAtLaunch, given_at_launch, group_input, held_regions}
use Rattle.policy.specs.Rights.{has, rights_that}
use Rattle.core_model.proofs.Lists.{filter-passes}
use Rattle.core_model.proofs.Viewing as alike
use Rattle.core_model.proofs.Viewing.{IsKnown, all-known, may-read}
use Rattle.core_model.specs.declared.refusal.Refusal.{Refusal}
use Rattle.core_model.specs.declared.entry.Effect.{Effect}
use Rattle.core_model.specs.declared.entry.Entry.{Entry}
use Rattle.core_model.specs.declared.need.AgentFunction.{AgentFunction}
use Rattle.core_model.specs.declared.need.AgentFunction.TheVariants.{Fill, Copy, Add64}
use Rattle.core_model.specs.declared.need.Range.{Range}
use Rattle.core_model.specs.History.{HeldRights, Start}
use Rattle.core_model.specs.Grants.{in_force}
use Rattle.core_model.specs.Memory.{memory_from, signals}
use Rattle.core_model.specs.Queues.{Opening, owner, is_down, next_id}
use Rattle.core_model.specs.Needs.{function_of}
use Rattle.core_model.specs.LaunchRules.{Facts, first_failing_rule, holds_rule, launch_rules, cause_to_wait}
use Rattle.core_model.specs.Work.{group_count, number_in_memory, write_of, function_writes, function_result, agent_writes}
use Rattle.core_model.specs.Owed.{owed, answers, enters, error_without_place, facts_of, is_host_size, group_owed, owed_group}
use Rattle.core_model.specs.Legal.{IsWhole}
use Rattle.core_model.specs.Refusals.{for_some, refuse_unless}
use Rattle.core_model.specs.Queries.{AnswerOrRefusal, query_answer, has_some_right, listing}
use Rattle.policy.specs.Listing.{all_objects, listing_by}
use Rattle.core_model.specs.Headline.{AllInForce, InFlightSince, IsDenied, IsListed, MayReach, MayReachRange, range_of, ranges_read, ranges_seen, reads_of}
use Rattle.core_model.proofs.Entered.{GroupRan, KernelRan, take-decided, run-entered}
use Rattle.core_model.proofs.Holding.{flying-since}
use Rattle.core_model.proofs.Changes.{add-size}
use Rattle.policy.proofs.RightsLemmas.{has-rights_that}

-- ---- denials

-- the first that fails stands behind those that hold
record IsFirst (holds : Rule → Bool) (rules : List Rule) (rule : Rule) : Type 0 where
  pub earlier : List Rule
  pub later : List Rule
  pub in_order : rules ≡ earlier ++ rule ∷ later
  pub hold : All (λ r. holds r ≡ true) earlier
  pub fails : holds rule ≡ false

first-found : (holds : Rule → Bool) (rules : List Rule) (r : Rule) → find (λ r. not (holds r)) rules ≡ Some r → IsFirst holds rules r
first-found holds [] r found = absurd cc
first-found holds (x ∷ xs) r found = by_test (holds x) refl found (first-found holds xs r)
  where
    by_test : (b : Bool) → holds x ≡ b → (if not b then Some x else find (λ r. not (holds r)) xs) ≡ Some r → (find (λ r. not (holds r)) xs ≡ Some r → IsFirst holds xs r) → IsFirst holds (x ∷ xs) r
    by_test false is same more = let here : x ≡ r = cc in record { earlier = []; later = xs; in_order = ap (λ y. y ∷ xs) here; hold = All-nil _; fails = subst (λ y. holds y ≡ false) here is }
    by_test true is same more =
        let rest = more same in
        record { earlier = x ∷ rest.earlier; later = rest.later; in_order = ap (λ ys. x ∷ ys) rest.in_order; hold = All-cons (λ y. holds y ≡ true) x rest.earlier is rest.hold; fails = rest.fails }

first-failing : (facts : Facts) (bytes : List ℕ) (r : Rule) → first_failing_rule facts bytes ≡ Some r → IsFirst (holds_rule facts bytes (packet_at (packet_type bytes) bytes)) launch_rules r
unfolding first_failing_rule
first-failing facts bytes r found = first-found (holds_rule facts bytes (packet_at (packet_type bytes) bytes)) launch_rules r found

pub denied : (start : Start) (es : List Entry) (queue : QueueId) (id : PacketId) (bytes : List ℕ) (error : QueueError) (effects : List Effect) →
    owed start es (Take queue id bytes) ≡ enters (outcome.Taken (taken.Denied error)) effects → IsDenied start es queue id bytes error × (effects ≡ [])
denied start es queue id bytes error effects owing =
    let decided = take-decided start es (outcome.Taken (taken.Denied error)) effects queue id bytes owing in
    (by_rule decided.opening decided.owner_is decided.launches_yet decided.id_is_next decided.need_not_wait decided.verdict decided.verdict_is decided.outcome_is, decided.effects_are)
  where
    by_rule : (opening : Opening) → owner start es queue ≡ Some opening → is_down start es queue ≡ false → id.0 ≡ next_id start es queue → cause_to_wait (map (λ f. f.packet) (flight_of start es queue)) (barrier_bit bytes) ≡ None → (verdict : Option Rule) → first_failing_rule (facts_of start es opening) bytes ≡ verdict →
        outcome.Taken (taken.Denied error) ≡ (elim verdict [ None ↦ outcome.Taken taken.Launched | Some r ↦ outcome.Taken (taken.Denied (error_without_place queue id.0 r)) ]) → IsDenied start es queue id bytes error
    by_rule opening opened up next free None is same = absurd cc
    by_rule opening opened up next free (Some r) is same =
        let first = first-failing (facts_of start es opening) bytes r is in
        let error_is : error ≡ error_without_place queue id.0 r = cc in
        record { opening = opening; owner_is = opened; launches_yet = up; id_is_next = next; need_not_wait = free; rule = r; error_is = error_is; earlier = first.earlier; later = first.later; in_order = first.in_order; hold = first.hold; fails = first.fails }

-- ---- what groups read

all-both : {X : Type 0} (P Q R : X → Type 0) → ((x : X) → P x → Q x → R x) → (xs : List X) → All P xs → All Q xs → All R xs
all-both P Q R each [] ps qs = All-nil R
all-both P Q R each (x ∷ xs) ps qs = All-cons R x xs (each x (All-head P x xs ps) (All-head Q x xs qs)) (all-both P Q R each xs (All-tail P x xs ps) (All-tail Q x xs qs))

-- a packet whose group runs is in flight, and may read what its work reads
pub group-reads : (start : Start) (es : List Entry) (told : Outcome) (effects : List Effect) (queue : QueueId) (id : PacketId) → IsWhole start es → owed start es (Call (RunNext queue id)) ≡ enters told effects →
    (s : InFlightSince start es queue id) × All (MayReachRange start s.launch.before s.launch.opening.client right.Read) (ranges_seen start (own_rights start es queue id) s.flying.packet)
group-reads start es told effects queue id legal owing =
    let ran = run-entered start es told effects queue id owing in
    let since = flying-since start es legal queue id ran.flying ran.found in
    let s = since.0 in (
      s,
      by_kind start s.launch.before s.launch.opening.client (own_rights start es queue id) since.2 s.flying.packet
          (subst (λ p. All (MayReachRange start s.launch.before s.launch.opening.client right.Read) (reads_of p)) s.packet_is s.launch.allowed.rights.reads),
    )
  where
    by_kind : (start : Start) (before : List Entry) (client : ClientId) (hs : HeldRights) → AllInForce start before client hs → (p : Packet) →
        All (MayReachRange start before client right.Read) (reads_of p) → All (MayReachRange start before client right.Read) (ranges_seen start hs p)
    by_kind start before client hs granted (packet.Agent d) own = own
    by_kind start before client hs granted (packet.BarrierAnd _) own = own
    by_kind start before client hs granted (packet.BarrierOr _) own = own
    by_kind start before client hs granted (packet.Kernel d) own =
        All-map (MayReachRange start before client right.Read) range_of (filter (λ region. has region.rights right.Read) (held_regions start hs))
        (all-both (IsKnown start before client hs granted) (λ region. has region.rights right.Read ≡ true) (λ region. MayReachRange start before client right.Read (range_of region))
        (may-read start before client hs granted) (filter (λ region. has region.rights right.Read) (held_regions start hs))
        (All-filter (λ region. has region.rights right.Read) (IsKnown start before client hs granted) (held_regions start hs) (all-known start before client hs granted))
        (filter-passes (λ region. has region.rights right.Read) (held_regions start hs)))

-- what a group of a kernel dispatch comes to is its meaning, on what its packet holds
pub group-means : (start : Start) (es : List Entry) (told : Outcome) (effects : List Effect) (queue : QueueId) (id : PacketId) (f : InFlight) → owed start es (Call (RunNext queue id)) ≡ enters told effects →
    in_flight start es queue id ≡ Some f → owed_group start es queue id (given_at_launch start es queue id) f.packet (progress start es queue id) ≡ enters told effects
group-means start es told effects queue id f owing found =
    let ran = run-entered start es told effects queue id owing in
    let both : Some ran.flying ≡ Some f = sym ran.found ∙ found in
    let same : ran.flying ≡ f = cc in
    subst (λ (g : InFlight). owed_group start es queue id (given_at_launch start es queue id) g.packet (progress start es queue id) ≡ enters told effects) same ran.owed_is

-- what a group of an agent dispatch changes is what its dispatch writes
pub group-effects : (start : Start) (es : List Entry) (told : Outcome) (effects : List Effect) (queue : QueueId) (id : PacketId) (f : InFlight) (d : AgentDispatch) → owed start es (Call (RunNext queue id)) ≡ enters told effects →
    in_flight start es queue id ≡ Some f → f.packet ≡ packet.Agent d → effects ≡ agent_writes start es d
group-effects start es told effects queue id f d owing found is =
    let ran = run-entered start es told effects queue id owing in
    let both : Some ran.flying ≡ Some f = sym ran.found ∙ found in
    let same : ran.flying ≡ f = cc in
    by_kind ran.flying.packet (progress start es queue id) (ap (λ g. g.packet) same ∙ is) ran.group
  where
    by_kind : (p : Packet) (so_far : Progress) → p ≡ packet.Agent d → GroupRan start es told effects p so_far ⊎ KernelRan start es told effects queue id (given_at_launch start es queue id) p so_far → effects ≡ agent_writes start es d
    by_kind p so_far is (inl group) =
        let agents : packet.Agent group.dispatch ≡ packet.Agent d = sym group.is_agent ∙ is in
        let dispatches : group.dispatch ≡ d = cc in
        group.effects_are ∙ ap (agent_writes start es) dispatches
    by_kind p so_far is (inr group) = let kinds : packet.Kernel group.dispatch ≡ packet.Agent d = sym group.is_kernel ∙ is in absurd cc

-- the same bytes read, the same bytes written
module _ (start : Start) (one other : List Entry) where
  abbrev Same : Range → Type 0
  Same range = alike.Same start one other range

  -- a function that adds adds to 8 bytes
  abbrev Adds8 : Option AgentFunction → Type 0
  Adds8 function = (number : Range) (addend : ℕ) → function ≡ Some (Add64 number addend) → number.size ≡ 8

  same-number : (number : Range) → number.size ≡ 8 → Same number → number_in_memory start one number.address.0 ≡ number_in_memory start other number.address.0
  same-number number eight same = ap (from_le_bytes w64) (subst (λ size. memory_from start one number.address.0 size ≡ memory_from start other number.address.0 size) eight same)

  same-writes : (function : Option AgentFunction) → Adds8 function → All Same (ranges_read function) → function_writes start one function ≡ function_writes start other function
  same-writes None adds all = refl
  same-writes (Some (Fill target byte)) adds all = refl
  same-writes (Some (Copy source target)) adds all = ap (write_of target.address.0) (All-head Same source [] all)
  same-writes (Some (Add64 number addend)) adds all =
      ap (λ n. write_of number.address.0 (to_le_bytes w64 ((n + addend) % 2 ^ 64))) (same-number number (adds number addend refl) (All-head Same number [] all))

  same-result : (function : Option AgentFunction) → Adds8 function → All Same (ranges_read function) → function_result start one function ≡ function_result start other function
  same-result None adds all = refl
  same-result (Some (Fill target byte)) adds all = refl
  same-result (Some (Copy source target)) adds all = refl
  same-result (Some (Add64 number addend)) adds all = same-number number (adds number addend refl) (All-head Same number [] all)

  same-agent : (d : AgentDispatch) → All Same (ranges_read (function_of d)) → agent_writes start one d ≡ agent_writes start other d
  same-agent d all = λ i.
      same-writes (function_of d) (add-size d) all i
      ++ (if d.return_address.0 == 0 then [] else write_of d.return_address.0 (to_le_bytes w64 (same-result (function_of d) (add-size d) all i)))

  -- so a group is owed the same
  pub same-group : (queue : QueueId) (id : PacketId) (own : GivenAtLaunch) (p : Packet) (so_far : Progress) → All Same (ranges_seen start own.rights p) →
      owed_group start one queue id own p so_far ≡ owed_group start other queue id own p so_far
  same-group queue id own (packet.Agent d) so_far all = ap (λ es. if nat_le 1 so_far.groups_run then answers (outcome.Worked worked.Done) else enters (outcome.Worked (worked.Ran 0 0)) es) (same-agent d all)
  same-group queue id own (packet.Kernel d) so_far all =
      ap (λ (seen : List LentRegion). if nat_le (group_count (packet.Kernel d)) so_far.groups_run then answers (outcome.Worked worked.Done)
      else group_owed queue id d so_far.groups_run (group_result (record (group_input start one own d so_far.groups_run) { view = seen })))
      (alike.same-lent start one other (held_regions start own.rights) all)
  same-group queue id own (packet.BarrierAnd _) so_far all = refl
  same-group queue id own (packet.BarrierOr _) so_far all = refl

-- ---- what clients are told

if-told : (test : Bool) (why : Refusal) (rest : AnswerOrRefusal) (told : Answer) → refuse_unless test (Err why) rest ≡ Ok told → (test ≡ true) × (rest ≡ Ok told)
if-told true why rest told same = (refl, same)
if-told false why rest told same = absurd cc

some-told : {X : Type 0} (o : Option X) (why : Refusal) (rest : X → AnswerOrRefusal) (told : Answer) → for_some o (Err why) rest ≡ Ok told → (x : X) × (o ≡ Some x) × (rest x ≡ Ok told)
some-told None why rest told same = absurd cc
some-told (Some x) why rest told same = (x, refl, same)

module _ (start : Start) (es : List Entry) (client : ClientId) (told : Answer) where
  pub read-told : (address : Address) (size : ℕ) → query_answer start es (query.HostRead client address size) ≡ Ok told →
      MayReach start es client right.Read address.0 size × (told ≡ answer.Bytes (memory_from start es address.0 size))
  unfolding query_answer
  read-told address size same =
      let one = if-told (knows_client (rules_of start.policy) client) _ _ told same in
      let two = if-told (is_host_size size) _ _ told one.1 in
      let three = if-told (is_within (region_lengths start.policy) address.0 size && in_force start es client (object.Region (record { 0 = region_of address.0 })) right.Read) _ _ told two.1 in
      let both = and_parts (is_within (region_lengths start.policy) address.0 size) _ three.0 in
      let last = three.1 in
      (record { lies_whole = both.0; granted = both.1 }, cc)

  pub load-told : (signal : SignalHandle) → query_answer start es (query.LoadSignal client signal) ≡ Ok told →
      (in_force start es client (object.Signal signal) right.Wait ≡ true) × (v : ℤ) × (value_of (signals start es) signal.0 ≡ Some v) × (told ≡ answer.Value v)
  unfolding query_answer
  load-told signal same =
      let one = if-told (knows_client (rules_of start.policy) client) _ _ told same in
      let two = if-told (in_force start es client (object.Signal signal) right.Wait) _ _ told one.1 in
      let three = some-told (value_of (signals start es) signal.0) _ _ told two.1 in
      let last = three.2 in
      (two.0, three.0, three.1, cc)

  pub test-told : (signal : SignalHandle) (condition : Condition) (value : ℤ) → query_answer start es (query.TestSignal client signal condition value) ≡ Ok told →
      (in_force start es client (object.Signal signal) right.Wait ≡ true) × (v : ℤ) × (value_of (signals start es) signal.0 ≡ Some v) × (told ≡ answer.Test (meets condition v value))
  unfolding query_answer
  test-told signal condition value same =
      let one = if-told (knows_client (rules_of start.policy) client) _ _ told same in
      let two = if-told (in_force start es client (object.Signal signal) right.Wait) _ _ told one.1 in
      let three = some-told (value_of (signals start es) signal.0) _ _ told two.1 in
      let last = three.2 in
      (two.0, three.0, three.1, cc)

  -- a listing has the objects that pass, each with its rights
  listed : (objects : List Object) → All (IsListed start es client) (map (λ on. (on, rights_that (in_force start es client on))) (filter (has_some_right start es client) objects))
  listed [] = All-nil _
  listed (on ∷ objects) = by_test (has_some_right start es client on) refl (listed objects)
    where
      by_test : (b : Bool) → has_some_right start es client on ≡ b → All (IsListed start es client) (map (λ on. (on, rights_that (in_force start es client on))) (filter (has_some_right start es client) objects)) →
          All (IsListed start es client) (map (λ on. (on, rights_that (in_force start es client on))) (if b then on ∷ filter (has_some_right start es client) objects else filter (has_some_right start es client) objects))
      by_test true is rest = All-cons (IsListed start es client) (on, rights_that (in_force start es client on)) _ (record { some = is; rights = has-rights_that (in_force start es client on) }) rest
      by_test false is rest = rest

  pub listing-told : query_answer start es (query.List client) ≡ Ok told → (rows : List (Object × Rights)) × (told ≡ answer.Listing rows) × All (IsListed start es client) rows
  unfolding query_answer listing_by
  listing-told same =
      let one = if-told (knows_client (rules_of start.policy) client) _ _ told same in
      let last = one.1 in
      let is : told ≡ answer.Listing (listing start es client) = cc in
      (listing start es client, is, listed (all_objects (count (rules_of start.policy))))
