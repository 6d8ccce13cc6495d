-- What an opening is due, and what it leaves.
use Rattle.std.proofs.Common.{◌≡◌, ℕ, ◌+◌, ◌<◌, ◌≤◌, true, false, Bool, List, [], ◌∷◌, ◌++◌, length, length-append, refl, ap, ◌∙◌, sym, subst, eqb-true, inl, inr}
use Rattle.std.specs.Prelude.{map, Option, Some, None, option_map, cond, ◌==◌, Result, Ok, Err, IfOk, IfErr, nat_le, if◌then◌else◌}
use Rattle.std.specs.List.{find}
use mathlib.Core.List.{IsPrefix}
use Rattle.aql_packet.specs.Ring.{is_ring_size}
use Rattle.aql_packet.specs.declared.ids.ClientId.{ClientId}
use Rattle.aql_packet.specs.declared.ids.AgentHandle.{AgentHandle}
use Rattle.aql_packet.specs.declared.ids.QueueId.{QueueId}
use Rattle.policy.specs.Rules.{knows_client}
use Rattle.policy.specs.Results.{map_ok}
use Rattle.policy.specs.Policy.{Declared, rules_of}
use Rattle.policy.specs.declared.object.Object.TheVariants as object
use Rattle.policy.specs.declared.rights.Right.TheVariants as right
use Rattle.core_model.specs.declared.event.Event.{Event}
use Rattle.core_model.specs.declared.event.Event.TheVariants.{Open}
use Rattle.core_model.specs.declared.outcome.Outcome.{Outcome}
use Rattle.core_model.specs.declared.outcome.Outcome.TheVariants as outcome
use Rattle.core_model.specs.declared.refusal.Refusal.{Refusal}
use Rattle.core_model.specs.declared.refusal.Refusal.TheVariants as refusal
use Rattle.core_model.specs.Refusals.{refuse_unless}
use Rattle.core_model.specs.History.{History, Openings, beginning}
use Rattle.core_model.specs.Legal.{IsOpening, MeetsOrLacks, due, entry_of, history_after, lacks_room, may_lack_memory, reply_of, within_room}
use Rattle.core_model.specs.Grants.{in_force}
use Rattle.core_model.specs.Owed.{Owed, refuses, answers, enters, owed}
use Rattle.core_model.specs.Limits.{most_queues}
use Rattle.core_model.specs.Queues.{openings, with_queue}
use Rattle.core_model.specs.declared.origin.Opening.{Opening}
use Rattle.core_model.proofs.More.{openings-more}
use Rattle.ring_core.specs.Machine.{is_producer_count, judged_size}
use Rattle.ring.specs.Dealt.{dealt, new_processor_pass}
use Rattle.ring.specs.Passes.{ProcessorSeen}
use Rattle.access_core.specs.Cores.{Core}
use Rattle.access_core.specs.Opening.{program_of}
use Rattle.access_core.specs.declared.kernel.Kernel.{Kernel}
use Rattle.client_threads.specs.Boards.{FrontSeen}
use Rattle.client_threads.specs.Opening.{AreOpened, HasOpened, IsOneOfFew, IsOpened, OpensQueue, as_end, new_lane, next_queue, opened_so_far}
use Rattle.client_threads.specs.Rings.{AreApart, QueueRing, ring_of}
use Rattle.client_threads.specs.Sections.{AllFollow, Appends, IsFirst, last_of}
use Rattle.client_threads.specs.declared.client_end.ClientEnd.{ClientEnd}
use Rattle.client_threads.specs.declared.opening.Beside.{Beside}
use Rattle.client_threads.specs.Desks.{seen}
use Rattle.client_threads.specs.Lanes.{LaneSeen}
use Rattle.client_threads.specs.inner.Openings.{HasEntered, IsBeside, IsOpenable, IsUnused}
use Rattle.client_threads.proofs.Apart.{apart_more}
use Rattle.client_threads.proofs.Calls.{answered_meets}
use Rattle.client_threads.proofs.Numbers.{equal_le, never_behind, next_positive, opened_grows, trans_le}
use Rattle.client_threads.proofs.Sections.{none_more}
use Rattle.client_threads.proofs.Turning.{call_appends}

-- a core that is opened is as one is opened
pub opens_first : (policy : Declared) (kernels : List Kernel) (capacity : ℕ) (core : Core) → IsOpening core.history policy (map program_of kernels) capacity → IsFirst core
opens_first policy kernels capacity core h =
    subst (λ (p : Declared). IsOpening core.history p core.history.kernels core.history.capacity) (sym h.origin_is.policy_is)
    (record { origin_is = h.origin_is; kernels_are = refl; capacity_is = refl; entries_are = h.entries_are })

module _ (h : History) (client : ClientId) (agent : AgentHandle) (size : ℕ) where
  abbrev event : Event
  event = Open client agent size

  abbrev next_one : QueueId
  next_one = record { 0 = next_queue h }

  abbrev told : Outcome
  told = outcome.Opened next_one

  abbrev own : Opening
  own = record { client = client; agent = agent }

  -- what an opening is owed, by the four tests
  abbrev by_tests : (a b c d : Bool) → Owed
  by_tests a b c d =
      refuse_unless a (refuses refusal.UnknownClient)
      (refuse_unless b (refuses (refusal.Denied right.Use))
      (refuse_unless c (refuses refusal.BadSize)
      (if d then refuses refusal.TooMany else enters told [])))

  abbrev are_many : Bool
  are_many = nat_le most_queues (length (openings (beginning h) h.entries).queues)

  owed_is : owed (beginning h) h.entries event ≡ by_tests (knows_client (rules_of (beginning h).policy) client) (in_force (beginning h) h.entries client (object.Agent agent) right.Use) (is_ring_size size) are_many
  unfolding owed
  owed_is = refl

  number_by : (full : Bool) (queue : QueueId) → (if full then refuses refusal.AuditFull else enters told []) ≡ enters (outcome.Opened queue) [] → queue ≡ next_one
  number_by true queue e = absurd (cc)
  number_by false queue e = cc

  number_tests : (a b c d : Bool) (queue : QueueId) → within_room h event (by_tests a b c d) ≡ enters (outcome.Opened queue) [] → queue ≡ next_one
  number_tests false b c d queue e = absurd (cc)
  number_tests true false c d queue e = absurd (cc)
  number_tests true true false d queue e = absurd (cc)
  number_tests true true true true queue e = absurd (cc)
  number_tests true true true false queue e = number_by (lacks_room h (entry_of event told [])) queue e

  -- the queue that is opened is the next
  pub number : (queue : QueueId) → due h event ≡ enters (outcome.Opened queue) [] → queue ≡ next_one
  number queue e = number_tests (knows_client (rules_of (beginning h).policy) client) (in_force (beginning h) h.entries client (object.Agent agent) right.Use) (is_ring_size size) are_many queue (sym (ap (within_room h event) owed_is) ∙ e)

  opens_if : (full : Bool) (queue : QueueId) → Ok (outcome.Opened queue) ≡ reply_of (if full then refuses refusal.AuditFull else enters told []) → (if full then refuses refusal.AuditFull else enters told []) ≡ enters (outcome.Opened queue) []
  opens_if true queue e = absurd (cc)
  opens_if false queue e = cc

  opens_by : (a b c d : Bool) (queue : QueueId) → Ok (outcome.Opened queue) ≡ reply_of (within_room h event (by_tests a b c d)) → within_room h event (by_tests a b c d) ≡ enters (outcome.Opened queue) []
  opens_by false b c d queue e = absurd (cc)
  opens_by true false c d queue e = absurd (cc)
  opens_by true true false d queue e = absurd (cc)
  opens_by true true true true queue e = absurd (cc)
  opens_by true true true false queue e = opens_if (lacks_room h (entry_of event told [])) queue e

  -- an opening that is answered is entered
  opened_due : (queue : QueueId) → Ok (outcome.Opened queue) ≡ reply_of (due h event) → due h event ≡ enters (outcome.Opened queue) []
  opened_due queue e =
      ap (within_room h event) owed_is
      ∙ opens_by (knows_client (rules_of (beginning h).policy) client) (in_force (beginning h) h.entries client (object.Agent agent) right.Use) (is_ring_size size) are_many queue (e ∙ ap (λ (o : Owed). reply_of (within_room h event o)) owed_is)

  -- an opening that is answered leaves one more, which has the next number
  abbrev WasOpened : History → QueueId → Type 0
  WasOpened after queue = (queue ≡ next_one) × (after ≡ record h { entries = h.entries ++ entry_of event (outcome.Opened queue) [] ∷ [] })

  was_opened : (after : History) (queue : QueueId) → MeetsOrLacks event h after (Ok (outcome.Opened queue)) → WasOpened after queue
  was_opened after queue m =
      let met = answered_meets event h after (outcome.Opened queue) m in
      let e = opened_due queue met.reply_is in
      (number queue e, met.history_is ∙ ap (history_after h event) e)

  opened_then : (after : History) (queue : QueueId) → WasOpened after queue → openings (beginning after) after.entries ≡ with_queue (openings (beginning h) h.entries) own
  opened_then after queue w =
      ap (λ (x : History). openings (beginning x) x.entries) w.1 ∙ openings-more (beginning h) h.entries (entry_of event (outcome.Opened queue) [])

  -- and so the queue was opened
  pub opened_number : (after : History) (queue : QueueId) → MeetsOrLacks event h after (Ok (outcome.Opened queue)) → (0 < queue.0) × (queue.0 ≤ opened_so_far after)
  opened_number after queue m =
      let w = was_opened after queue m in
      let here : queue.0 ≡ next_queue h = ap (λ (q : QueueId). q.0) w.0 in
      let count : opened_so_far after ≡ next_queue h = ap (λ (o : Openings). o.opened) (opened_then after queue w) in
      (next_positive queue.0 (opened_so_far h) here, equal_le queue.0 (opened_so_far after) (next_queue h) here count)

-- ---- beside the rings of the broker

-- the queue that is opened next was not opened
not_yet : (core : Core) → HasOpened core (next_queue core.history) → ⊥
not_yet core opened = never_behind (opened_so_far core.history) opened.1

-- and so has no ring
pub next_is_fresh : (core : Core) (rings : List QueueRing) → AreOpened core rings → ring_of (next_queue core.history) rings ≡ None
next_is_fresh core [] opened = refl
next_is_fresh core (r ∷ rs) opened = by_test (r.queue == next) refl (next_is_fresh core rs opened.1)
  where
    next : ℕ
    next = next_queue core.history

    by_test : (b : Bool) → (r.queue == next) ≡ b → ring_of next rs ≡ None → ring_of next (r ∷ rs) ≡ None
    by_test true is rest = absurd (not_yet core (subst (HasOpened core) (eqb-true r.queue next is) opened.0))
    by_test false is rest = ap (λ b. option_map (λ x. x.ring) (cond b (Some r) (find (λ x. x.queue == next) rs))) is ∙ rest

-- a queue that was seen to be opened is opened still
pub grow_opened : (opened : Core) (known left : List Core) (rings : List QueueRing) → IsPrefix known left → AllFollow opened left → AreOpened (last_of opened known) rings → AreOpened (last_of opened left) rings
grow_opened opened known left [] begins all are = tt
grow_opened opened known left (r ∷ rs) begins all are =
    ((are.0.0, trans_le r.queue (opened_so_far (last_of opened known).history) (opened_so_far (last_of opened left).history) are.0.1 (opened_grows opened known left begins all)), grow_opened opened known left rs begins all are.1)

opened_more : (core : Core) (rings : List QueueRing) (r : QueueRing) → AreOpened core rings → HasOpened core r.queue → AreOpened core (rings ++ r ∷ [])
opened_more core [] r are one = (one, tt)
opened_more core (x ∷ xs) r are one = (are.0, opened_more core xs r are.1 one)

-- what the core does opens one of the few, or is a refusal
pub opens_here : (event : Event) (before after : History) (reply : Result Outcome Refusal) → MeetsOrLacks event before after reply → IsOneOfFew reply → OpensQueue event before reply after
opens_here asked before after reply met few = inl (met, few)

pub refused_as_core : (event : Event) (before : History) (why : Refusal) → MeetsOrLacks event before before (Err why) → OpensQueue event before (Err why) before
refused_as_core asked before why met = inl (met, tt)

-- a queue that is opened is opened by the core
pub opened_by_core : (event : Event) (before after : History) (o : Outcome) → OpensQueue event before (Ok o) after → MeetsOrLacks event before after (Ok o)
opened_by_core asked before after o (inl met) = met.0
opened_by_core asked before after o (inr behind) = let e = behind.reply_is in absurd cc

-- an opening adds entries, and hands none out
pub opening_appends : (event : Event) (before after : History) (reply : Result Outcome Refusal) → OpensQueue event before reply after → Appends before after
opening_appends asked before after reply (inl met) = call_appends asked before after reply met.0
opening_appends asked before after reply (inr behind) = record { more = []; history = behind.history_is ∙ none_more before }

-- the rings of a broker stand opened behind a section that opens a queue, or is refused
module _ {X : Type 0} (queue : X → QueueId) (ends : X → List ClientEnd) (lane : X → FrontSeen → LaneSeen) (core : Core) (before : History) (client : ClientId) (agent : AgentHandle) (size asked producers : ℕ) (old new : List QueueRing) where
  pub opened_behind : (result : Result X Refusal) (any : FrontSeen) → AreOpened core old
      → OpensQueue (Open client agent size) before (map_ok (λ o. outcome.Opened (queue o)) result) core.history
      → ((its : FrontSeen) → IfOk result (λ o. IsOpened old asked producers its (queue o) (ends o) (lane o its) new)) → IfErr result (λ _. new ≡ old) → AreOpened core new
  opened_behind (Ok o) any are opens made refused =
      subst (AreOpened core) (sym (made any).rings) (opened_more core old _ are (opened_number before client agent size core.history (queue o) (opened_by_core (Open client agent size) before core.history (outcome.Opened (queue o)) opens)))
  opened_behind (Err why) any are opens made refused = subst (AreOpened core) (sym refused) are

module _ (h : History) (client : ClientId) (agent : AgentHandle) (size : ℕ) where
  abbrev Asked : Event
  Asked = Open client agent size

  pub openable : (queue : QueueId) → due h Asked ≡ enters (outcome.Opened queue) [] → queue.0 ≤ most_queues → IsOpenable h Asked queue
  openable queue e few = record { due_is = e; next = ap (λ (q : QueueId). q.0) (number h client agent size queue e); few = few }

  pub few_open : (queue : QueueId) → IsOpenable h Asked queue → queue.0 ≤ most_queues
  few_open queue o = o.few

  pub refused_behind : (queue : QueueId) → due h Asked ≡ enters (outcome.Opened queue) [] → most_queues < queue.0 → OpensQueue Asked h (Err refusal.TooMany) h
  refused_behind queue e many = inr (record { queue = queue; due_is = e; behind = many; reply_is = refl; history_is = refl })

  pub refused_meets : (why : Refusal) → due h Asked ≡ refuses why → MeetsOrLacks Asked h h (Err why)
  refused_meets why e = inl (record { reply_is = sym (ap reply_of e); history_is = sym (ap (history_after h Asked) e) })

  pub lacks : (queue : QueueId) → IsOpenable h Asked queue → OpensQueue Asked h (Err refusal.OutOfMemory) h
  lacks queue o = inl (inr (record { may = ap (may_lack_memory Asked) o.due_is; asks = refl; reply_is = refl; history_is = refl }), tt)

  -- the core opened the queue that it was to
  opened_same : (queue of : QueueId) (after : History) → IsOpenable h Asked queue → MeetsOrLacks Asked h after (Ok (outcome.Opened of)) → of ≡ queue
  opened_same queue of after o m =
      let met = answered_meets Asked h after (outcome.Opened of) m in
      let same : Ok (outcome.Opened of) ≡ Ok (outcome.Opened queue) = met.reply_is ∙ ap reply_of o.due_is in
      cc (same)

  pub opened_meets : (queue of : QueueId) (after : History) → IsOpenable h Asked queue → MeetsOrLacks Asked h after (Ok (outcome.Opened of)) → MeetsOrLacks Asked h after (Ok (outcome.Opened queue))
  opened_meets queue of after o m = subst (λ (q : QueueId). MeetsOrLacks Asked h after (Ok (outcome.Opened q))) (opened_same queue of after o m) m

  -- no two rings are of one queue
  pub entered_apart : (rings : List QueueRing) (made : Beside) → IsOpenable h Asked made.desk.queue → ring_of (next_queue h) rings ≡ None → AreApart rings → AreApart (rings ++ seen made.desk ∷ [])
  entered_apart rings made o fresh apart = apart_more rings (seen made.desk) apart (ap (λ n. ring_of n rings) o.next ∙ fresh)

-- what was made and entered is opened
pub entered_opened : (old new : List QueueRing) (size producers : ℕ) (next queue : QueueId) (made : Beside) (ends : List ClientEnd) (pass : ProcessorSeen)
    → IsBeside next (judged_size size producers) producers made → (h : History) (call : Event) → IsOpenable h call next → ring_of (next_queue h) old ≡ None → HasEntered made old new queue ends pass → (front : FrontSeen) → IsOpened old size producers front queue ends (new_lane queue pass front) new
entered_opened old new size producers next queue made ends pass beside h call openable fresh entered front =
    let same : next ≡ queue = sym (entered.queue_is ∙ beside.queue_is) in
    record {
      ring = (seen made.desk).ring;
      size_is = beside.size_is ∙ ap (λ b. if b then size else 0) beside.few;
      producers_is = beside.producers_is;
      fresh = ap (λ (q : QueueId). ring_of q.0 old) (sym same) ∙ (ap (λ n. ring_of n old) openable.next ∙ fresh);
      rings = entered.rings_are ∙ ap (λ (q : QueueId). old ++ record { queue = q.0; ring = (seen made.desk).ring } ∷ []) (sym entered.queue_is);
      ends_are = entered.ends_are ∙ beside.ends_are ∙ ap (λ (q : QueueId). map (as_end q) (dealt (seen made.desk).ring.table producers)) same;
      lane_is = ap (λ (p : ProcessorSeen). new_lane queue p front) (entered.pass_is ∙ beside.pass_is);
    }

-- the pass of a queue that was opened retired nothing
pub entered_unused : (old new : List QueueRing) (size producers : ℕ) (next queue : QueueId) (made : Beside) (ends : List ClientEnd) (pass : ProcessorSeen) → IsBeside next size producers made
    → (h : History) (call : Event) → IsOpenable h call next → HasEntered made old new queue ends pass → IsUnused queue pass
entered_unused old new size producers next queue made ends pass beside h call openable entered =
    let same : queue ≡ next = entered.queue_is ∙ beside.queue_is in
    let is : pass ≡ new_processor_pass (seen made.desk).ring.table = entered.pass_is ∙ beside.pass_is in
    record {
      few = subst (λ (q : QueueId). q.0 ≤ most_queues) (sym same) openable.few;
      none = ap (λ (p : ProcessorSeen). p.part.retired) is;
      resting = ap (λ (p : ProcessorSeen). p.part.raising) is;
    }
