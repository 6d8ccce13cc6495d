-- Launches in a history: each packet is launched once, with the id that is next in its queue.
use Rattle.std.proofs.Common.{◌≡◌, ◌⊎◌, inl, inr, ℕ, ◌+◌, ◌<◌, ◌≤◌, List, [], ◌∷◌, ◌++◌, refl, sym, ◌∙◌, ap, subst, Bool, true, false, Option, Some, None, arith, append_assoc}
use Rattle.std.specs.Prelude.{◌==◌, ◌||◌, if◌then◌else◌, option_map}
use Rattle.std.specs.List.{list_any}
use Rattle.std.proofs.lemmas.Bool.{and_parts, eqb-true, eq-eqb}
use Rattle.std.proofs.lemmas.List.{append-nil}
use Rattle.std.proofs.lemmas.List.Folds.{list_any-append}
use Rattle.aql_packet.specs.declared.ids.QueueId.{QueueId}
use Rattle.aql_packet.specs.declared.ids.PacketId.{PacketId}
use Rattle.core_model.specs.declared.event.Event.{Event}
use Rattle.core_model.specs.declared.event.Event.TheVariants.{Open, Take, Reload, Call}
use Rattle.core_model.specs.declared.call.Call.TheVariants.{Grant, Revoke, Stop, Close, RunNext, Poll, Finish, HostWrite, ChangeSignal}
use Rattle.core_model.specs.declared.outcome.Outcome.{Outcome}
use Rattle.core_model.specs.declared.outcome.Outcome.TheVariants as outcome
use Rattle.core_model.specs.declared.outcome.Taken.TheVariants.{Launched, Denied, Waiting}
use Rattle.core_model.specs.declared.entry.Entry.{Entry}
use Rattle.core_model.specs.declared.entry.Effect.{Effect}
use Rattle.core_model.specs.declared.refusal.Refusal.{Refusal}
use Rattle.core_model.specs.History.{Start, opening_state}
use Rattle.core_model.specs.Queues.{Opening, Openings, closes_queue, openings, openings_after, owner, next_id, next_id_after, hands_over_packet_of, is_down}
use Rattle.aql_packet.specs.declared.packet.Packet.{Packet}
use Rattle.aql_packet.specs.Reading.{decoded}
use Rattle.core_model.specs.declared.flight.InFlight.{InFlight}
use Rattle.core_model.specs.Flight.{is_packet, launched_by}
use Rattle.core_model.specs.Holds.{is_launch}
use Rattle.std.proofs.Math.Bool.{or-false}
use Rattle.core_model.specs.Owed.{Owed, owed, enters, refuses, owed_take}
use Rattle.core_model.specs.Refusals.{for_some, refuse_unless}
use Rattle.core_model.specs.Legal.{IsWhole, IsLegalAfter}
use Rattle.core_model.proofs.More.{next_id-more, openings-more}
use Rattle.core_model.proofs.Openings.{AreNumbered, IsPast, closes-is, numbered-up_to, numbered-whole, owner-closed, past-after}

-- ---- what an owed entry tells of the tests before it

pub refuse_if-passed : (test : Bool) (why : Refusal) (rest : Owed) (outcome : Outcome) (effects : List Effect) → (if test then refuses why else rest) ≡ enters outcome effects → rest ≡ enters outcome effects
refuse_if-passed true why rest outcome effects e = absurd (cc)
refuse_if-passed false why rest outcome effects e = e

-- a test that passed
pub record Passed (test : Bool) (rest : Owed) (outcome : Outcome) (effects : List Effect) : Type 0 where
  pub test_is : test ≡ true
  pub rest_is : rest ≡ enters outcome effects

pub refuse_unless-passed : (test : Bool) (why : Refusal) (rest : Owed) (outcome : Outcome) (effects : List Effect) → refuse_unless test (refuses why) rest ≡ enters outcome effects → Passed test rest outcome effects
refuse_unless-passed true why rest outcome effects e = record { test_is = refl; rest_is = e }
refuse_unless-passed false why rest outcome effects e = absurd (cc)

-- something that is there
pub record Found {X : Type 0} (o : Option X) (rest : X → Owed) (outcome : Outcome) (effects : List Effect) : Type 0 where
  pub found : X
  pub is : o ≡ Some found
  pub rest_is : rest found ≡ enters outcome effects

pub for_some-found : {X : Type 0} (o : Option X) (why : Refusal) (rest : X → Owed) (outcome : Outcome) (effects : List Effect) → for_some o (refuses why) rest ≡ enters outcome effects → Found o rest outcome effects
for_some-found None why rest outcome effects e = absurd (cc)
for_some-found (Some x) why rest outcome effects e = record { found = x; is = refl; rest_is = e }

-- a packet that is launched is the next of an open queue
pub record IsNext (start : Start) (entries : List Entry) (queue : QueueId) (id : PacketId) : Type 0 where
  pub opening : Opening
  pub owner_is : owner start entries queue ≡ Some opening
  pub id_is : id.0 ≡ next_id start entries queue

pub IsNext-from_owed : (start : Start) (entries : List Entry) (queue : QueueId) (id : PacketId) (bytes : List ℕ) (outcome : Outcome) (effects : List Effect) → owed start entries (Take queue id bytes) ≡ enters outcome effects → IsNext start entries queue id
unfolding owed
IsNext-from_owed start entries queue id bytes outcome effects owing =
    let found = for_some-found (owner start entries queue) _ (owed_take start entries queue id bytes) outcome effects owing in
    let passed = refuse_unless-passed (id.0 == next_id start entries queue) _ _ outcome effects (refuse_if-passed (is_down start entries queue) _ _ outcome effects found.rest_is) in
    record { opening = found.found; owner_is = found.is; id_is = eqb-true _ _ passed.test_is }

-- ---- which entry launches a packet

-- an event that launches this packet
pub record IsLaunch (f : InFlight) (event : Event) (told : Outcome) : Type 0 where
  pub bytes : List ℕ
  pub event_is : event ≡ Take f.queue f.id bytes
  pub outcome_is : told ≡ outcome.Taken Launched
  pub reads : decoded bytes ≡ Some f.packet

by_bytes : (queue : QueueId) (id : PacketId) (bytes : List ℕ) (o : Option Packet) (f : InFlight) → decoded bytes ≡ o → option_map (λ p. record { queue = queue; id = id; packet = p }) o ≡ Some f → IsLaunch f (Take queue id bytes) (outcome.Taken Launched)
by_bytes queue id bytes None f is e = absurd cc
by_bytes queue id bytes (Some p) f is e =
    let same : record { queue = queue; id = id; packet = p } ≡ f = cc in
    subst (λ g. IsLaunch g (Take queue id bytes) (outcome.Taken Launched)) same (record { bytes = bytes; event_is = refl; outcome_is = refl; reads = is })

pub launched_by-is : (event : Event) (told : Outcome) (f : InFlight) → launched_by event told ≡ Some f → IsLaunch f event told
launched_by-is (Take q i bytes) (outcome.Taken Launched) f is = by_bytes q i bytes (decoded bytes) f refl is
launched_by-is (Take q i bytes) (outcome.Taken (Denied _)) f is = absurd (cc)
launched_by-is (Take q i bytes) (outcome.Taken (Waiting _)) f is = absurd (cc)
launched_by-is (Take q i bytes) outcome.Accepted f is = absurd (cc)
launched_by-is (Take q i bytes) (outcome.Opened _) f is = absurd (cc)
launched_by-is (Take q i bytes) (outcome.Worked _) f is = absurd (cc)
launched_by-is (Take q i bytes) (outcome.Polled _) f is = absurd (cc)
launched_by-is (Take q i bytes) (outcome.Changed _) f is = absurd (cc)
launched_by-is (Call (Grant _ _ _)) told f is = absurd (cc)
launched_by-is (Call (Revoke _ _ _)) told f is = absurd (cc)
launched_by-is (Open _ _ _) told f is = absurd (cc)
launched_by-is (Call (Stop _)) told f is = absurd (cc)
launched_by-is (Call (Close _)) told f is = absurd (cc)
launched_by-is (Call (RunNext _ _)) told f is = absurd (cc)
launched_by-is (Call (Poll _ _)) told f is = absurd (cc)
launched_by-is (Call (Finish _ _)) told f is = absurd (cc)
launched_by-is (Call (HostWrite _ _ _)) told f is = absurd (cc)
launched_by-is (Call (ChangeSignal _ _ _)) told f is = absurd (cc)
launched_by-is (Reload _) told f is = absurd (cc)

-- whether some entry launches a packet
abbrev pub was_launched : List Entry → QueueId → PacketId → Bool
was_launched entries queue id = list_any (λ entry. is_launch queue id (launched_by entry.event entry.outcome)) entries

-- ---- queues that are closed

-- a queue that is closed is open before
closed-owner : (start : Start) (entries : List Entry) (queue : QueueId) (outcome : Outcome) (effects : List Effect) → owed start entries (Call (Close queue)) ≡ enters outcome effects → (opening : Opening) × (owner start entries queue ≡ Some opening)
unfolding owed
closed-owner start entries queue outcome effects owing = let found = for_some-found (owner start entries queue) _ _ outcome effects owing in (found.found, found.is)

-- and is gone for good behind that
pub past-closed : (start : Start) (entries : List Entry) (e : Entry) (queue : QueueId) → AreNumbered (openings start entries) → owed start entries e.event ≡ enters e.outcome e.effects → closes_queue queue e.event ≡ true
    → IsPast (openings start (entries ++ e ∷ [])) queue
past-closed start entries e queue each owing closes =
    let event_is : e.event ≡ Call (Close queue) = closes-is queue e.event closes in
    let owned = closed-owner start entries queue e.outcome e.effects (ap (owed start entries) (sym event_is) ∙ owing) in
    let low : queue.0 ≤ (openings start entries).opened = numbered-up_to (openings start entries) queue owned.0 each owned.1 in
    let after : openings start (entries ++ e ∷ []) ≡ openings_after (openings start entries) (Call (Close queue)) = openings-more start entries e ∙ ap (openings_after (openings start entries)) event_is in
    (owner-closed start entries e queue closes, subst (λ (all : Openings). queue.0 ≤ all.opened) (sym after) low)

-- ---- the ids of packets that were launched

-- a packet that was launched has an id below its queue's next, or its queue is gone for good
abbrev IsBelowNext : Start → List Entry → QueueId → PacketId → Type 0
IsBelowNext start entries queue id = (id.0 < next_id start entries queue) ⊎ IsPast (openings start entries) queue

-- each that was launched
abbrev pub AreBelowNext : Start → List Entry → Type 0
AreBelowNext start entries = (queue : QueueId) (id : PacketId) → was_launched entries queue id ≡ true → IsBelowNext start entries queue id

was_launched-more : (entries : List Entry) (e : Entry) (queue : QueueId) (id : PacketId) → was_launched (entries ++ e ∷ []) queue id ≡ (was_launched entries queue id || (is_launch queue id (launched_by e.event e.outcome) || false))
was_launched-more entries e queue id = list_any-append (λ (entry : Entry). is_launch queue id (launched_by entry.event entry.outcome)) entries (e ∷ [])

pub next_id-grows : (start : Start) (entries : List Entry) (e : Entry) (queue : QueueId) → closes_queue queue e.event ≡ false → next_id start entries queue ≤ next_id start (entries ++ e ∷ []) queue
next_id-grows start entries e queue stays =
    by_test (hands_over_packet_of queue e.event)
    (next_id-more start entries e queue ∙ ap (λ (b : Bool). if b then 0 else if hands_over_packet_of queue e.event then next_id start entries queue + 1 else next_id start entries queue) stays)
  where
    by_test : (b : Bool) → next_id start (entries ++ e ∷ []) queue ≡ (if b then next_id start entries queue + 1 else next_id start entries queue) → next_id start entries queue ≤ next_id start (entries ++ e ∷ []) queue
    by_test true is = omega arith
    by_test false is = omega arith

-- a launch raises its queue's next id
pub next_id-launched : (start : Start) (entries : List Entry) (e : Entry) (f : InFlight) → IsLaunch f e.event e.outcome → next_id start (entries ++ e ∷ []) f.queue ≡ next_id start entries f.queue + 1
next_id-launched start entries e f launch =
    next_id-more start entries e f.queue
    ∙ ap (next_id_after f.queue (next_id start entries f.queue)) launch.event_is
    ∙ ap (λ (b : Bool). if b then next_id start entries f.queue + 1 else next_id start entries f.queue) (eq-eqb f.queue.0 f.queue.0 refl)

below_launch : (start : Start) (entries : List Entry) (e : Entry) (f : InFlight) (queue : QueueId) (id : PacketId) → owed start entries e.event ≡ enters e.outcome e.effects → IsLaunch f e.event e.outcome → is_packet queue id f ≡ true → id.0 < next_id start (entries ++ e ∷ []) queue
below_launch start entries e f queue id owing launch named =
    let both = and_parts (f.queue.0 == queue.0) _ named in
    let queues : f.queue ≡ queue = ap (λ n. record { 0 = n }) (eqb-true _ _ both.0) in
    let ids : f.id.0 ≡ id.0 = eqb-true _ _ both.1 in
    let next = IsNext-from_owed start entries f.queue f.id launch.bytes e.outcome e.effects (rw launch.event_is at owing) in
    let more = next_id-launched start entries e f launch in
    let at = next.id_is in
    subst (λ q. id.0 < next_id start (entries ++ e ∷ []) q) queues (omega arith)

below-still : (start : Start) (entries : List Entry) (e : Entry) → AreNumbered (openings start entries) → owed start entries e.event ≡ enters e.outcome e.effects → (queue : QueueId) (id : PacketId)
    → IsBelowNext start entries queue id → IsBelowNext start (entries ++ e ∷ []) queue id
below-still start entries e each owing queue id (inr past) = inr (subst (λ (all : Openings). IsPast all queue) (sym (openings-more start entries e)) (past-after (openings start entries) e.event queue past))
below-still start entries e each owing queue id (inl small) = by_close (closes_queue queue e.event) refl
  where
    by_close : (b : Bool) → closes_queue queue e.event ≡ b → IsBelowNext start (entries ++ e ∷ []) queue id
    by_close true closes = inr (past-closed start entries e queue each owing closes)
    by_close false stays = let grows = next_id-grows start entries e queue stays in inl (omega (arith, grows, small))

AreBelowNext-more : (start : Start) (entries : List Entry) (e : Entry) → AreNumbered (openings start entries) → AreBelowNext start entries → owed start entries e.event ≡ enters e.outcome e.effects → AreBelowNext start (entries ++ e ∷ [])
AreBelowNext-more start entries e each below owing queue id launched =
    by_test (was_launched entries queue id) (launched_by e.event e.outcome) refl refl (sym (was_launched-more entries e queue id) ∙ launched)
  where
    by_test : (was : Bool) (o : Option InFlight) → was_launched entries queue id ≡ was → launched_by e.event e.outcome ≡ o → (was || (is_launch queue id o || false)) ≡ true → IsBelowNext start (entries ++ e ∷ []) queue id
    by_test true o before now h = below-still start entries e each owing queue id (below queue id before)
    by_test false (Some f) before now h = inl (below_launch start entries e f queue id owing (launched_by-is e.event e.outcome f now) (sym (or-false (is_packet queue id f)) ∙ h))
    by_test false None before now h = absurd (cc)

below_after : (start : Start) → start ≡ opening_state start.policy start.kernels → (before entries : List Entry) → AreBelowNext start before → IsLegalAfter start before entries → AreBelowNext start (before ++ entries)
below_after start opens before [] below legal = rw append-nil below
below_after start opens before (e ∷ es) below legal =
    subst (AreBelowNext start) (append_assoc before (e ∷ []) es)
    (below_after start opens (before ++ e ∷ []) es (AreBelowNext-more start before e (numbered-whole start opens before) below legal.0) legal.1)

-- so it is in a legal history
AreBelowNext-legal : (start : Start) (entries : List Entry) → IsWhole start entries → AreBelowNext start entries
AreBelowNext-legal start entries legal = below_after start legal.opens [] entries (λ queue id launched. absurd (cc)) legal.legal

-- each packet that was launched in a queue that is open has an id below its queue's next
pub below-open : (start : Start) (entries : List Entry) → IsWhole start entries → (queue : QueueId) (id : PacketId) (opening : Opening) → owner start entries queue ≡ Some opening → was_launched entries queue id ≡ true
    → id.0 < next_id start entries queue
below-open start entries legal queue id opening is launched = by_past (AreBelowNext-legal start entries legal queue id launched)
  where
    by_past : IsBelowNext start entries queue id → id.0 < next_id start entries queue
    by_past (inl small) = small
    by_past (inr past) = let e : Some opening ≡ None = sym is ∙ past.0 in absurd cc
