-- What names a queue that isn't open is refused, and a close releases each packet of its queue in flight.
use Rattle.std.proofs.Common.{◌≡◌, List, [], ◌∷◌, refl, sym, ◌∙◌, ap, subst, Bool, true, false, Option, Some, None}
use Rattle.std.specs.Prelude.{All, ◌&&◌, ◌||◌, ◌==◌, filter, get_or, if◌then◌else◌}
use Rattle.std.specs.List.{list_any}
use Rattle.std.proofs.lemmas.Bool.{and_from, eq-eqb, eqb-true}
use Rattle.std.proofs.lemmas.List.Elements.{All-cons, All-nil, All-weaker}
use Rattle.aql_packet.specs.declared.ids.QueueId.{QueueId}
use Rattle.core_model.specs.declared.call.Call.TheVariants.{Grant, Revoke, Stop, Close, RunNext, Poll, Finish, HostWrite, ChangeSignal}
use Rattle.core_model.specs.declared.entry.Effect.{Effect}
use Rattle.core_model.specs.declared.entry.Entry.{Entry}
use Rattle.core_model.specs.declared.event.Event.{Event}
use Rattle.core_model.specs.declared.event.Event.TheVariants.{Open, Take, Reload, Call}
use Rattle.core_model.specs.declared.flight.InFlight.{InFlight}
use Rattle.core_model.specs.declared.outcome.Outcome.{Outcome}
use Rattle.core_model.specs.declared.outcome.Outcome.TheVariants as outcome
use Rattle.core_model.specs.declared.refusal.Refusal.TheVariants as refusal
use Rattle.core_model.specs.History.{Start}
use Rattle.core_model.specs.Memory.{signals}
use Rattle.core_model.specs.Queues.{Opening, closes_queue, is_stopped, owner}
use Rattle.core_model.specs.Flight.{flight, flight_of, in_flight, progress, releases_packet}
use Rattle.core_model.specs.View.{given_at_launch}
use Rattle.core_model.specs.Owed.{barrier_in, enters, owed, owed_finish, owed_group, owed_poll, owed_take, refuses, release_of, releases_of}
use Rattle.core_model.specs.Refusals.{for_some}
use Rattle.core_model.specs.Closed.{names_queue}
use Rattle.core_model.proofs.Entered.{close-effects}
use Rattle.core_model.proofs.Launches.{for_some-found}
use Rattle.core_model.proofs.Openings.{closes-is}

-- ---- what names a queue

module _ (start : Start) (es : List Entry) (queue : QueueId) where
  abbrev IsOpen : QueueId → Type 0
  IsOpen q = (opening : Opening) × (owner start es q ≡ Some opening)

  same-open : (q : QueueId) → (q.0 == queue.0) ≡ true → IsOpen q → IsOpen queue
  same-open q same is = let queue_is : q ≡ queue = ap (λ n. record { 0 = n }) (eqb-true _ _ same) in subst IsOpen queue_is is

  -- a queue that an entry names was open
  pub named-open : (event : Event) (told : Outcome) (effects : List Effect) → names_queue queue event ≡ true → owed start es event ≡ enters told effects → (opening : Opening) × (owner start es queue ≡ Some opening)
  unfolding owed
  named-open (Take q id bytes) told effects names owing = let found = for_some-found (owner start es q) _ _ told effects owing in same-open q names (found.found, found.is)
  named-open (Call (Stop q)) told effects names owing = let found = for_some-found (owner start es q) _ _ told effects owing in same-open q names (found.found, found.is)
  named-open (Call (Close q)) told effects names owing = let found = for_some-found (owner start es q) _ _ told effects owing in same-open q names (found.found, found.is)
  named-open (Call (RunNext q id)) told effects names owing = let found = for_some-found (owner start es q) _ _ told effects owing in same-open q names (found.found, found.is)
  named-open (Call (Poll q id)) told effects names owing = let found = for_some-found (owner start es q) _ _ told effects owing in same-open q names (found.found, found.is)
  named-open (Call (Finish q id)) told effects names owing = let found = for_some-found (owner start es q) _ _ told effects owing in same-open q names (found.found, found.is)
  named-open (Open _ _ _) told effects names owing = absurd cc
  named-open (Reload _) told effects names owing = absurd cc
  named-open (Call (Grant _ _ _)) told effects names owing = absurd cc
  named-open (Call (Revoke _ _ _)) told effects names owing = absurd cc
  named-open (Call (HostWrite _ _ _)) told effects names owing = absurd cc
  named-open (Call (ChangeSignal _ _ _)) told effects names owing = absurd cc

  same-unowned : owner start es queue ≡ None → (q : QueueId) → (q.0 == queue.0) ≡ true → owner start es q ≡ None
  same-unowned none q same = let queue_is : q ≡ queue = ap (λ n. record { 0 = n }) (eqb-true _ _ same) in ap (owner start es) queue_is ∙ none

  -- what names a queue that isn't open is refused
  pub unowned-refused : owner start es queue ≡ None → (event : Event) → names_queue queue event ≡ true → owed start es event ≡ refuses refusal.UnknownQueue
  unfolding owed
  unowned-refused none (Take q id bytes) names = ap (λ (o : Option Opening). for_some o (refuses refusal.UnknownQueue) (owed_take start es q id bytes)) (same-unowned none q names)
  unowned-refused none (Call (Stop q)) names =
      ap (λ (o : Option Opening). for_some o (refuses refusal.UnknownQueue) (λ opening. if is_stopped start es q then refuses refusal.QueueDown else enters outcome.Accepted (release_of q (barrier_in (flight_of start es q))))) (same-unowned none q names)
  unowned-refused none (Call (Close q)) names =
      ap (λ (o : Option Opening). for_some o (refuses refusal.UnknownQueue) (λ opening. enters outcome.Accepted (releases_of q (flight_of start es q)))) (same-unowned none q names)
  unowned-refused none (Call (RunNext q id)) names =
      ap (λ (o : Option Opening). for_some o (refuses refusal.UnknownQueue) (λ opening.
      for_some (in_flight start es q id) (refuses refusal.NotInFlight) (λ f. owed_group start es q id (given_at_launch start es q id) f.packet (progress start es q id)))) (same-unowned none q names)
  unowned-refused none (Call (Poll q id)) names =
      ap (λ (o : Option Opening). for_some o (refuses refusal.UnknownQueue) (λ opening.
      for_some (in_flight start es q id) (refuses refusal.NotInFlight) (λ f. owed_poll (signals start es) q id f.packet (progress start es q id)))) (same-unowned none q names)
  unowned-refused none (Call (Finish q id)) names =
      ap (λ (o : Option Opening). for_some o (refuses refusal.UnknownQueue) (λ opening.
      for_some (in_flight start es q id) (refuses refusal.NotInFlight) (λ f. owed_finish (signals start es) q id f.packet (progress start es q id)))) (same-unowned none q names)
  unowned-refused none (Open _ _ _) names = absurd cc
  unowned-refused none (Reload _) names = absurd cc
  unowned-refused none (Call (Grant _ _ _)) names = absurd cc
  unowned-refused none (Call (Revoke _ _ _)) names = absurd cc
  unowned-refused none (Call (HostWrite _ _ _)) names = absurd cc
  unowned-refused none (Call (ChangeSignal _ _ _)) names = absurd cc

-- ---- the releases of a close

-- whether a packet is one of a queue
abbrev pub is_of : QueueId → InFlight → Bool
is_of queue f = f.queue.0 == queue.0

released-all : (queue : QueueId) (fs : List InFlight) → All (λ f. is_of queue f ≡ true → list_any (releases_packet f) (releases_of queue (filter (is_of queue) fs)) ≡ true) fs
released-all queue [] = All-nil (λ f. is_of queue f ≡ true → list_any (releases_packet f) [] ≡ true)
released-all queue (f ∷ fs) = by_test (is_of queue f) refl (released-all queue fs)
  where
    IsAmong : List InFlight → InFlight → Type 0
    IsAmong left g = is_of queue g ≡ true → list_any (releases_packet g) (releases_of queue left) ≡ true

    or-left : (a b : Bool) → a ≡ true → (a || b) ≡ true
    or-left true b is = refl
    or-left false b is = absurd cc

    or-right : (a b : Bool) → b ≡ true → (a || b) ≡ true
    or-right true b is = refl
    or-right false b is = is

    by_test : (b : Bool) → is_of queue f ≡ b → All (IsAmong (filter (is_of queue) fs)) fs → All (IsAmong (if b then f ∷ filter (is_of queue) fs else filter (is_of queue) fs)) (f ∷ fs)
    by_test true is rest =
        All-cons (IsAmong (f ∷ filter (is_of queue) fs)) f fs
        (λ own. or-left (f.queue.0 == queue.0 && f.id.0 == f.id.0) _ (and_from (f.queue.0 == queue.0) (f.id.0 == f.id.0) is (eq-eqb f.id.0 f.id.0 refl)))
        (All-weaker (IsAmong (filter (is_of queue) fs)) (IsAmong (f ∷ filter (is_of queue) fs)) (λ g so own. or-right (g.queue.0 == queue.0 && g.id.0 == f.id.0) _ (so own)) fs rest)
    by_test false is rest = All-cons (IsAmong (filter (is_of queue) fs)) f fs (λ own. absurd cc) rest

-- so the queue of a packet that stays in flight isn't closed
pub all-unclosed : (start : Start) (es : List Entry) (e : Entry) → owed start es e.event ≡ enters e.outcome e.effects → All (λ f. list_any (releases_packet f) e.effects ≡ false → closes_queue f.queue e.event ≡ false) (flight start es)
all-unclosed start es e owing = λ k d below stays. by_test (get_or (flight start es) k d) (released-all (get_or (flight start es) k d).queue (flight start es) k d below) stays (closes_queue (get_or (flight start es) k d).queue e.event) refl
  where
    by_test : (f : InFlight) → (is_of f.queue f ≡ true → list_any (releases_packet f) (releases_of f.queue (flight_of start es f.queue)) ≡ true) → list_any (releases_packet f) e.effects ≡ false
        → (b : Bool) → closes_queue f.queue e.event ≡ b → closes_queue f.queue e.event ≡ false
    by_test f released stays false is = is
    by_test f released stays true is =
        let event_is : e.event ≡ Call (Close f.queue) = closes-is f.queue e.event is in
        let closed = close-effects start es e.outcome e.effects f.queue (ap (owed start es) (sym event_is) ∙ owing) in
        let leaves : list_any (releases_packet f) e.effects ≡ true = ap (list_any (releases_packet f)) closed.effects_are ∙ released (eq-eqb f.queue.0 f.queue.0 refl) in
        absurd cc
