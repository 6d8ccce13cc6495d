-- At most 512 packets are in flight: 8 of each queue, of 64 that are open.
use Rattle.std.proofs.Common.{ℕ, ◌≡◌, ◌≤◌, ◌<◌, ◌+◌, ◌-◌, ◌*◌, List, [], ◌∷◌, ◌++◌, length, refl, sym, ◌∙◌, ap, subst, Bool, true, false, Option, Some, None, arith, append_assoc, length-append}
use Rattle.std.specs.Prelude.{◌==◌, filter, fold, map, not, if◌then◌else◌}
use Rattle.std.proofs.lemmas.Bool.{eqb-true}
use Rattle.std.proofs.lemmas.List.{append-nil, length-map}
use Rattle.core_model.specs.declared.entry.Effect.{Effect}
use Rattle.core_model.specs.declared.entry.Effect.TheVariants.{Release, Signal, Write}
use Rattle.core_model.specs.declared.entry.Entry.{Entry}
use Rattle.core_model.specs.declared.event.Event.{Event}
use Rattle.core_model.specs.declared.event.Event.TheVariants as event
use Rattle.core_model.specs.declared.call.Call.TheVariants as call
use Rattle.aql_packet.specs.declared.ids.QueueId.{QueueId}
use Rattle.core_model.specs.declared.flight.InFlight.{InFlight}
use Rattle.core_model.specs.declared.outcome.Outcome.TheVariants as outcome
use Rattle.core_model.specs.declared.outcome.Taken.TheVariants as taken
use Rattle.kernel_check.specs.Programs.{Program}
use Rattle.policy.specs.Policy.{Declared}
use Rattle.core_model.specs.Flight.{flight, flight_after, flight_after_effect, is_packet, launched_by, with_launched}
use Rattle.core_model.specs.History.{OpenQueue, Start, opening_state}
use Rattle.core_model.specs.LaunchRules.{cause_to_wait}
use Rattle.core_model.specs.Legal.{IsLegal, IsLegalAfter}
use Rattle.core_model.specs.Owed.{enters, owed}
use Rattle.core_model.specs.Queues.{is_queue, next_queue, opening_in, openings, openings_after}
use Rattle.core_model.specs.States.{state_after}
use Rattle.core_model.proofs.ClosedLaw.{nothing-told}
use Rattle.core_model.proofs.Entered.{open-effects}
use Rattle.core_model.proofs.Launches.{launched_by-is}
use Rattle.core_model.proofs.Launching.{launch-granted}
use Rattle.core_model.proofs.More.{flight-more, openings-more}
use Rattle.core_model.proofs.States.{state-join}

-- ---- how many are left

left-of : {X : Type 0} (kept test : X → Bool) (xs : List X) → length (filter test (filter kept xs)) ≤ length (filter test xs)
left-of kept test [] = omega arith
left-of kept test (x ∷ xs) = grind (arith, left-of kept test xs)

parted : {X : Type 0} (test : X → Bool) (xs : List X) → length (filter test xs) + length (filter (λ x. not (test x)) xs) ≡ length xs
parted test [] = refl
parted test (x ∷ xs) = grind (arith, parted test xs)

pushed : {X : Type 0} (test : X → Bool) (xs : List X) (y : X) → length (filter test (xs ++ y ∷ [])) ≡ length (filter test xs) + (if test y then 1 else 0)
pushed test [] y = grind arith
pushed test (x ∷ xs) y = grind (arith, pushed test xs y)

fewer : (test : InFlight → Bool) (effects : List Effect) (fs : List InFlight) → length (filter test (fold flight_after_effect fs effects)) ≤ length (filter test fs)
fewer test [] fs = omega arith
fewer test (Write address bytes ∷ rest) fs = fewer test rest fs
fewer test (Signal signal old new ∷ rest) fs = fewer test rest fs
fewer test (Release queue id ∷ rest) fs =
    omega (arith, fewer test rest (filter (λ f. not (is_packet queue id f)) fs), left-of (λ f. not (is_packet queue id f)) test fs)

shorter : {X : Type 0} (test : X → Bool) (xs : List X) → length (filter test xs) ≤ length xs
shorter test [] = omega arith
shorter test (x ∷ xs) = grind (arith, shorter test xs)

excluded : {X : Type 0} (test : X → Bool) (xs : List X) → length (filter test (filter (λ x. not (test x)) xs)) ≡ 0
excluded test [] = refl
excluded test (x ∷ xs) = grind (arith, excluded test xs)

-- ---- open queues, and how many packets they have

abbrev of_queue : ℕ → InFlight → Bool
of_queue queue f = f.queue.0 == queue

-- the packets that aren't of a queue
abbrev apart : ℕ → List InFlight → List InFlight
apart queue fs = filter (λ f. not (of_queue queue f)) fs

-- no packet is in flight of a queue that isn't one of some
abbrev NoneElse : List OpenQueue → List InFlight → Type 0
NoneElse qs fs = (queue : QueueId) → opening_in qs queue ≡ None → length (filter (of_queue queue.0) fs) ≡ 0

-- packets of some queues are at most so many, if none has more than 8
most : (qs : List OpenQueue) (fs : List InFlight) → NoneElse qs fs → ((queue : ℕ) → length (filter (of_queue queue) fs) ≤ 8) → length fs ≤ 8 * length qs
most [] [] none few = omega arith
most [] (f ∷ fs) none few = absurd (grind (arith, none f.queue refl))
most (q ∷ qs) fs none few =
    let rest = most qs (apart q.queue.0 fs) none-else (λ queue. omega (arith, left-of (λ f. not (of_queue q.queue.0 f)) (of_queue queue) fs, few queue)) in
    omega (arith, parted (of_queue q.queue.0) fs, few q.queue.0, rest)
  where
    by-number : (queue : QueueId) (b : Bool) → (q.queue.0 == queue.0) ≡ b → opening_in qs queue ≡ None → length (filter (of_queue queue.0) (apart q.queue.0 fs)) ≡ 0
    by-number queue true at outside = subst (λ n. length (filter (of_queue n) (apart q.queue.0 fs)) ≡ 0) (eqb-true _ _ at) (excluded (of_queue q.queue.0) fs)
    by-number queue false at outside =
        let gone : opening_in (q ∷ qs) queue ≡ None = rw at outside in
        omega (arith, left-of (λ f. not (of_queue q.queue.0 f)) (of_queue queue.0) fs, none queue gone)

    none-else : NoneElse qs (apart q.queue.0 fs)
    none-else queue outside = by-number queue (q.queue.0 == queue.0) refl outside

-- what holds behind each entry of a legal history
record IsBounded (qs : List OpenQueue) (fs : List InFlight) : Type 0 where
  queues : length qs ≤ 64
  few : (queue : ℕ) → length (filter (of_queue queue) fs) ≤ 8

bounded : (qs : List OpenQueue) (fs : List InFlight) → NoneElse qs fs → IsBounded qs fs → length fs ≤ 512
bounded qs fs none is = omega (arith, most qs fs none is.few, is.queues)

-- there is room for a packet of a queue that need not wait
need-not : (flying : List InFlight) (bit : Bool) → cause_to_wait (map (λ f. f.packet) flying) bit ≡ None → length flying < 8
unfolding cause_to_wait
need-not flying bit none = grind (arith, none, length-map flying (λ (f : InFlight). f.packet))

module _ (start : Start) (es : List Entry) (e : Entry) (owing : owed start es e.event ≡ enters e.outcome e.effects) (is : IsBounded (openings start es).queues (flight start es)) where
  abbrev fs : List InFlight
  fs = flight start es

  abbrev opened : List OpenQueue
  opened = (openings_after (openings start es) e.event).queues

  queues-more : (event : Event) → e.event ≡ event → length (openings_after (openings start es) event).queues ≤ 64
  queues-more (event.Open client agent size) same =
      let made = open-effects start es e.outcome e.effects client agent size (subst (λ v. owed start es v ≡ enters e.outcome e.effects) same owing) in
      let few : length (openings start es).queues < 64 = made.few in
      omega (arith, few, length-append (openings start es).queues (record { queue = next_queue (openings start es).opened; opening = record { client = client; agent = agent } } ∷ []))
  queues-more (event.Take queue id bytes) same = is.queues
  queues-more (event.Reload rows) same = is.queues
  queues-more (event.Call (call.Grant client on rights)) same = is.queues
  queues-more (event.Call (call.Revoke client on rights)) same = is.queues
  queues-more (event.Call (call.Stop queue)) same = is.queues
  queues-more (event.Call (call.Close queue)) same = omega (arith, shorter (λ q. not (is_queue queue q)) (openings start es).queues, is.queues)
  queues-more (event.Call (call.RunNext queue id)) same = is.queues
  queues-more (event.Call (call.Poll queue id)) same = is.queues
  queues-more (event.Call (call.Finish queue id)) same = is.queues
  queues-more (event.Call (call.HostWrite client address bytes)) same = is.queues
  queues-more (event.Call (call.ChangeSignal client signal operation)) same = is.queues

  flown : (o : Option InFlight) → launched_by e.event e.outcome ≡ o → IsBounded opened (fold flight_after_effect (with_launched fs o) e.effects)
  flown None same = record {
    queues = queues-more e.event refl;
    few = λ queue. omega (arith, fewer (of_queue queue) e.effects fs, is.few queue);
  }
  flown (Some f) same =
      let launch = launched_by-is e.event e.outcome f same in
      let owing-launch : owed start es (event.Take f.queue f.id launch.bytes) ≡ enters (outcome.Taken taken.Launched) e.effects =
      subst (λ o. owed start es (event.Take f.queue f.id launch.bytes) ≡ enters o e.effects) launch.outcome_is (subst (λ v. owed start es v ≡ enters e.outcome e.effects) launch.event_is owing) in
      let granted = launch-granted start es f.queue f.id launch.bytes e.effects owing-launch in
      let free : length (filter (of_queue f.queue.0) fs) < 8 = need-not (filter (of_queue f.queue.0) fs) _ granted.allowed.need_not_wait in
      record {
        queues = queues-more e.event refl;
        few = λ queue. few-more queue free (f.queue.0 == queue) refl;
      }
    where
      one-more : (test : InFlight → Bool) → test f ≡ false → length (filter test (fs ++ f ∷ [])) ≡ length (filter test fs)
      one-more test out = grind (arith, pushed test fs f, out)

      by_one : (b : Bool) → (if b then 1 else 0) ≤ 1
      by_one true = omega arith
      by_one false = omega arith

      few-more : (queue : ℕ) → length (filter (of_queue f.queue.0) fs) < 8 → (b : Bool) → (f.queue.0 == queue) ≡ b → length (filter (of_queue queue) (fold flight_after_effect (fs ++ f ∷ []) e.effects)) ≤ 8
      few-more queue free true at =
          let here : length (filter (of_queue queue) fs) < 8 = subst (λ n. length (filter (of_queue n) fs) < 8) (eqb-true _ _ at) free in
          omega (arith, fewer (of_queue queue) e.effects (fs ++ f ∷ []), pushed (of_queue queue) fs f, by_one (of_queue queue f), here)
      few-more queue free false at = omega (arith, fewer (of_queue queue) e.effects (fs ++ f ∷ []), one-more (of_queue queue) at, is.few queue)

  bounded-more : IsBounded (openings start (es ++ e ∷ [])).queues (flight start (es ++ e ∷ []))
  bounded-more = subst (IsBounded (openings start (es ++ e ∷ [])).queues) (sym (flight-more start es e)) (subst (λ os. IsBounded os.queues (flight_after fs e)) (sym (openings-more start es e)) (flown (launched_by e.event e.outcome) refl))

abbrev IsBoundedBehind : Start → List Entry → Type 0
IsBoundedBehind start es = IsBounded (openings start es).queues (flight start es)

bounded-after : (start : Start) (before es : List Entry) → IsBoundedBehind start before → IsLegalAfter start before es → IsBoundedBehind start (before ++ es)
bounded-after start before [] is legal = subst (IsBoundedBehind start) (sym (append-nil before)) is
bounded-after start before (e ∷ es) is legal =
    subst (IsBoundedBehind start) (append_assoc before (e ∷ []) es)
    (bounded-after start (before ++ e ∷ []) es (bounded-more start before e legal.0 is) legal.1)

none-yet : (policy : Declared) (kernels : List Program) → IsBoundedBehind (opening_state policy kernels) []
unfolding openings flight
none-yet policy kernels = record { queues = omega arith; few = λ queue. omega arith }

-- of a legal history
pub few-flying : (start : Start) (es : List Entry) → IsLegal start es → length (flight start es) ≤ 512
few-flying start es legal =
    let first = opening_state legal.first start.kernels in
    let is = bounded-after first [] (legal.prior ++ es) (none-yet legal.first start.kernels) legal.whole.legal in
    let same : state_after first (legal.prior ++ es) ≡ state_after start es = state-join first legal.prior es ∙ sym (ap (λ (now : Start). state_after now es) legal.start_is) in
    let bounds : IsBoundedBehind start es = subst (λ (now : Start). IsBounded now.openings.queues now.flight) same is in
    bounded (openings start es).queues (flight start es) (λ queue gone. ap length (nothing-told start es legal queue gone).none_flies) bounds
