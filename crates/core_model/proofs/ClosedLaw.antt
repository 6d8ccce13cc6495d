-- What a close does, and that nothing is told of a queue that isn't open.
use Rattle.std.proofs.Common.{◌≡◌, ◌⊎◌, inl, inr, ℕ, ◌+◌, ◌<◌, ◌≤◌, List, [], ◌∷◌, ◌++◌, refl, sym, ◌∙◌, ap, subst, Bool, true, false, Option, Some, None, append_assoc, arith}
use Rattle.std.specs.Prelude.{All, ◌&&◌, ◌==◌, Err, Ok, filter, find, fold, get_or, is_some, map, not, if◌then◌else◌}
use Rattle.std.specs.List.{Contains}
use Rattle.std.proofs.lemmas.Bool.{eq-eqb, eqb-true}
use Rattle.std.proofs.lemmas.List.Elements.{All-cons, All-filter, All-head, All-map, All-nil, All-push, All-tail, All-weaker, Contains-append_right}
use Rattle.aql_packet.specs.declared.ids.QueueId.{QueueId}
use Rattle.aql_packet.specs.declared.ids.PacketId.{PacketId}
use Rattle.executor.specs.Results.{GroupResult}
use Rattle.aql_packet.specs.declared.packet.KernelDispatch.{KernelDispatch}
use Rattle.aql_packet.specs.declared.packet.Packet.{Packet}
use Rattle.policy.specs.Policy.{rules_of}
use Rattle.policy.specs.Rules.{are_allowed, knows_client, knows_object}
use Rattle.queue_error.specs.declared.error.QueueError.{QueueError}
use Rattle.queue_error.specs.declared.rule.Rule.{Rule}
use Rattle.core_model.specs.declared.answer.Answer.TheVariants as answer
use Rattle.core_model.specs.declared.call.Call.TheVariants.{Grant, Revoke, Stop, Close, RunNext, Poll, Finish, HostWrite, ChangeSignal}
use Rattle.core_model.specs.declared.entry.Effect.{Effect}
use Rattle.core_model.specs.declared.entry.Effect.TheVariants as effect
use Rattle.core_model.specs.declared.entry.Entry.{Entry}
use Rattle.core_model.specs.declared.event.Event.{Event}
use Rattle.core_model.specs.declared.event.Event.TheVariants.{Open, Take, Reload, Call}
use Rattle.core_model.specs.declared.event.Query.TheVariants as query
use Rattle.core_model.specs.declared.flight.InFlight.{InFlight}
use Rattle.core_model.specs.declared.flight.Progress.{Progress}
use Rattle.core_model.specs.declared.outcome.Outcome.{Outcome}
use Rattle.core_model.specs.declared.outcome.Outcome.TheVariants as outcome
use Rattle.core_model.specs.declared.outcome.Taken.TheVariants as taken
use Rattle.core_model.specs.declared.refusal.Refusal.TheVariants as refusal
use Rattle.core_model.specs.History.{Start, opening_state}
use Rattle.core_model.specs.Policies.{policy_at}
use Rattle.core_model.specs.View.{GivenAtLaunch}
use Rattle.core_model.specs.Queues.{Opening, Openings, closes_queue, error_of, errors, hands_over_packet_of, is_stopped, next_id, opening_in, openings, owner, stops_queue, with_error}
use Rattle.core_model.specs.Flight.{flight, flight_after_effect, flight_of, in_flight, is_packet, launched_by, with_launched}
use Rattle.core_model.specs.Holds.{blocked, holder}
use Rattle.core_model.specs.Owed.{enters, error_without_place, owed, refuses, releases_of}
use Rattle.core_model.specs.Queries.{query_answer}
use Rattle.core_model.specs.Refusals.{for_some}
use Rattle.core_model.specs.Legal.{IsLegal, IsLegalAfter, IsWhole, entry_of}
use Rattle.core_model.specs.Headline.{HoldsInForce, packet_named}
use Rattle.core_model.specs.Closed.{AreAscending, IsClosed, IsGone, NothingIsToldOf, WasClosed, names_queue}
use Rattle.core_model.proofs.Absent.{by-entries, unheld-unfound}
use Rattle.core_model.proofs.Apart.{AreBelow, below-whole, found-legal, is-next}
use Rattle.core_model.proofs.Behind.{all, first, ordered-legal, same-state}
use Rattle.core_model.proofs.Changes.{error-named}
use Rattle.core_model.proofs.Closing.{is_of, named-open, unowned-refused}
use Rattle.core_model.proofs.Entered.{GroupFaulted, GroupRan, GroupWrote, HasFailed, HasSeen, KernelRan, change-entered, close-effects, finish-entered, kernel-ended, open-effects, poll-entered, run-entered, stop-effects, take-decided, write-entered}
use Rattle.core_model.proofs.Holding.{holding-legal}
use Rattle.core_model.proofs.Launches.{past-closed, refuse_unless-passed}
use Rattle.core_model.proofs.Lists.{filter-passes}
use Rattle.core_model.proofs.More.{errors-more, flight-more, is_stopped-more, next_id-more, openings-more}
use Rattle.core_model.proofs.Openings.{IsPast, numbered-above, openings-along, owner-more, past-after}
use Rattle.core_model.proofs.States.{legal-beginning, legal-own, split-legal, whole-legal}

-- ---- packets in flight of one queue are in the order of their ids

abbrev IsAbove : InFlight → InFlight → Type 0
IsAbove f g = g.queue.0 ≡ f.queue.0 → f.id.0 < g.id.0

-- of two of one queue the one behind has the greater id
abbrev AreInTurn : List InFlight → Type 0
AreInTurn [] = Unit {0}
AreInTurn (f ∷ fs) = All (IsAbove f) fs × AreInTurn fs

turn-filter : (keep : InFlight → Bool) (fs : List InFlight) → AreInTurn fs → AreInTurn (filter keep fs)
turn-filter keep [] turn = tt
turn-filter keep (f ∷ fs) turn = by_test (turn-filter keep fs turn.1) (keep f)
  where
    by_test : AreInTurn (filter keep fs) → (b : Bool) → AreInTurn (if b then f ∷ filter keep fs else filter keep fs)
    by_test rest true = (All-filter keep (IsAbove f) fs turn.0, rest)
    by_test rest false = rest

turn-effects : (effects : List Effect) (fs : List InFlight) → AreInTurn fs → AreInTurn (fold flight_after_effect fs effects)
turn-effects [] fs turn = turn
turn-effects (effect.Write address bytes ∷ rest) fs turn = turn-effects rest fs turn
turn-effects (effect.Signal signal old new ∷ rest) fs turn = turn-effects rest fs turn
turn-effects (effect.Release queue id ∷ rest) fs turn = turn-effects rest _ (turn-filter (λ f. not (is_packet queue id f)) fs turn)

turn-push : (f : InFlight) (fs : List InFlight) → AreInTurn fs → All (λ x. IsAbove x f) fs → AreInTurn (fs ++ f ∷ [])
turn-push f [] turn low = (All-nil (IsAbove f), tt)
turn-push f (x ∷ xs) turn low = (All-push (IsAbove x) xs f turn.0 (All-head (λ y. IsAbove y f) x xs low), turn-push f xs turn.1 (All-tail (λ y. IsAbove y f) x xs low))

module _ (start : Start) where
  turn-launched : (es : List Entry) (e : Entry) → owed start es e.event ≡ enters e.outcome e.effects → AreBelow start es → (o : Option InFlight) → launched_by e.event e.outcome ≡ o → AreInTurn (flight start es)
      → AreInTurn (with_launched (flight start es) o)
  turn-launched es e owing below None is turn = turn
  turn-launched es e owing below (Some f) is turn =
      turn-push f (flight start es) turn (All-weaker (λ (x : InFlight). x.id.0 < next_id start es x.queue) (λ x. IsAbove x f) above (flight start es) below)
    where
      above : (x : InFlight) → x.id.0 < next_id start es x.queue → IsAbove x f
      above x low same =
          let queue_is : f.queue ≡ x.queue = ap (λ n. record { 0 = n }) same in
          let next : f.id.0 ≡ next_id start es x.queue = is-next start es e owing f is ∙ ap (next_id start es) queue_is in
          omega (arith, low, next)

  turn-first : start.flight ≡ [] → AreInTurn (flight start [])
  unfolding flight
  turn-first none = subst AreInTurn (sym none) tt

  turn-whole : (es : List Entry) → IsWhole start es → AreInTurn (flight start es)
  turn-whole es whole =
      by-entries start (λ now. AreInTurn (flight start now))
      (λ es e whole owing turn. subst AreInTurn (sym (flight-more start es e)) (turn-effects e.effects _ (turn-launched es e owing (below-whole start es whole) (launched_by e.event e.outcome) refl turn)))
      es whole (turn-first (ap (λ (now : Start). now.flight) whole.opens))

-- ---- the ids of a queue's packets in flight

module _ (queue : QueueId) where
  abbrev ids_of : List InFlight → List PacketId
  ids_of fs = map (λ (f : InFlight). f.id) (filter (is_of queue) fs)

  ids-ascend : (fs : List InFlight) → AreInTurn fs → AreAscending (ids_of fs)
  ids-ascend [] turn = tt
  ids-ascend (f ∷ fs) turn = by_test (is_of queue f) refl (ids-ascend fs turn.1)
    where
      by_test : (b : Bool) → is_of queue f ≡ b → AreAscending (ids_of fs) → AreAscending (map (λ (g : InFlight). g.id) (if b then f ∷ filter (is_of queue) fs else filter (is_of queue) fs))
      by_test true is rest = (
        All-map (λ (id : PacketId). f.id.0 < id.0) (λ (g : InFlight). g.id) (filter (is_of queue) fs)
            (λ k d lt. All-filter (is_of queue) (IsAbove f) fs turn.0 k d lt (eqb-true _ _ (filter-passes (is_of queue) fs k d lt) ∙ sym (eqb-true _ _ is))),
        rest,
      )
      by_test false is rest = rest

  ids-contain : (fs : List InFlight) → All (λ f. f.queue.0 ≡ queue.0 → Contains (ids_of fs) f.id) fs
  ids-contain [] = All-nil (λ f. f.queue.0 ≡ queue.0 → Contains (ids_of []) f.id)
  ids-contain (f ∷ fs) = by_test (is_of queue f) refl (ids-contain fs)
    where
      IsAmong : List PacketId → InFlight → Type 0
      IsAmong ids g = g.queue.0 ≡ queue.0 → Contains ids g.id

      by_test : (b : Bool) → is_of queue f ≡ b → All (IsAmong (ids_of fs)) fs → All (IsAmong (map (λ (g : InFlight). g.id) (if b then f ∷ filter (is_of queue) fs else filter (is_of queue) fs))) (f ∷ fs)
      by_test true is rest =
          All-cons (IsAmong (f.id ∷ ids_of fs)) f fs (λ own. (0, omega arith, refl))
          (All-weaker (IsAmong (ids_of fs)) (IsAmong (f.id ∷ ids_of fs)) (λ g so own. Contains-append_right (f.id ∷ []) (ids_of fs) g.id (so own)) fs rest)
      by_test false is rest = All-cons (IsAmong (ids_of fs)) f fs (λ own. let same : is_of queue f ≡ true = eq-eqb f.queue.0 queue.0 own in absurd cc) rest

  releases-ids : (fs : List InFlight) → releases_of queue fs ≡ map (λ id. effect.Release queue id) (map (λ (f : InFlight). f.id) fs)
  releases-ids [] = refl
  releases-ids (f ∷ fs) = ap (λ (rest : List Effect). effect.Release queue f.id ∷ rest) (releases-ids fs)

-- ---- a close

pub close-due : (start : Start) (es : List Entry) → IsWhole start es → (told : Outcome) (effects : List Effect) (queue : QueueId) → owed start es (Call (Close queue)) ≡ enters told effects
    → (told ≡ outcome.Accepted) × IsClosed start es queue effects
close-due start es whole told effects queue owing =
    let closed = close-effects start es told effects queue owing in (
      closed.outcome_is,
      record {
        opening = closed.opening;
        owner_is = closed.owner_is;
        ids = ids_of queue (flight start es);
        effects_are = closed.effects_are ∙ releases-ids queue (flight_of start es queue);
        ascending = ids-ascend queue (flight start es) (turn-whole start es whole);
        each_flies = All-map (λ id. is_some (in_flight start es queue id) ≡ true) (λ (f : InFlight). f.id) (filter (is_of queue) (flight start es)) (λ k d lt.
            named (get_or (filter (is_of queue) (flight start es)) k d) (filter-passes (is_of queue) (flight start es) k d lt)
            (All-filter (is_of queue) (λ f. in_flight start es f.queue f.id ≡ Some f) (flight start es) (found-legal start es (whole-legal start es whole)) k d lt));
        all = ids-contain queue (flight start es);
      },
    )
  where
    named : (f : InFlight) → is_of queue f ≡ true → in_flight start es f.queue f.id ≡ Some f → is_some (in_flight start es queue f.id) ≡ true
    named f own found =
        let queue_is : f.queue ≡ queue = ap (λ n. record { 0 = n }) (eqb-true _ _ own) in
        ap is_some (subst (λ (q : QueueId). in_flight start es q f.id ≡ Some f) queue_is found)

-- ---- a queue that isn't open

-- an event that doesn't name a queue does nothing to it
record LeavesQueue (queue : QueueId) (event : Event) : Type 0 where
  stays : closes_queue queue event ≡ false
  hands_none : hands_over_packet_of queue event ≡ false
  stops_not : stops_queue queue event ≡ false

unnamed-leaves : (queue : QueueId) (event : Event) → names_queue queue event ≡ false → LeavesQueue queue event
unnamed-leaves queue (Take _ _ _) other = record { stays = refl; hands_none = other; stops_not = refl }
unnamed-leaves queue (Call (Stop _)) other = record { stays = refl; hands_none = refl; stops_not = other }
unnamed-leaves queue (Call (Close _)) other = record { stays = other; hands_none = refl; stops_not = refl }
unnamed-leaves queue (Open _ _ _) other = record { stays = refl; hands_none = refl; stops_not = refl }
unnamed-leaves queue (Reload _) other = record { stays = refl; hands_none = refl; stops_not = refl }
unnamed-leaves queue (Call (Grant _ _ _)) other = record { stays = refl; hands_none = refl; stops_not = refl }
unnamed-leaves queue (Call (Revoke _ _ _)) other = record { stays = refl; hands_none = refl; stops_not = refl }
unnamed-leaves queue (Call (RunNext _ _)) other = record { stays = refl; hands_none = refl; stops_not = refl }
unnamed-leaves queue (Call (Poll _ _)) other = record { stays = refl; hands_none = refl; stops_not = refl }
unnamed-leaves queue (Call (Finish _ _)) other = record { stays = refl; hands_none = refl; stops_not = refl }
unnamed-leaves queue (Call (HostWrite _ _ _)) other = record { stays = refl; hands_none = refl; stops_not = refl }
unnamed-leaves queue (Call (ChangeSignal _ _ _)) other = record { stays = refl; hands_none = refl; stops_not = refl }

-- an event that concerns a packet names its queue
abbrev named_pair : QueueId → PacketId → Option (QueueId × PacketId)
named_pair queue id = Some (queue, id)

same-queue : (p q : QueueId) (i j : PacketId) → named_pair p i ≡ named_pair q j → p ≡ q
same-queue p q i j same = ap (λ (o : Option (QueueId × PacketId)). elim o [ None ↦ p | Some pair ↦ pair.0 ]) same

packet-names : (queue : QueueId) (event : Event) (q : QueueId) (i : PacketId) → packet_named event ≡ named_pair q i → (q.0 == queue.0) ≡ true → names_queue queue event ≡ true
packet-names queue (Take p id bytes) q i same is = ap (λ (n : QueueId). n.0 == queue.0) (same-queue p q id i same) ∙ is
packet-names queue (Call (RunNext p id)) q i same is = ap (λ (n : QueueId). n.0 == queue.0) (same-queue p q id i same) ∙ is
packet-names queue (Call (Poll p id)) q i same is = ap (λ (n : QueueId). n.0 == queue.0) (same-queue p q id i same) ∙ is
packet-names queue (Call (Finish p id)) q i same is = ap (λ (n : QueueId). n.0 == queue.0) (same-queue p q id i same) ∙ is
packet-names queue (Call (Stop _)) q i same is = absurd cc
packet-names queue (Call (Close _)) q i same is = absurd cc
packet-names queue (Open _ _ _) q i same is = absurd cc
packet-names queue (Reload _) q i same is = absurd cc
packet-names queue (Call (Grant _ _ _)) q i same is = absurd cc
packet-names queue (Call (Revoke _ _ _)) q i same is = absurd cc
packet-names queue (Call (HostWrite _ _ _)) q i same is = absurd cc
packet-names queue (Call (ChangeSignal _ _ _)) q i same is = absurd cc

filter-none : (test : InFlight → Bool) (fs : List InFlight) → All (λ f. test f ≡ false) fs → filter test fs ≡ []
filter-none test [] none = refl
filter-none test (f ∷ fs) none =
    ap (λ (b : Bool). if b then f ∷ filter test fs else filter test fs) (All-head (λ g. test g ≡ false) f fs none) ∙ filter-none test fs (All-tail (λ g. test g ≡ false) f fs none)

module _ (start : Start) (queue : QueueId) where
  -- what is told of it behind some entries
  record IsUntold (es : List Entry) : Type 0 where
    none_taken : next_id start es queue ≡ 0
    no_error : errors start es queue ≡ []
    not_stopped : is_stopped start es queue ≡ false

  abbrev UntoldUnlessOpen : List Entry → Type 0
  UntoldUnlessOpen es = owner start es queue ≡ None → IsUntold es

  untold-first : start ≡ opening_state start.policy start.kernels → UntoldUnlessOpen []
  unfolding next_id errors is_stopped
  untold-first opens none = record {
    none_taken = ap (λ (now : Start). now.next_id queue) opens;
    no_error = ap (λ (now : Start). now.errors queue) opens;
    not_stopped = ap (λ (now : Start). now.is_stopped queue) opens;
  }

  -- an entry that closes it leaves nothing
  untold-closed : (es : List Entry) (e : Entry) → closes_queue queue e.event ≡ true → IsUntold (es ++ e ∷ [])
  untold-closed es e closes = record {
    none_taken = next_id-more start es e queue ∙ ap (λ (b : Bool). if b then 0 else if hands_over_packet_of queue e.event then next_id start es queue + 1 else next_id start es queue) closes;
    no_error = errors-more start es e queue ∙ ap (λ (b : Bool). if b then [] else with_error queue (errors start es queue) (error_of e.outcome)) closes;
    not_stopped = is_stopped-more start es e queue ∙ ap (λ (b : Bool). if b then false else if stops_queue queue e.event then true else is_stopped start es queue) closes;
  }

  -- where it isn't open no entry names it
  unowned-unnamed : (es : List Entry) (e : Entry) → owed start es e.event ≡ enters e.outcome e.effects → owner start es queue ≡ None → names_queue queue e.event ≡ false
  unowned-unnamed es e owing none = by_name (names_queue queue e.event) refl
    where
      by_name : (b : Bool) → names_queue queue e.event ≡ b → names_queue queue e.event ≡ false
      by_name false is = is
      by_name true is =
          let owned = named-open start es queue e.event e.outcome e.effects is owing in
          let same : Some owned.0 ≡ None = sym owned.1 ∙ none in
          absurd cc

  -- and so none tells an error of it
  none-told : (es : List Entry) (e : Entry) → IsWhole start es → owed start es e.event ≡ enters e.outcome e.effects → names_queue queue e.event ≡ false → with_error queue (errors start es queue) (error_of e.outcome) ≡ errors start es queue
  none-told es e whole owing other = by_error (error_of e.outcome) refl
    where
      by_queue : (error : QueueError) → error_of e.outcome ≡ Some error → (b : Bool) → (error.queue.0 == queue.0) ≡ b → (if b then errors start es queue ++ error ∷ [] else errors start es queue) ≡ errors start es queue
      by_queue error is false differs = refl
      by_queue error is true same =
          let names : names_queue queue e.event ≡ true = packet-names queue e.event error.queue error.packet (error-named start es whole e.event e.outcome e.effects error owing is) same in
          absurd cc

      by_error : (o : Option QueueError) → error_of e.outcome ≡ o → with_error queue (errors start es queue) o ≡ errors start es queue
      by_error None is = refl
      by_error (Some error) is = by_queue error is (error.queue.0 == queue.0) refl

  untold-left : (es : List Entry) (e : Entry) → IsWhole start es → owed start es e.event ≡ enters e.outcome e.effects → owner start es queue ≡ None → IsUntold es → IsUntold (es ++ e ∷ [])
  untold-left es e whole owing none told =
      let other = unowned-unnamed es e owing none in
      let leaves = unnamed-leaves queue e.event other in
      record {
        none_taken =
            next_id-more start es e queue
            ∙ ap (λ (b : Bool). if b then 0 else if hands_over_packet_of queue e.event then next_id start es queue + 1 else next_id start es queue) leaves.stays
            ∙ ap (λ (b : Bool). if b then next_id start es queue + 1 else next_id start es queue) leaves.hands_none ∙ told.none_taken;
        no_error = errors-more start es e queue ∙ ap (λ (b : Bool). if b then [] else with_error queue (errors start es queue) (error_of e.outcome)) leaves.stays ∙ none-told es e whole owing other ∙ told.no_error;
        not_stopped =
            is_stopped-more start es e queue
            ∙ ap (λ (b : Bool). if b then false else if stops_queue queue e.event then true else is_stopped start es queue) leaves.stays
            ∙ ap (λ (b : Bool). if b then true else is_stopped start es queue) leaves.stops_not ∙ told.not_stopped;
      }

  untold-more : (es : List Entry) (e : Entry) → IsWhole start es → owed start es e.event ≡ enters e.outcome e.effects → UntoldUnlessOpen es → UntoldUnlessOpen (es ++ e ∷ [])
  untold-more es e whole owing told none = by_close (closes_queue queue e.event) refl
    where
      before : closes_queue queue e.event ≡ false → (o : Option Opening) → owner start es queue ≡ o → owner start es queue ≡ None
      before stays None is = is
      before stays (Some opening) is = let same : Some opening ≡ None = sym (owner-more start es e queue opening stays is) ∙ none in absurd cc

      by_close : (b : Bool) → closes_queue queue e.event ≡ b → IsUntold (es ++ e ∷ [])
      by_close true closes = untold-closed es e closes
      by_close false stays = let unowned = before stays (owner start es queue) refl in untold-left es e whole owing unowned (told unowned)

  untold-whole : (es : List Entry) → IsWhole start es → UntoldUnlessOpen es
  untold-whole es whole = by-entries start UntoldUnlessOpen untold-more es whole (untold-first whole.opens)

  -- a packet in flight is one of an open queue
  none-flies : (es : List Entry) → IsWhole start es → owner start es queue ≡ None → filter (is_of queue) (flight start es) ≡ []
  none-flies es whole none = filter-none (is_of queue) (flight start es) (All-weaker (HoldsInForce start es) (λ f. is_of queue f ≡ false) other (flight start es) (holding-legal start es whole))
    where
      other : (f : InFlight) → HoldsInForce start es f → is_of queue f ≡ false
      other f h = by_test (is_of queue f) refl
        where
          by_test : (b : Bool) → is_of queue f ≡ b → is_of queue f ≡ false
          by_test false is = is
          by_test true is =
              let queue_is : f.queue ≡ queue = ap (λ n. record { 0 = n }) (eqb-true _ _ is) in
              let same : Some h.launch.opening ≡ None = sym h.owner_is ∙ ap (owner start es) queue_is ∙ none in
              absurd cc

-- so it is in any legal history
pub nothing-told : (s : Start) (es : List Entry) → IsLegal s es → (queue : QueueId) → owner s es queue ≡ None → NothingIsToldOf s es queue
nothing-told s es legal queue none =
    let now = subst IsSo (same-state s es legal) whole none in
    record { none_taken = now.0; no_error = now.1; not_stopped = now.2; none_flies = now.3 }
  where
    IsSo : Start → Type 0
    IsSo now = opening_in now.openings.queues queue ≡ None → (now.next_id queue ≡ 0) × (now.errors queue ≡ []) × (now.is_stopped queue ≡ false) × (filter (is_of queue) now.flight ≡ [])

    whole : opening_in (openings (first s es legal) (all s es legal)).queues queue ≡ None → (next_id (first s es legal) (all s es legal) queue ≡ 0) × (errors (first s es legal) (all s es legal) queue ≡ [])
        × (is_stopped (first s es legal) (all s es legal) queue ≡ false) × (filter (is_of queue) (flight (first s es legal) (all s es legal)) ≡ [])
    whole unowned =
        let told = untold-whole (first s es legal) queue (all s es legal) legal.whole unowned in
        (told.none_taken, told.no_error, told.not_stopped, none-flies (first s es legal) queue (all s es legal) legal.whole unowned)

-- ---- a queue that was closed

unfound : (queue : QueueId) (id : PacketId) (fs : List InFlight) → filter (is_of queue) fs ≡ [] → find (is_packet queue id) fs ≡ None
unfound queue id [] none = refl
unfound queue id (f ∷ fs) none = by_test (is_of queue f) refl none (unfound queue id fs)
  where
    by_test : (b : Bool) → (f.queue.0 == queue.0) ≡ b → (if b then f ∷ filter (is_of queue) fs else filter (is_of queue) fs) ≡ [] → (filter (is_of queue) fs ≡ [] → find (is_packet queue id) fs ≡ None)
        → (if f.queue.0 == queue.0 && f.id.0 == id.0 then Some f else find (is_packet queue id) fs) ≡ None
    by_test true is same rest = absurd cc
    by_test false is same rest = ap (λ (b : Bool). if b && f.id.0 == id.0 then Some f else find (is_packet queue id) fs) is ∙ rest same

errors-refused : (s : Start) (es : List Entry) (queue : QueueId) → owner s es queue ≡ None → query_answer s es (query.Errors queue) ≡ Err refusal.UnknownQueue
unfolding query_answer
errors-refused s es queue none = ap (λ (o : Option Opening). for_some o (Err refusal.UnknownQueue) (λ opening. Ok (answer.Errors (errors s es queue)))) none

gone-past : (s : Start) (es : List Entry) (queue : QueueId) → IsLegal s es → 1 ≤ queue.0 → IsPast (openings s es) queue → IsGone s es queue
gone-past s es queue legal number past =
    let untold = nothing-told s es legal queue past.0 in
    record {
      numbered = number;
      was_opened = past.1;
      not_open = past.0;
      untold = untold;
      unheld = λ id client on right. unheld-unfound s es legal queue id client on right (unfound queue id (flight s es) untold.none_flies);
      refused = λ event names. unowned-refused s es queue past.0 event names;
      unanswered = errors-refused s es queue past.0;
    }

module _ (s : Start) (before more : List Entry) (queue : QueueId) (told : Outcome) (effects : List Effect) (legal : IsLegal s (before ++ entry_of (Call (Close queue)) told effects ∷ more)) where
  abbrev closing : Entry
  closing = entry_of (Call (Close queue)) told effects

  behind : IsLegalAfter s before (closing ∷ more)
  behind = (split-legal s [] before (closing ∷ more) (legal-own s (before ++ closing ∷ more) legal)).1

  past : IsPast (openings s (before ++ closing ∷ [])) queue
  past = past-closed s before closing queue (ordered-legal s before (legal-beginning s before (closing ∷ more) legal)).1 behind.0 (eq-eqb queue.0 queue.0 refl)

  past-now : IsPast (openings s (before ++ closing ∷ more)) queue
  past-now =
      subst (λ (now : List Entry). IsPast (openings s now) queue) (append_assoc before (closing ∷ []) more)
      (openings-along s (λ (all : Openings). IsPast all queue) (λ (all : Openings) event. past-after all event queue) (before ++ closing ∷ []) more past)

  number : 1 ≤ queue.0
  number =
      let owned = close-effects s before told effects queue behind.0 in
      let above : 0 < queue.0 = numbered-above 0 (openings s before).queues queue owned.opening (ordered-legal s before (legal-beginning s before (closing ∷ more) legal)).0 owned.owner_is in
      omega (arith, above)

  pub gone : IsGone s (before ++ closing ∷ more) queue
  gone = gone-past s (before ++ closing ∷ more) queue legal number past-now

-- ---- the number of a queue that is opened

module _ (start : Start) (es : List Entry) (told : Outcome) (effects : List Effect) (queue : QueueId) (is : told ≡ outcome.Opened queue) where
  abbrev IsNew : Type 0
  IsNew = queue.0 ≡ (openings start es).opened + 1

  accepted-not : (changes : List Effect) → enters outcome.Accepted changes ≡ enters told effects → IsNew
  accepted-not changes same =
      let accepted : outcome.Accepted ≡ told = cc in
      let both : outcome.Accepted ≡ outcome.Opened queue = accepted ∙ is in
      absurd cc

  unheld-not : (o : Option InFlight) → elim o [ None ↦ enters outcome.Accepted [] | Some f ↦ refuses (refusal.Busy f.queue f.id) ] ≡ enters told effects → IsNew
  unheld-not None same = accepted-not [] same
  unheld-not (Some f) same = absurd cc

  opened-new : (event : Event) → owed start es event ≡ enters told effects → IsNew
  unfolding owed
  opened-new (Open client agent size) owing =
      let made = open-effects start es told effects client agent size owing in
      let same : outcome.Opened queue ≡ outcome.Opened (record { 0 = (openings start es).opened + 1 }) = sym is ∙ made.outcome_is in
      let queue_is : queue ≡ record { 0 = (openings start es).opened + 1 } = cc in
      ap (λ (q : QueueId). q.0) queue_is
  opened-new (Call (Grant client on rights)) owing =
      let one = refuse_unless-passed (knows_client (rules_of start.policy) client) _ _ told effects owing in
      let two = refuse_unless-passed (knows_object (rules_of start.policy) on) _ _ told effects one.rest_is in
      let three = refuse_unless-passed (are_allowed (rules_of (policy_at start es)) client on rights) _ _ told effects two.rest_is in
      accepted-not [] three.rest_is
  opened-new (Call (Revoke client on rights)) owing =
      let one = refuse_unless-passed (knows_client (rules_of start.policy) client) _ _ told effects owing in
      let two = refuse_unless-passed (knows_object (rules_of start.policy) on) _ _ told effects one.rest_is in
      unheld-not (holder start es client on rights) two.rest_is
  opened-new (Reload rows) owing = unheld-not (blocked start es rows) owing
  opened-new (Call (Stop q)) owing = let both : outcome.Accepted ≡ outcome.Opened queue = sym (stop-effects start es told effects q owing).outcome_is ∙ is in absurd cc
  opened-new (Call (Close q)) owing = let both : outcome.Accepted ≡ outcome.Opened queue = sym (close-effects start es told effects q owing).outcome_is ∙ is in absurd cc
  opened-new (Take q id bytes) owing = by_verdict (take-decided start es told effects q id bytes owing).verdict (take-decided start es told effects q id bytes owing).outcome_is
    where
      by_verdict : (verdict : Option Rule) → told ≡ (elim verdict [ None ↦ outcome.Taken taken.Launched | Some rule ↦ outcome.Taken (taken.Denied (error_without_place q id.0 rule)) ]) → IsNew
      by_verdict None was = let both : outcome.Taken taken.Launched ≡ outcome.Opened queue = sym was ∙ is in absurd cc
      by_verdict (Some rule) was = let both : outcome.Taken (taken.Denied (error_without_place q id.0 rule)) ≡ outcome.Opened queue = sym was ∙ is in absurd cc
  opened-new (Call (RunNext q id)) owing = by_group (run-entered start es told effects q id owing).group
    where
      by_end : (d : KernelDispatch) (group : ℕ) (result : GroupResult) → GroupWrote start es told effects q id d group result ⊎ GroupFaulted start es told effects q id d group result → IsNew
      by_end d group result (inl ran) = let both = sym ran.outcome_is ∙ is in absurd cc
      by_end d group result (inr fault) = let both = sym fault.outcome_is ∙ is in absurd cc

      by_group : {p : Packet} {so_far : Progress} {own : GivenAtLaunch} → GroupRan start es told effects p so_far ⊎ KernelRan start es told effects q id own p so_far → IsNew
      by_group (inl ran) = let both = sym ran.outcome_is ∙ is in absurd cc
      by_group {p} {so_far} {own} (inr ran) = by_end ran.dispatch so_far.groups_run _ (kernel-ended start es told effects q id ran.dispatch so_far.groups_run _ ran.owed_is)
  opened-new (Call (Poll q id)) owing = by_poll (poll-entered start es told effects q id owing)
    where
      by_poll : HasSeen start es told effects q id ⊎ HasFailed start es told effects q id → IsNew
      by_poll (inl seen) = let both = sym seen.outcome_is ∙ is in absurd cc
      by_poll (inr failed) = let both = sym failed.outcome_is ∙ is in absurd cc
  opened-new (Call (Finish q id)) owing = let both : outcome.Accepted ≡ outcome.Opened queue = sym (finish-entered start es told effects q id owing).outcome_is ∙ is in absurd cc
  opened-new (Call (HostWrite client address bytes)) owing = let both : outcome.Accepted ≡ outcome.Opened queue = sym (write-entered start es told effects client address bytes owing).outcome_is ∙ is in absurd cc
  opened-new (Call (ChangeSignal client signal operation)) owing = let both = sym (change-entered start es told effects client signal operation owing).outcome_is ∙ is in absurd cc

-- no entry behind names a queue that is gone, or gives its number to another
unnamed-after : (s : Start) (before es : List Entry) (queue : QueueId) → IsPast (openings s before) queue → IsLegalAfter s before es → All (λ e. (names_queue queue e.event ≡ false) × (e.outcome ≡ outcome.Opened queue → ⊥)) es
unnamed-after s before [] queue past legal = All-nil (λ e. (names_queue queue e.event ≡ false) × (e.outcome ≡ outcome.Opened queue → ⊥))
unnamed-after s before (e ∷ es) queue past legal =
    All-cons (λ e. (names_queue queue e.event ≡ false) × (e.outcome ≡ outcome.Opened queue → ⊥)) e es
    (unowned-unnamed s queue before e legal.0 past.0, λ is. let new = opened-new s before e.outcome e.effects queue is e.event legal.0 in let low = past.1 in absurd (omega (arith, new, low)))
    (unnamed-after s (before ++ e ∷ []) es queue (subst (λ (all : Openings). IsPast all queue) (sym (openings-more s before e)) (past-after (openings s before) e.event queue past)) legal.1)

pub unnamed : (s : Start) (before more : List Entry) (queue : QueueId) (told : Outcome) (effects : List Effect) → IsLegal s (before ++ entry_of (Call (Close queue)) told effects ∷ more)
    → All (λ e. (names_queue queue e.event ≡ false) × (e.outcome ≡ outcome.Opened queue → ⊥)) more
unnamed s before more queue told effects legal =
    unnamed-after s (before ++ entry_of (Call (Close queue)) told effects ∷ []) more queue (past s before more queue told effects legal) (behind s before more queue told effects legal).1

-- ---- a queue that was closed before what a history begins from

past-first : (s : Start) (queue : QueueId) → WasClosed s queue → IsPast (openings s []) queue
unfolding openings
past-first s queue closed = (closed.not_open, closed.was_opened)

module _ (s : Start) (es : List Entry) (queue : QueueId) (legal : IsLegal s es) (closed : WasClosed s queue) where
  pub gone-before : IsGone s es queue
  gone-before =
      gone-past s es queue legal closed.numbered
      (openings-along s (λ (all : Openings). IsPast all queue) (λ (all : Openings) event. past-after all event queue) [] es (past-first s queue closed))

  pub unnamed-since : All (λ e. (names_queue queue e.event ≡ false) × (e.outcome ≡ outcome.Opened queue → ⊥)) es
  unnamed-since = unnamed-after s [] es queue (past-first s queue closed) (legal-own s es legal)
