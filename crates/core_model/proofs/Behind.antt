-- What is known of a legal history by the whole one that it is the rest of.
use Rattle.std.proofs.Common.{◌≡◌, ℕ, List, [], ◌∷◌, ◌++◌, refl, sym, ◌∙◌, ap, subst, Bool, true, false, Option, Some, None, arith}
use Rattle.std.specs.Prelude.{◌&&◌, ◌||◌, ◌==◌, filter, find, fold, not, if◌then◌else◌}
use Rattle.std.specs.List.{list_any}
use Rattle.std.proofs.lemmas.List.Folds.{list_any-append}
use Rattle.aql_packet.specs.declared.ids.ClientId.{ClientId}
use Rattle.aql_packet.specs.declared.ids.QueueId.{QueueId}
use Rattle.aql_packet.specs.declared.ids.PacketId.{PacketId}
use Rattle.policy.specs.declared.object.Object.{Object}
use Rattle.policy.specs.declared.rights.Right.{Right}
use Rattle.core_model.specs.declared.entry.Effect.{Effect}
use Rattle.core_model.specs.declared.entry.Effect.TheVariants.{Write, Signal, Release}
use Rattle.core_model.specs.declared.entry.Entry.{Entry}
use Rattle.core_model.specs.declared.flight.InFlight.{InFlight}
use Rattle.core_model.specs.History.{Start, opening_state}
use Rattle.core_model.specs.Queues.{Opening, opening_in, openings, owner}
use Rattle.core_model.specs.Flight.{flight, flight_after, flight_after_effect, in_flight, is_packet, launched_by, releases, with_launched}
use Rattle.core_model.specs.Holds.{along, arguments, arguments_after, arguments_if, gives, held, held_after, is_launch, own_rights}
use Rattle.core_model.specs.States.{state_after}
use Rattle.core_model.specs.Legal.{IsLegal}
use Rattle.core_model.specs.Headline.{AllInForce, HoldsInForce}
use Rattle.core_model.proofs.Lists.{found-all}
use Rattle.core_model.proofs.Openings.{AreOrdered, ordered-whole}
use Rattle.core_model.proofs.Holding.{holding-legal}
use Rattle.core_model.proofs.Entered.{named-found}
use Rattle.core_model.proofs.States.{state-join}

-- ---- a packet that holds a right is in flight

module _ (queue : QueueId) (id : PacketId) where
  -- one that isn't released stays
  pub any-left : (effects : List Effect) (fs : List InFlight) → list_any (releases queue id) effects ≡ false → list_any (is_packet queue id) fs ≡ true → list_any (is_packet queue id) (fold flight_after_effect fs effects) ≡ true
  any-left [] fs stays some = some
  any-left (Write address bytes ∷ rest) fs stays some = any-left rest fs stays some
  any-left (Signal signal old new ∷ rest) fs stays some = any-left rest fs stays some
  any-left (Release q i ∷ rest) fs stays some =
      any-left rest (filter (λ f. not (is_packet q i f)) fs) (grind arith) (others fs (grind arith) some)
    where
      others : (fs : List InFlight) → (queue.0 == q.0 && id.0 == i.0) ≡ false → list_any (is_packet queue id) fs ≡ true → list_any (is_packet queue id) (filter (λ f. not (is_packet q i f)) fs) ≡ true
      others [] other some = some
      others (f ∷ fs) other some = grind (arith, others fs other)

  pub any-launched : (fs : List InFlight) (o : Option InFlight) → (list_any (is_packet queue id) fs || is_launch queue id o) ≡ true → list_any (is_packet queue id) (with_launched fs o) ≡ true
  any-launched fs None some = grind arith
  any-launched fs (Some f) some = grind (arith, list_any-append (is_packet queue id) fs (f ∷ []))

module _ (start : Start) (queue : QueueId) (id : PacketId) (client : ClientId) (on : Object) (right : Right) where
  flies-along : (before : List Entry) (was : Bool) (fs : List InFlight) (es : List Entry) → (was ≡ true → list_any (is_packet queue id) fs ≡ true) → along (held_after start queue id client on right) before was es ≡ true →
      list_any (is_packet queue id) (fold flight_after fs es) ≡ true
  flies-along before was fs [] so has_it = so has_it
  flies-along before was fs (e ∷ es) so has_it =
      flies-along (before ++ e ∷ []) (held_after start queue id client on right before was e) (flight_after fs e) es
      (next was (is_launch queue id (launched_by e.event e.outcome)) (gives start before client on right (owner start before queue) (launched_by e.event e.outcome)) refl so) has_it
    where
      next : (was launches given : Bool) → is_launch queue id (launched_by e.event e.outcome) ≡ launches → (was ≡ true → list_any (is_packet queue id) fs ≡ true) →
          ((was || (launches && given)) && not (list_any (releases queue id) e.effects)) ≡ true → list_any (is_packet queue id) (flight_after fs e) ≡ true
      next was launches given is so now =
          any-left queue id e.effects (with_launched fs (launched_by e.event e.outcome)) (grind arith) (any-launched queue id fs (launched_by e.event e.outcome) (grind arith))

-- ---- a packet that has arguments is in flight

module _ (start : Start) (queue : QueueId) (id : PacketId) where
  none-along : (before : List Entry) (was : List ℕ) (fs : List InFlight) (es : List Entry) → (list_any (is_packet queue id) fs ≡ false → was ≡ []) →
      list_any (is_packet queue id) (fold flight_after fs es) ≡ false → along (arguments_after start queue id) before was es ≡ []
  none-along before was fs [] so none = so none
  none-along before was fs (e ∷ es) so none =
      none-along (before ++ e ∷ []) (arguments_after start queue id before was e) (flight_after fs e) es
      (next (list_any (releases queue id) e.effects) (is_launch queue id (launched_by e.event e.outcome)) (list_any (is_packet queue id) fs) refl refl refl) none
    where
      next : (released launches flew : Bool) → list_any (releases queue id) e.effects ≡ released → is_launch queue id (launched_by e.event e.outcome) ≡ launches → list_any (is_packet queue id) fs ≡ flew →
          list_any (is_packet queue id) (flight_after fs e) ≡ false →
          (if released then [] else if launches then arguments_if start before (launched_by e.event e.outcome) else was) ≡ []
      next true launches flew left is there gone = refl
      next false true flew left is there gone =
          let flies : list_any (is_packet queue id) (flight_after fs e) ≡ true = any-left queue id e.effects (with_launched fs (launched_by e.event e.outcome)) left (any-launched queue id fs (launched_by e.event e.outcome) (grind arith)) in
          absurd cc
      next false false true left is there gone =
          let flies : list_any (is_packet queue id) (flight_after fs e) ≡ true = any-left queue id e.effects (with_launched fs (launched_by e.event e.outcome)) left (any-launched queue id fs (launched_by e.event e.outcome) (grind arith)) in
          absurd cc
      next false false false left is there gone = so there

-- ---- the whole history

module _ (s : Start) (es : List Entry) (legal : IsLegal s es) where
  abbrev pub first : Start
  first = opening_state legal.first s.kernels

  abbrev pub all : List Entry
  all = legal.prior ++ es

  -- the state is the same
  pub same-state : state_after first all ≡ state_after s es
  same-state = state-join first legal.prior es ∙ sym (ap (λ (now : Start). state_after now es) legal.start_is)

  -- the open queues have numbers from 1 up to how many were ever opened, ascending
  pub ordered-legal : AreOrdered (openings s es)
  ordered-legal = subst (λ (now : Start). AreOrdered now.openings) same-state (ordered-whole first refl all)

  held-flies-whole : (queue : QueueId) (id : PacketId) (client : ClientId) (on : Object) (right : Right) → held first all queue id client on right ≡ true → list_any (is_packet queue id) (flight first all) ≡ true
  unfolding held flight
  held-flies-whole queue id client on right has_it = flies-along first queue id client on right [] false [] all (λ no. absurd cc) has_it

  -- a packet that holds a right is in flight
  pub held-flies : (queue : QueueId) (id : PacketId) (client : ClientId) (on : Object) (right : Right) → held s es queue id client on right ≡ true → list_any (is_packet queue id) (flight s es) ≡ true
  held-flies queue id client on right =
      subst (λ (now : Start). now.held queue id client on right ≡ true → list_any (is_packet queue id) now.flight ≡ true) same-state (held-flies-whole queue id client on right)

  no-arguments-whole : (queue : QueueId) (id : PacketId) → list_any (is_packet queue id) (flight first all) ≡ false → arguments first all queue id ≡ []
  unfolding arguments flight
  no-arguments-whole queue id none = none-along first queue id [] [] [] all (λ no. refl) none

  -- a packet that isn't in flight has no arguments
  pub no-arguments : (queue : QueueId) (id : PacketId) → list_any (is_packet queue id) (flight s es) ≡ false → arguments s es queue id ≡ []
  no-arguments queue id =
      subst (λ (now : Start). list_any (is_packet queue id) now.flight ≡ false → now.arguments queue id ≡ []) same-state (no-arguments-whole queue id)

  module _ (queue : QueueId) (id : PacketId) (f : InFlight) (found : in_flight s es queue id ≡ Some f) where
    pub found-whole : in_flight first all queue id ≡ Some f
    found-whole = ap (λ (now : Start). find (is_packet queue id) now.flight) same-state ∙ found

    -- it was launched in the whole history, and what it holds is in force
    pub launch-whole : HoldsInForce first all f
    launch-whole = found-all (HoldsInForce first all) (is_packet queue id) (flight first all) f (holding-legal first all legal.whole) found-whole

    -- and so is what it holds, for the owner of its queue
    pub granted-now : (opening : Opening) × (owner s es queue ≡ Some opening) × AllInForce s es opening.client (own_rights s es queue id)
    granted-now =
        let named = named-found first all queue id f found-whole in
        let opening = launch-whole.launch.opening in
        let owned : owner first all queue ≡ Some opening = subst (λ q. owner first all q ≡ Some opening) named.0 launch-whole.owner_is in
        let own : AllInForce first all opening.client (own_rights first all queue id) =
        λ on right has_it. launch-whole.holds on right
        (subst (λ q. held first all q f.id opening.client on right ≡ true) (sym named.0)
        (subst (λ i. held first all queue i opening.client on right ≡ true) (sym named.1)
        (sym (ap (λ (o : Option Opening). elim o [ None ↦ false | Some owning ↦ held first all queue id owning.client on right ]) owned) ∙ has_it))) in (
          opening,
          ap (λ (now : Start). opening_in now.openings.queues queue) (sym same-state) ∙ owned,
          subst (λ (now : Start). (on : Object) (right : Right) → (elim (opening_in now.openings.queues queue) [ None ↦ false | Some owning ↦ now.held queue id owning.client on right ]) ≡ true
              → now.in_force opening.client on right ≡ true) same-state own,
        )
