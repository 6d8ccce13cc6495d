-- What packets in flight hold is in force: no revocation takes what one of them holds.
use Rattle.std.proofs.Common.{◌≡◌, ℕ, ◌<◌, List, [], ◌∷◌, ◌++◌, refl, sym, ◌∙◌, ap, subst, Bool, true, false, Option, Some, None, arith, append_assoc}
use Rattle.std.specs.Prelude.{All, get_or, option_map, filter, map, not, ◌&&◌, ◌||◌, ◌==◌, if◌then◌else◌}
use Rattle.std.specs.List.{flat_map, list_all, list_any}
use Rattle.std.proofs.lemmas.Bool.{and_from, and_parts, eq-eqb, eqb-true}
use Rattle.std.proofs.lemmas.List.Elements.{All-nil, All-cons, All-head, All-tail, All-append, All-map, All-weaker}
use Rattle.aql_packet.specs.declared.ids.ClientId.{ClientId}
use Rattle.aql_packet.specs.declared.ids.QueueId.{QueueId}
use Rattle.aql_packet.specs.declared.ids.PacketId.{PacketId}
use Rattle.aql_packet.specs.declared.packet.Packet.{Packet}
use Rattle.aql_packet.specs.declared.packet.Packet.TheVariants as packet
use Rattle.regions.specs.Memory.{lies_in_region, region_of}
use Rattle.aql_packet.specs.Reading.{decoded}
use Rattle.policy.specs.Policy.{region_lengths, rules_of}
use Rattle.policy.specs.declared.object.Object.{Object}
use Rattle.policy.specs.declared.object.Object.TheVariants as object
use Rattle.policy.specs.declared.rights.Right.{Right}
use Rattle.policy.specs.declared.rights.Rights.{Rights}
use Rattle.policy.specs.Object.{same_object}
use Rattle.policy.specs.Rights.{all_rights, bit_of, has}
use Rattle.queue_error.specs.declared.rule.Rule.{Rule}
use Rattle.queue_error.specs.declared.rule.Rule.TheVariants as rule
use Rattle.core_model.specs.declared.event.Event.{Event}
use Rattle.core_model.specs.declared.event.Event.TheVariants.{Open, Take, Reload, Call}
use Rattle.core_model.specs.declared.call.Call.TheVariants.{Grant, Revoke, Stop, Close, RunNext, Poll, Finish, HostWrite, ChangeSignal}
use Rattle.core_model.specs.declared.outcome.Outcome.TheVariants as outcome
use Rattle.core_model.specs.declared.outcome.Taken.TheVariants.{Launched}
use Rattle.core_model.specs.declared.entry.Effect.{Effect}
use Rattle.core_model.specs.declared.entry.Entry.{Entry}
use Rattle.core_model.specs.declared.flight.InFlight.{InFlight}
use Rattle.core_model.specs.declared.need.Need.{Need}
use Rattle.core_model.specs.History.{Start, opening_state}
use Rattle.policy.specs.Pairs.{is_one_of}
use Rattle.core_model.specs.Grants.{in_force, in_force_after}
use Rattle.core_model.specs.Queues.{Opening, closes_queue, owner, next_id}
use Rattle.core_model.specs.Flight.{flight, in_flight, is_packet, launched_by, releases, releases_packet}
use Rattle.core_model.specs.Needs.{needs, object_of}
use Rattle.core_model.specs.LaunchRules.{Facts, holds_rule, need_is_met, launch_rules, lies_whole}
use Rattle.core_model.specs.Kernels.{argument_block, kernel_of, wide_arguments}
use Rattle.core_model.specs.Holds.{ObjectRight, all_in_force, along, arguments, arguments_if, arguments_of, held, held_after, right_needed, rights_at_launch, gives, own_rights, held_by_arguments, held_by_needs, held_by_pointer, is_among, is_launch, holds_denied, holds_one_of, is_up_to, least_in_flight}
use Rattle.core_model.specs.Owed.{owed, enters, facts_of}
use Rattle.core_model.specs.Legal.{IsWhole, entry_of}
use Rattle.core_model.specs.Headline.{AllInForce, HasItsRights, HoldsInForce, InFlightSince, Launch}
use Rattle.core_model.proofs.Lists.{filter-passes, found-all, none-passes, all-from_list_all, all-left, all-right}
use Rattle.core_model.proofs.More.{arguments-more, held-more, in_force-more}
use Rattle.core_model.proofs.Openings.{owner-more}
use Rattle.core_model.proofs.Closing.{all-unclosed}
use Rattle.core_model.proofs.Launches.{IsNext-from_owed, below-open, launched_by-is, was_launched}
use Rattle.core_model.proofs.Viewing.{among-granted}
use Rattle.policy.proofs.PairLemmas.{same_object_is}
use Rattle.std.proofs.lemmas.List.Folds.{list_any-append}
use Rattle.core_model.proofs.Flying.{flying-legal}
use Rattle.core_model.proofs.Entered.{named-found, reload-effects, revoke-effects}
use Rattle.core_model.proofs.Declared.{any-object, any-right, known-legal}
use Rattle.policy.specs.declared.rows.PolicyRows.{PolicyRows}
use Rattle.policy.specs.Rules.{count, rows_allow}
use Rattle.policy.specs.Listing.{all_objects}
use Rattle.core_model.proofs.Launching.{launch-granted, has-rights, needs-met}

-- ---- a packet that wasn't launched holds nothing

module _ (start : Start) (queue : QueueId) (id : PacketId) (client : ClientId) (on : Object) (right : Right) where
  none-along : (before es : List Entry) → was_launched es queue id ≡ false → along (held_after start queue id client on right) before false es ≡ false
  none-along before [] none = refl
  none-along before (e ∷ es) none = by_test (is_launch queue id (launched_by e.event e.outcome)) refl (none-along (before ++ e ∷ []) es)
    where
      by_test : (b : Bool) → is_launch queue id (launched_by e.event e.outcome) ≡ b → (was_launched es queue id ≡ false → along (held_after start queue id client on right) (before ++ e ∷ []) false es ≡ false)
          → along (held_after start queue id client on right) before false (e ∷ es) ≡ false
      by_test true is rest = absurd (cc (rw is at none))
      by_test false is rest = rw is (rest (rw is at none))

  pub held-none : start ≡ opening_state start.policy start.kernels → (es : List Entry) → was_launched es queue id ≡ false → held start es queue id client on right ≡ false
  unfolding held
  held-none opens es none =
      ap (λ (s : Start). along (held_after start queue id client on right) [] (s.held queue id client on right) es) opens ∙ none-along [] es none

-- ---- the least of some packets

up_to-itself : (f : InFlight) → is_up_to f f ≡ true
up_to-itself f = grind arith

up_to-turned : (f g : InFlight) → is_up_to f g ≡ false → is_up_to g f ≡ true
up_to-turned f g not_up = grind arith

up_to-through : (f g h : InFlight) → is_up_to f g ≡ true → is_up_to g h ≡ true → is_up_to f h ≡ true
up_to-through f g h one two = grind arith

module _ (Q : InFlight → Type 0) where
  -- one of some packets that comes up to each
  record Lowest (fs : List InFlight) : Type 0 where
    pub one : InFlight
    pub holds : Q one
    pub up_to : list_all (is_up_to one) fs ≡ true

  through-all : (f g : InFlight) (fs : List InFlight) → is_up_to f g ≡ true → list_all (is_up_to g) fs ≡ true → list_all (is_up_to f) fs ≡ true
  through-all f g [] up all = refl
  through-all f g (h ∷ hs) up all =
      let both = and_parts (is_up_to g h) (list_all (is_up_to g) hs) all in
      and_from _ _ (up_to-through f g h up both.0) (through-all f g hs up both.1)

  lowest-of : (f : InFlight) (fs : List InFlight) → All Q (f ∷ fs) → Lowest (f ∷ fs)
  lowest-of f [] all = record { one = f; holds = All-head Q f [] all; up_to = and_from _ _ (up_to-itself f) refl }
  lowest-of f (g ∷ gs) all =
      let rest = lowest-of g gs (All-tail Q f (g ∷ gs) all) in
      lower rest (is_up_to f rest.one) refl
    where
      lower : (rest : Lowest (g ∷ gs)) (b : Bool) → is_up_to f rest.one ≡ b → Lowest (f ∷ g ∷ gs)
      lower rest true up = record { one = f; holds = All-head Q f (g ∷ gs) all; up_to = and_from _ _ (up_to-itself f) (through-all f rest.one (g ∷ gs) up rest.up_to) }
      lower rest false up = record { one = rest.one; holds = rest.holds; up_to = and_from _ _ (up_to-turned f rest.one up) rest.up_to }

-- where there is no least one, there is none
pub least-none : (fs : List InFlight) → least_in_flight fs ≡ None → fs ≡ []
least-none [] none = refl
least-none (f ∷ fs) none =
    let lowest = lowest-of (λ m. list_all (is_up_to m) (f ∷ fs) ≡ false) f fs (none-passes (λ m. list_all (is_up_to m) (f ∷ fs)) (f ∷ fs) none) in
    let up = lowest.up_to in
    let down = lowest.holds in
    absurd cc

pub filtered-none : (test : InFlight → Bool) (fs : List InFlight) → filter test fs ≡ [] → All (λ f. test f ≡ false) fs
filtered-none test [] none = All-nil (λ f. test f ≡ false)
filtered-none test (f ∷ fs) none = by_test (test f) refl none (filtered-none test fs)
  where
    by_test : (b : Bool) → test f ≡ b → (if b then f ∷ filter test fs else filter test fs) ≡ [] → (filter test fs ≡ [] → All (λ g. test g ≡ false) fs) → All (λ g. test g ≡ false) (f ∷ fs)
    by_test true is same more = absurd cc
    by_test false is same more = All-cons (λ g. test g ≡ false) f fs is (more same)

-- ---- a revocation that was made names nothing that is held

object-itself : (on : Object) → same_object on on ≡ true
object-itself (object.Agent a) = eq-eqb a.0 a.0 refl
object-itself (object.Region a) = eq-eqb a.0 a.0 refl
object-itself (object.Signal a) = eq-eqb a.0 a.0 refl
object-itself (object.Kernel a) = eq-eqb a.0 a.0 refl

-- each right of a list is among it
all-among : (hs : List ObjectRight) → All (λ h. is_among hs h.0 h.1 ≡ true) hs
all-among [] = All-nil _
all-among (h ∷ hs) =
    All-cons (λ g. is_among (h ∷ hs) g.0 g.1 ≡ true) h hs (rw (and_from _ _ (object-itself h.0) (eq-eqb (bit_of h.1) (bit_of h.1) refl)) refl)
    (All-weaker (λ g. is_among hs g.0 g.1 ≡ true) (λ g. is_among (h ∷ hs) g.0 g.1 ≡ true) (λ g is. or-right (same_object g.0 h.0 && (bit_of h.1 == bit_of g.1)) _ is) hs (all-among hs))
  where
    or-right : (a b : Bool) → b ≡ true → (a || b) ≡ true
    or-right true b is = refl
    or-right false b is = is

-- rights that are in force stay so where none of them is named
unnamed-stay : (client named : ClientId) (on : Object) (rights : Rights) (before : Object → Right → Bool) (hs : List ObjectRight) →
    (client.0 == named.0 && list_any (λ one. has rights one && is_among hs on one) all_rights) ≡ false → All (λ h. before h.0 h.1 ≡ true) hs →
    All (λ h. (before h.0 h.1 && not (is_one_of client h.0 h.1 named on rights)) ≡ true) hs
unnamed-stay client named on rights before hs none all = λ k d below. stays (get_or hs k d) (all k d below) (all-among hs k d below)
  where
    stays : (h : ObjectRight) → before h.0 h.1 ≡ true → is_among hs h.0 h.1 ≡ true → (before h.0 h.1 && not (is_one_of client h.0 h.1 named on rights)) ≡ true
    stays h is here = by_test (is_one_of client h.0 h.1 named on rights) refl
      where
        by_test : (b : Bool) → is_one_of client h.0 h.1 named on rights ≡ b → (before h.0 h.1 && not (is_one_of client h.0 h.1 named on rights)) ≡ true
        by_test false other = rw (is, other) refl
        by_test true names =
            let rest = and_parts (client.0 == named.0 && same_object h.0 on) (has rights h.1) names in
            let both = and_parts (client.0 == named.0) (same_object h.0 on) rest.0 in
            let on_is : h.0 ≡ on = same_object_is h.0 on both.1 in
            let held_so : is_among hs on h.1 ≡ true = subst (λ o. is_among hs o h.1 ≡ true) on_is here in
            let some : list_any (λ one. has rights one && is_among hs on one) all_rights ≡ true = any-right (λ one. has rights one && is_among hs on one) h.1 (and_from _ _ rest.1 held_so) in
            let whole : (client.0 == named.0 && list_any (λ one. has rights one && is_among hs on one) all_rights) ≡ true = and_from _ _ both.0 some in
            absurd cc

-- ---- what a packet in flight holds is in force

-- a packet was launched as what it is, holds what its launch gave it, and all of it is in force for the owner of its queue
pub record HoldsNow (start : Start) (es : List Entry) (f : InFlight) : Type 0 where
  pub launch : Launch start es f.queue f.id
  pub packet_is : launch.packet ≡ f.packet
  pub owner_is : owner start es f.queue ≡ Some launch.opening
  pub held_is : (client : ClientId) (on : Object) (right : Right) →
      held start es f.queue f.id client on right ≡ (launch.opening.client.0 == client.0 && is_among (rights_at_launch start launch.before launch.opening f.packet) on right)
  pub arguments_are : arguments start es f.queue f.id ≡ arguments_of start launch.before f.packet
  pub granted_then : All (λ h. in_force start launch.before launch.opening.client h.0 h.1 ≡ true) (rights_at_launch start launch.before launch.opening f.packet)
  pub granted : All (λ h. in_force start es launch.opening.client h.0 h.1 ≡ true) (rights_at_launch start launch.before launch.opening f.packet)

module _ (start : Start) (es : List Entry) (e : Entry) where
  abbrev later : List Entry
  later = es ++ e ∷ []

  abbrev launch-more : (queue : QueueId) (id : PacketId) → Launch start es queue id → Launch start later queue id
  launch-more queue id l = record {
    before = l.before;
    bytes = l.bytes;
    opening = l.opening;
    packet = l.packet;
    place = record { after = l.place.after ++ e ∷ []; whole = ap (λ all. all ++ e ∷ []) l.place.whole ∙ append_assoc l.before _ (e ∷ []) };
    allowed = l.allowed;
  }

  pub was-launched : (queue : QueueId) (id : PacketId) → Launch start es queue id → was_launched es queue id ≡ true
  was-launched queue id l =
      let entry = entry_of (Take queue id l.bytes) (outcome.Taken Launched) [] in
      let read : launched_by (Take queue id l.bytes) (outcome.Taken Launched) ≡ Some (record { queue = queue; id = id; packet = l.packet }) =
      ap (option_map (λ p. record { queue = queue; id = id; packet = p })) l.allowed.is_read in
      let itself : is_packet queue id (record { queue = queue; id = id; packet = l.packet }) ≡ true = and_from _ _ (eq-eqb queue.0 queue.0 refl) (eq-eqb id.0 id.0 refl) in
      let here : is_launch queue id (launched_by (Take queue id l.bytes) (outcome.Taken Launched)) ≡ true = rw read itself in
      ap (λ (all : List Entry). was_launched all queue id) l.place.whole
      ∙ list_any-append (λ (x : Entry). is_launch queue id (launched_by x.event x.outcome)) l.before (entry ∷ l.place.after)
      ∙ (rw here (or-true (was_launched l.before queue id)))
    where
      or-true : (b : Bool) → (b || true) ≡ true
      or-true true = refl
      or-true false = refl

  -- a packet that was launched isn't launched again
  pub launched-once : IsWhole start es → owed start es e.event ≡ enters e.outcome e.effects → (queue : QueueId) (id : PacketId) → was_launched es queue id ≡ true → is_launch queue id (launched_by e.event e.outcome) ≡ false
  launched-once legal owing queue id was = by_launch (launched_by e.event e.outcome) refl
    where
      by_launch : (o : Option InFlight) → launched_by e.event e.outcome ≡ o → is_launch queue id o ≡ false
      by_launch None is = refl
      by_launch (Some g) is = by_test (is_packet queue id g) refl
        where
          by_test : (b : Bool) → is_packet queue id g ≡ b → is_packet queue id g ≡ false
          by_test false other = other
          by_test true same =
              let both = and_parts (g.queue.0 == queue.0) _ same in
              let queue_is : g.queue ≡ queue = ap (λ n. record { 0 = n }) (eqb-true _ _ both.0) in
              let id_is : g.id.0 ≡ id.0 = eqb-true _ _ both.1 in
              let launch = launched_by-is e.event e.outcome g is in
              let next = IsNext-from_owed start es g.queue g.id launch.bytes e.outcome e.effects (rw launch.event_is at owing) in
              let next_is : g.id.0 ≡ next_id start es queue = subst (λ q. g.id.0 ≡ next_id start es q) queue_is next.id_is in
              let below : id.0 < next_id start es queue = below-open start es legal queue id next.opening (subst (λ q. owner start es q ≡ Some next.opening) queue_is next.owner_is) was in
              absurd (omega arith)

  -- a packet holds what it held, unless an entry launches or releases it
  pub held-kept : (queue : QueueId) (id : PacketId) → is_launch queue id (launched_by e.event e.outcome) ≡ false → list_any (releases queue id) e.effects ≡ false →
      (client : ClientId) (on : Object) (right : Right) → held start later queue id client on right ≡ held start es queue id client on right
  held-kept queue id none stays client on right = held-more start es e queue id client on right ∙ (rw (none, stays) (same (held start es queue id client on right)))
    where
      same : (b : Bool) → ((b || false) && true) ≡ b
      same true = refl
      same false = refl

  pub arguments-kept : (queue : QueueId) (id : PacketId) → is_launch queue id (launched_by e.event e.outcome) ≡ false → list_any (releases queue id) e.effects ≡ false → arguments start later queue id ≡ arguments start es queue id
  arguments-kept queue id none stays = arguments-more start es e queue id ∙ (rw (stays, none) refl)

  -- one entry more, after which the rights are in force yet
  holds-more : IsWhole start es → owed start es e.event ≡ enters e.outcome e.effects → (f : InFlight) (h : HoldsNow start es f) → closes_queue f.queue e.event ≡ false → list_any (releases_packet f) e.effects ≡ false →
      All (λ g. in_force_after h.launch.opening.client g.0 g.1 (in_force start es h.launch.opening.client g.0 g.1) e.event ≡ true) (rights_at_launch start h.launch.before h.launch.opening f.packet) → HoldsNow start later f
  holds-more legal owing f h unclosed stays in_force_yet =
      let none = launched-once legal owing f.queue f.id (was-launched f.queue f.id h.launch) in
      record {
        launch = launch-more f.queue f.id h.launch;
        packet_is = h.packet_is;
        owner_is = owner-more start es e f.queue h.launch.opening unclosed h.owner_is;
        held_is = λ client on right. held-kept f.queue f.id none stays client on right ∙ h.held_is client on right;
        arguments_are = arguments-kept f.queue f.id none stays ∙ h.arguments_are;
        granted_then = h.granted_then;
        granted = All-weaker (λ g. in_force_after h.launch.opening.client g.0 g.1 (in_force start es h.launch.opening.client g.0 g.1) e.event ≡ true) (λ g. in_force start later h.launch.opening.client g.0 g.1 ≡ true)
            (λ g is. in_force-more start es e h.launch.opening.client g.0 g.1 ∙ is) (rights_at_launch start h.launch.before h.launch.opening f.packet) in_force_yet;
      }

  -- what an event does to rights in force that are held by none that it names
  kept-by : IsWhole start es → (event : Event) (f : InFlight) (h : HoldsNow start es f) → ((rows : PolicyRows) → event ≡ Reload rows → holds_denied start es rows f ≡ false) →
      ((client : ClientId) (on : Object) (rights : Rights) → event ≡ Call (Revoke client on rights) → holds_one_of start es client on rights f ≡ false) →
      All (λ g. in_force_after h.launch.opening.client g.0 g.1 (in_force start es h.launch.opening.client g.0 g.1) event ≡ true) (rights_at_launch start h.launch.before h.launch.opening f.packet)
  kept-by legal (Call (Grant c o rights)) f h free none =
      All-weaker (λ g. in_force start es h.launch.opening.client g.0 g.1 ≡ true) (λ g. (in_force start es h.launch.opening.client g.0 g.1 || is_one_of h.launch.opening.client g.0 g.1 c o rights) ≡ true)
      (λ g is. rw is refl) (rights_at_launch start h.launch.before h.launch.opening f.packet) h.granted
  kept-by legal (Call (Revoke c o rights)) f h free none =
      unnamed-stay h.launch.opening.client c o rights (in_force start es h.launch.opening.client) (rights_at_launch start h.launch.before h.launch.opening f.packet)
      (sym (any-own (h.launch.opening.client.0 == c.0) (is_among (rights_at_launch start h.launch.before h.launch.opening f.packet) o) all_rights)
      ∙ sym (λ i. list_any (λ one. has rights one && h.held_is c o one i) all_rights) ∙ none c o rights refl) h.granted
    where
      any-own : (own : Bool) (test : Right → Bool) (all : List Right) → list_any (λ one. has rights one && (own && test one)) all ≡ (own && list_any (λ one. has rights one && test one) all)
      any-own own test [] = grind arith
      any-own own test (one ∷ more) = grind (arith, any-own own test more)
  kept-by legal (Open _ _ _) f h free none = h.granted
  kept-by legal (Call (Stop _)) f h free none = h.granted
  kept-by legal (Call (Close _)) f h free none = h.granted
  kept-by legal (Take _ _ _) f h free none = h.granted
  kept-by legal (Call (RunNext _ _)) f h free none = h.granted
  kept-by legal (Call (Poll _ _)) f h free none = h.granted
  kept-by legal (Call (Finish _ _)) f h free none = h.granted
  kept-by legal (Call (HostWrite _ _ _)) f h free none = h.granted
  kept-by legal (Call (ChangeSignal _ _ _)) f h free none = h.granted
  kept-by legal (Reload rows) f h free none = λ k d below.
      let g = get_or (rights_at_launch start h.launch.before h.launch.opening f.packet) k d in
      allowed g (h.granted k d below) (all-among (rights_at_launch start h.launch.before h.launch.opening f.packet) k d below) (rows_allow rows h.launch.opening.client g.0 g.1) refl
    where
      client : ClientId
      client = h.launch.opening.client

      denied : Object → Right → Bool
      denied on right = held start es f.queue f.id client on right && not (rows_allow rows client on right)

      allowed : (g : ObjectRight) → in_force start es client g.0 g.1 ≡ true → is_among (rights_at_launch start h.launch.before h.launch.opening f.packet) g.0 g.1 ≡ true → (b : Bool) → rows_allow rows client g.0 g.1 ≡ b →
          (in_force start es client g.0 g.1 && rows_allow rows client g.0 g.1) ≡ true
      allowed g granted here true covers = and_from _ _ granted covers
      allowed g granted here false covers =
          let holds_it : held start es f.queue f.id client g.0 g.1 ≡ true = h.held_is client g.0 g.1 ∙ and_from _ _ (eq-eqb client.0 client.0 refl) here in
          let one : denied g.0 g.1 ≡ true = and_from _ _ holds_it (ap not covers) in
          let some : list_any (λ on. list_any (denied on) all_rights) (all_objects (count (rules_of start.policy))) ≡ true =
          any-object (count (rules_of start.policy)) (λ on. list_any (denied on) all_rights) g.0 (known-legal start client g.0 g.1 es legal granted) (any-right (denied g.0) g.1 one) in
          let whole : holds_denied start es rows f ≡ true =
          ap (λ (o : Option Opening). elim o [
            | None ↦ false
            | Some opening ↦ list_any (λ on. list_any (λ right. held start es f.queue f.id opening.client on right && not (rows_allow rows opening.client on right)) all_rights) (all_objects (count (rules_of start.policy)))
          ]) h.owner_is ∙ some in
          let none_so = free rows refl in
          absurd cc

  -- a revocation that was made names nothing that a packet in flight holds
  unheld : owed start es e.event ≡ enters e.outcome e.effects → (client : ClientId) (on : Object) (rights : Rights) → e.event ≡ Call (Revoke client on rights) →
      All (λ f. holds_one_of start es client on rights f ≡ false) (flight start es)
  unheld owing client on rights is =
      let revoked = revoke-effects start es e.outcome e.effects client on rights (rw is at owing) in
      filtered-none (holds_one_of start es client on rights) (flight start es) (least-none _ revoked.unheld)

  unblocked : owed start es e.event ≡ enters e.outcome e.effects → (rows : PolicyRows) → e.event ≡ Reload rows → All (λ f. holds_denied start es rows f ≡ false) (flight start es)
  unblocked owing rows is =
      let reloaded = reload-effects start es e.outcome e.effects rows (rw is at owing) in
      filtered-none (holds_denied start es rows) (flight start es) (least-none _ reloaded.unheld)

  more : IsWhole start es → owed start es e.event ≡ enters e.outcome e.effects → All (HoldsNow start es) (flight start es) → All (λ f. list_any (releases_packet f) e.effects ≡ false → HoldsNow start later f) (flight start es)
  more legal owing all k d below stays =
      let h = all k d below in
      holds-more legal owing _ h (all-unclosed start es e owing k d below stays) stays (kept-by legal e.event _ h (λ rows is. unblocked owing rows is k d below) (λ client on rights is. unheld owing client on rights is k d below))

  -- ---- at its launch

  rights-met : (facts : Facts) (needed : List Need) → list_all (need_is_met facts) needed ≡ true → All (λ h. facts.in_force h.0 h.1 ≡ true) (map right_needed needed)
  rights-met facts needed met =
      All-map (λ h. facts.in_force h.0 h.1 ≡ true) right_needed needed
      (All-weaker (λ n. need_is_met facts n ≡ true) (λ n. facts.in_force (object_of n.subject) n.right ≡ true) (λ n is. (and_parts (lies_whole facts.lengths n.subject) _ is).1) needed (all-from_list_all (need_is_met facts) needed met))

  rules-met : (facts : Facts) (p : Packet) (rules : List Rule) → ((r : Rule) → list_all (need_is_met facts) (needs r facts.agent p) ≡ true) → All (λ h. facts.in_force h.0 h.1 ≡ true) (flat_map (λ r. map right_needed (needs r facts.agent p)) rules)
  rules-met facts p [] each = All-nil _
  rules-met facts p (r ∷ rules) each = All-append (λ h. facts.in_force h.0 h.1 ≡ true) _ _ (rights-met facts (needs r facts.agent p) (each r)) (rules-met facts p rules each)

  -- what arguments have a packet hold is in force
  object-met : (client : ClientId) (on : Object) → All (λ h. in_force start es client h.0 h.1 ≡ true) (all_in_force (in_force start es client) on)
  object-met client on = All-map (λ h. in_force start es client h.0 h.1 ≡ true) (λ right. (on, right)) _ (filter-passes (in_force start es client on) all_rights)

  pointer-met : (client : ClientId) (address : ℕ) → All (λ h. in_force start es client h.0 h.1 ≡ true) (held_by_pointer (in_force start es client) (region_lengths start.policy) address)
  pointer-met client address = by_test (lies_in_region (region_lengths start.policy) address)
    where
      by_test : (b : Bool) → All (λ h. in_force start es client h.0 h.1 ≡ true) (if b then all_in_force (in_force start es client) (object.Region (record { 0 = region_of address })) else [])
      by_test true = object-met client (object.Region (record { 0 = region_of address }))
      by_test false = All-nil _

  pointers-met : (client : ClientId) (addresses : List ℕ) → All (λ h. in_force start es client h.0 h.1 ≡ true) (flat_map (held_by_pointer (in_force start es client) (region_lengths start.policy)) addresses)
  pointers-met client [] = All-nil _
  pointers-met client (x ∷ xs) = All-append (λ h. in_force start es client h.0 h.1 ≡ true) _ _ (pointer-met client x) (pointers-met client xs)

  pub arguments-held : (client : ClientId) (p : Packet) → All (λ h. in_force start es client h.0 h.1 ≡ true) (held_by_arguments start es client p)
  arguments-held client (packet.Kernel d) = pointers-met client (wide_arguments (kernel_of start d).wide (argument_block start es d))
  arguments-held client (packet.Agent _) = All-nil _
  arguments-held client (packet.BarrierAnd _) = All-nil _
  arguments-held client (packet.BarrierOr _) = All-nil _

  -- what a launch gives
  given : (opening : Opening) (f : InFlight) → is_packet f.queue f.id f ≡ true → (client : ClientId) (on : Object) (right : Right) (was : Bool) (o : Option InFlight) (owned : Option Opening) (effects : List Effect) →
      was ≡ false → o ≡ Some f → owned ≡ Some opening → effects ≡ [] →
      ((was || (is_launch f.queue f.id o && gives start es client on right owned o)) && not (list_any (releases f.queue f.id) effects))
      ≡ (opening.client.0 == client.0 && is_among (rights_at_launch start es opening f.packet) on right)
  given opening f itself client on right was o owned effects none launches owner_is nothing =
      rw (none, launches, owner_is, nothing, itself) (plain (opening.client.0 == client.0 && is_among (rights_at_launch start es opening f.packet) on right))
    where
      plain : (b : Bool) → (b && true) ≡ b
      plain true = refl
      plain false = refl

  given-arguments : (f : InFlight) → is_packet f.queue f.id f ≡ true → (was : List ℕ) (o : Option InFlight) (effects : List Effect) → o ≡ Some f → effects ≡ [] →
      (if list_any (releases f.queue f.id) effects then [] else if is_launch f.queue f.id o then arguments_if start es o else was) ≡ arguments_of start es f.packet
  given-arguments f itself was o effects launches nothing = rw (launches, nothing, itself) refl

  -- whatever packet a launch is told of, it holds what its launch gives it
  launched : IsWhole start es → owed start es e.event ≡ enters e.outcome e.effects → (f : InFlight) → launched_by e.event e.outcome ≡ Some f → HoldsNow start later f
  launched legal owing f launches =
      let launch = launched_by-is e.event e.outcome f launches in
      let event_is = launch.event_is in
      let outcome_is = launch.outcome_is in
      let granted = launch-granted start es f.queue f.id launch.bytes e.effects (sym (ap (owed start es) event_is) ∙ owing ∙ ap (λ o. enters o e.effects) outcome_is) in
      let opening = granted.opening in
      let packet_is : granted.packet ≡ f.packet = one-packet (decoded launch.bytes) granted.packet f.packet granted.allowed.is_read launch.reads in
      let entry_is : e ≡ entry_of (Take f.queue f.id launch.bytes) (outcome.Taken Launched) [] = λ i. record { event = event_is i; outcome = outcome_is i; effects = granted.effects_are i } in
      let none : was_launched es f.queue f.id ≡ false = by_test opening granted.allowed.owner_is (was_launched es f.queue f.id) refl granted.allowed.id_is_next in
      let itself : is_packet f.queue f.id f ≡ true = and_from _ _ (eq-eqb f.queue.0 f.queue.0 refl) (eq-eqb f.id.0 f.id.0 refl) in
      let facts : Facts = facts_of start es opening in
      let needed = rules-met facts granted.packet launch_rules (needs-met facts launch.bytes granted.packet granted.allowed.every_rule) in
      let met : All (λ h. in_force start es opening.client h.0 h.1 ≡ true) (rights_at_launch start es opening granted.packet) =
      All-append (λ h. in_force start es opening.client h.0 h.1 ≡ true) (held_by_needs opening granted.packet) (held_by_arguments start es opening.client granted.packet) needed (arguments-held opening.client granted.packet) in
      record {
        launch = record { before = es; bytes = launch.bytes; opening = opening; packet = granted.packet; place = record { after = []; whole = ap (λ x. es ++ x ∷ []) entry_is }; allowed = granted.allowed };
        packet_is = packet_is;
        owner_is = owner-more start es e f.queue opening (ap (closes_queue f.queue) event_is) granted.allowed.owner_is;
        held_is = λ client on right. held-more start es e f.queue f.id client on right ∙ given opening f itself client on right _ _ _ _ (held-none start f.queue f.id client on right legal.opens es none) launches granted.allowed.owner_is granted.effects_are;
        arguments_are = arguments-more start es e f.queue f.id ∙ given-arguments f itself (arguments start es f.queue f.id) _ _ launches granted.effects_are;
        granted_then = subst (λ q. All (λ h. in_force start es opening.client h.0 h.1 ≡ true) (rights_at_launch start es opening q)) packet_is met;
        granted = subst (λ q. All (λ h. in_force start later opening.client h.0 h.1 ≡ true) (rights_at_launch start es opening q)) packet_is
            (All-weaker (λ h. in_force start es opening.client h.0 h.1 ≡ true) (λ h. in_force start later opening.client h.0 h.1 ≡ true)
            (λ h here. in_force-more start es e opening.client h.0 h.1 ∙ ap (in_force_after opening.client h.0 h.1 (in_force start es opening.client h.0 h.1)) event_is ∙ here) (rights_at_launch start es opening granted.packet) met);
      }
    where
      one-packet : (o : Option Packet) (p q : Packet) → o ≡ Some p → o ≡ Some q → p ≡ q
      one-packet o p q one other = let same : Some p ≡ Some q = sym one ∙ other in cc

      by_test : (opening : Opening) → owner start es f.queue ≡ Some opening → (b : Bool) → was_launched es f.queue f.id ≡ b → f.id.0 ≡ next_id start es f.queue → was_launched es f.queue f.id ≡ false
      by_test opening owned true was at = let below : f.id.0 < next_id start es f.queue = below-open start es legal f.queue f.id opening owned was in absurd (omega arith)
      by_test opening owned false was at = was

module _ (start : Start) (es : List Entry) (legal : IsWhole start es) where
  holding : All (HoldsNow start es) (flight start es)
  holding = flying-legal start (HoldsNow start) (more start) (launched start) es legal

  -- ---- the rights of a packet in flight, now

  -- needs that were met are met while the rights are in force
  met-yet : (client : ClientId) (facts : Facts) (needed : List Need) → list_all (need_is_met facts) needed ≡ true → All (λ h. in_force start es client h.0 h.1 ≡ true) (map right_needed needed) →
      list_all (need_is_met (record facts { in_force = in_force start es client })) needed ≡ true
  met-yet client facts [] met all = refl
  met-yet client facts (n ∷ ns) met all =
      let both = and_parts (need_is_met facts n) (list_all (need_is_met facts) ns) met in
      let whole = and_parts (lies_whole facts.lengths n.subject) _ both.0 in
      and_from _ _ (and_from _ _ whole.0 (All-head (λ h. in_force start es client h.0 h.1 ≡ true) (right_needed n) (map right_needed ns) all))
      (met-yet client facts ns both.1 (All-tail (λ h. in_force start es client h.0 h.1 ≡ true) (right_needed n) (map right_needed ns) all))

  rights-now : (queue : QueueId) (id : PacketId) (p : Packet) (l : Launch start es queue id) → l.packet ≡ p →
      All (λ h. in_force start es l.opening.client h.0 h.1 ≡ true) (rights_at_launch start l.before l.opening p) → HasItsRights start es l.opening p
  rights-now queue id p l packet_is granted = has-rights start es l.opening p each
    where
      Granted : ObjectRight → Type 0
      Granted g = in_force start es l.opening.client g.0 g.1 ≡ true

      asks : Rule → List ObjectRight
      asks r = map right_needed (needs r l.opening.agent p)

      at_launch : (r : Rule) → list_all (need_is_met (facts_of start l.before l.opening)) (needs r l.opening.agent p) ≡ true
      at_launch r = needs-met (facts_of start l.before l.opening) l.bytes p (subst (λ q. All (λ s. holds_rule (facts_of start l.before l.opening) l.bytes q s ≡ true) launch_rules) packet_is l.allowed.every_rule) r

      yet : (r : Rule) → All Granted (asks r) → list_all (need_is_met (facts_of start es l.opening)) (needs r l.opening.agent p) ≡ true
      yet r all = met-yet l.opening.client (facts_of start l.before l.opening) (needs r l.opening.agent p) (at_launch r) all

      needed : All Granted (held_by_needs l.opening p)
      needed = all-left Granted (held_by_needs l.opening p) (held_by_arguments start l.before l.opening.client p) granted

      from_6 : All Granted (asks rule.L6 ++ (asks rule.L8 ++ (asks rule.L9 ++ (asks rule.L10 ++ []))))
      from_6 = all-right Granted (asks rule.L4) _ needed

      from_8 : All Granted (asks rule.L8 ++ (asks rule.L9 ++ (asks rule.L10 ++ [])))
      from_8 = all-right Granted (asks rule.L6) _ from_6

      from_9 : All Granted (asks rule.L9 ++ (asks rule.L10 ++ []))
      from_9 = all-right Granted (asks rule.L8) _ from_8

      each : (r : Rule) → list_all (need_is_met (facts_of start es l.opening)) (needs r l.opening.agent p) ≡ true
      each rule.L4 = yet rule.L4 (all-left Granted (asks rule.L4) _ needed)
      each rule.L6 = yet rule.L6 (all-left Granted (asks rule.L6) _ from_6)
      each rule.L8 = yet rule.L8 (all-left Granted (asks rule.L8) _ from_8)
      each rule.L9 = yet rule.L9 (all-left Granted (asks rule.L9) _ from_9)
      each rule.L10 = yet rule.L10 (all-left Granted (asks rule.L10) _ (all-right Granted (asks rule.L9) _ from_9))
      each _ = refl

  -- in a legal history all that packets in flight hold is in force
  pub holding-legal : All (HoldsInForce start es) (flight start es)
  holding-legal =
      All-weaker (HoldsNow start es) (HoldsInForce start es)
      (λ f h. record {
        launch = h.launch;
        packet_is = h.packet_is;
        owner_is = h.owner_is;
        rights = rights-now f.queue f.id f.packet h.launch h.packet_is h.granted;
        held_is = h.held_is;
        arguments_are = h.arguments_are;
        holds = λ on right has_it. among-granted start es h.launch.opening.client (rights_at_launch start h.launch.before h.launch.opening f.packet) h.granted on right
            (and_parts (h.launch.opening.client.0 == h.launch.opening.client.0) _ (sym (h.held_is h.launch.opening.client on right) ∙ has_it)).1;
      })
      (flight start es) holding

  -- a launch of a packet, at which all was in force that it holds
  abbrev LaunchOf : QueueId → PacketId → Packet → Type 0
  LaunchOf queue id p = (l : Launch start es queue id) × (l.packet ≡ p) × AllInForce start l.before l.opening.client (own_rights start es queue id)

  -- a packet that is found in flight has a launch
  pub flying-since : (queue : QueueId) (id : PacketId) (f : InFlight) → in_flight start es queue id ≡ Some f →
      (s : InFlightSince start es queue id) × (s.flying ≡ f) × AllInForce start s.launch.before s.launch.opening.client (own_rights start es queue id)
  flying-since queue id f found =
      let named = named-found start es queue id f found in
      let h : HoldsNow start es f = found-all (HoldsNow start es) (is_packet queue id) (flight start es) f holding found in
      let own : LaunchOf f.queue f.id f.packet = (
        h.launch,
        h.packet_is,
        λ on right has_it. among-granted start h.launch.before h.launch.opening.client (rights_at_launch start h.launch.before h.launch.opening f.packet) h.granted_then on right
            (and_parts (h.launch.opening.client.0 == h.launch.opening.client.0) _ (sym (h.held_is h.launch.opening.client on right)
            ∙ sym (ap (λ (o : Option Opening). elim o [ None ↦ false | Some opening ↦ held start es f.queue f.id opening.client on right ]) h.owner_is) ∙ has_it)).1,
      ) in
      let l : LaunchOf queue id f.packet = subst (λ i. LaunchOf queue i f.packet) named.1 (subst (λ q. LaunchOf q f.id f.packet) named.0 own) in
      (record { flying = f; is_found = found; launch = l.0; packet_is = l.1 }, refl, l.2)
