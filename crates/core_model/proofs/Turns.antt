-- Packets are taken in turn, each id once; queues are opened in turn; and beginnings of legal histories are legal.
use Rattle.std.proofs.Common.{rules, ◌≡◌, ◌<◌, ℕ, ◌+◌, ◌-◌, List, [], ◌∷◌, ◌++◌, length, refl, sym, ◌∙◌, ap, subst, Bool, true, false, Option, Some, None, arith, ◌⊎◌, inl, inr}
use Rattle.std.specs.Prelude.{option_map, slice_get, nat_lt, ◌||◌}
use Rattle.std.proofs.lemmas.Bool.{and_from, eq-eqb}
use Rattle.aql_packet.specs.declared.ids.AgentHandle.{AgentHandle}
use Rattle.aql_packet.specs.declared.ids.ClientId.{ClientId}
use Rattle.aql_packet.specs.declared.ids.QueueId.{QueueId}
use Rattle.aql_packet.specs.declared.ids.PacketId.{PacketId}
use Rattle.policy.specs.Policy.{numbered}
use Rattle.queue_error.specs.declared.error.QueueError.{QueueError}
use Rattle.queue_error.specs.declared.rule.Rule.{Rule}
use Rattle.core_model.specs.declared.event.Event.TheVariants.{Open, Take}
use Rattle.core_model.specs.declared.outcome.Outcome.{Outcome}
use Rattle.core_model.specs.declared.outcome.Outcome.TheVariants as outcome
use Rattle.core_model.specs.declared.outcome.Taken.TheVariants.{Launched, Denied}
use Rattle.core_model.specs.declared.entry.Effect.{Effect}
use Rattle.core_model.specs.declared.entry.Entry.{Entry}
use Rattle.core_model.specs.History.{Start}
use Rattle.core_model.specs.Queues.{Opening, Openings, next_queue, opening_in, openings, owner, next_id}
use Rattle.core_model.specs.declared.flight.InFlight.{InFlight}
use Rattle.core_model.specs.Flight.{launched_by}
use Rattle.core_model.specs.Holds.{is_launch}
use Rattle.core_model.specs.Owed.{owed, enters, error_without_place}
use Rattle.core_model.specs.Legal.{IsWhole, entry_of}
use Rattle.core_model.specs.Headline.{Launch, IsOpened}
use Rattle.core_model.proofs.More.{openings-more}
use Rattle.core_model.proofs.Openings.{next-unowned, numbered-whole, owner-opened, owner-stays}
use Rattle.core_model.proofs.Launches.{was_launched, below-open}
use Rattle.core_model.proofs.Launching.{legal-at}
use Rattle.core_model.proofs.Entered.{open-effects, take-decided}

-- ---- a packet that is taken is launched or denied

pub taken-or-denied : (start : Start) (es : List Entry) (told : Outcome) (effects : List Effect) (queue : QueueId) (id : PacketId) (bytes : List ℕ) → owed start es (Take queue id bytes) ≡ enters told effects →
    (told ≡ outcome.Taken Launched) ⊎ (error : QueueError) × (told ≡ outcome.Taken (Denied error))
taken-or-denied start es told effects queue id bytes owing =
    let decided = take-decided start es told effects queue id bytes owing in
    by_verdict decided.verdict decided.outcome_is
  where
    by_verdict : (verdict : Option Rule) → told ≡ (elim verdict [ None ↦ outcome.Taken Launched | Some rule ↦ outcome.Taken (Denied (error_without_place queue id.0 rule)) ]) →
        (told ≡ outcome.Taken Launched) ⊎ (error : QueueError) × (told ≡ outcome.Taken (Denied error))
    by_verdict None is = inl is
    by_verdict (Some rule) is = inr (error_without_place queue id.0 rule, is)

-- ---- a packet is launched once

module _ (queue : QueueId) (id : PacketId) where
  abbrev Launches : Entry → Type 0
  Launches e = is_launch queue id (launched_by e.event e.outcome) ≡ true

  -- two launches in one list, none before either, are one
  same-place : (b1 b2 a1 a2 : List Entry) (e1 e2 : Entry) → b1 ++ e1 ∷ a1 ≡ b2 ++ e2 ∷ a2 → was_launched b1 queue id ≡ false → was_launched b2 queue id ≡ false → Launches e1 → Launches e2 → (b1 ≡ b2) × (e1 ≡ e2)
  same-place [] [] a1 a2 e1 e2 same none1 none2 one two = (refl, cc)
  same-place [] (y ∷ b2) a1 a2 e1 e2 same none1 none2 one two =
      let here : e1 ≡ y = cc in
      let launches-y : is_launch queue id (launched_by y.event y.outcome) ≡ true = subst Launches here one in
      let some : was_launched (y ∷ b2) queue id ≡ true = rw launches-y refl in
      let e : true ≡ false = sym some ∙ none2 in absurd cc
  same-place (x ∷ b1) [] a1 a2 e1 e2 same none1 none2 one two =
      let here : x ≡ e2 = cc in
      let launches-x : is_launch queue id (launched_by x.event x.outcome) ≡ true = subst Launches (sym here) two in
      let some : was_launched (x ∷ b1) queue id ≡ true = rw launches-x refl in
      let e : true ≡ false = sym some ∙ none1 in absurd cc
  same-place (x ∷ b1) (y ∷ b2) a1 a2 e1 e2 same none1 none2 one two =
      let here : x ≡ y = cc in
      let tails : b1 ++ e1 ∷ a1 ≡ b2 ++ e2 ∷ a2 = cc in
      let rest = same-place b1 b2 a1 a2 e1 e2 tails (later (is_launch queue id (launched_by x.event x.outcome)) (was_launched b1 queue id) none1) (later (is_launch queue id (launched_by y.event y.outcome)) (was_launched b2 queue id) none2) one two in
      ((λ i. here i ∷ rest.0 i), rest.1)
    where
      later : (b rest : Bool) → (b || rest) ≡ false → rest ≡ false
      later true rest is = absurd cc
      later false rest is = is

  pub one-launch : (start : Start) (es : List Entry) → IsWhole start es → (one other : Launch start es queue id) → (one.before ≡ other.before) × (one.packet ≡ other.packet)
  one-launch start es legal one other =
      let same = same-place one.before other.before one.place.after other.place.after _ _ (sym one.place.whole ∙ other.place.whole) (none one) (none other) (now one) (now other) in
      let launches_same : Some (as_launched one) ≡ Some (as_launched other) = sym (read one) ∙ ap (λ e. launched_by e.event e.outcome) same.1 ∙ read other in
      let flying_same : as_launched one ≡ as_launched other = cc in
      (same.0, ap (λ f. f.packet) flying_same)
    where
      as_launched : Launch start es queue id → InFlight
      as_launched l = record { queue = queue; id = id; packet = l.packet }

      read : (l : Launch start es queue id) → launched_by (Take queue id l.bytes) (outcome.Taken Launched) ≡ Some (as_launched l)
      read l = ap (option_map (λ p. record { queue = queue; id = id; packet = p })) l.allowed.is_read

      now : (l : Launch start es queue id) → is_launch queue id (launched_by (Take queue id l.bytes) (outcome.Taken Launched)) ≡ true
      now l = ap (is_launch queue id) (read l) ∙ and_from _ _ (eq-eqb queue.0 queue.0 refl) (eq-eqb id.0 id.0 refl)

      none : (l : Launch start es queue id) → was_launched l.before queue id ≡ false
      none l = by_test (was_launched l.before queue id) refl
        where
          by_test : (b : Bool) → was_launched l.before queue id ≡ b → was_launched l.before queue id ≡ false
          by_test true was =
              let below : id.0 < next_id start l.before queue = below-open start l.before (legal-at start es l.before _ legal l.place).0 queue id l.opening l.allowed.owner_is was in
              let at = l.allowed.id_is_next in absurd (omega arith)
          by_test false was = was

-- ---- a queue that is opened is a new one, its opener's

-- one item more has the next number
pub slice_get-last : {X : Type 0} (xs : List X) (x : X) → slice_get (xs ++ x ∷ []) (length xs) ≡ Some x
slice_get-last [] x = refl
slice_get-last (y ∷ xs) x = slice_get-last xs x

pub numbered-new : {X : Type 0} (xs : List X) (x : X) → numbered (xs ++ x ∷ []) (length xs + 1) ≡ Some x
numbered-new xs x =
    let positive : nat_lt 0 (length xs + 1) ≡ true = search rules in
    let place : length xs + 1 - 1 ≡ length xs = omega arith in
    rw (positive, place) (slice_get-last xs x)

pub queue-opened : (start : Start) (es : List Entry) → IsWhole start es → (told : Outcome) (effects : List Effect) (client : ClientId) (agent : AgentHandle) (size : ℕ) → owed start es (Open client agent size) ≡ enters told effects →
    IsOpened start es (entry_of (Open client agent size) told effects) client agent
queue-opened start es legal told effects client agent size owing =
    let made = open-effects start es told effects client agent size owing in
    let opening : Opening = record { client = client; agent = agent } in
    let queue : QueueId = next_queue (openings start es).opened in
    let new : owner start es queue ≡ None = next-unowned (openings start es) (numbered-whole start legal.opens es) in
    record {
      queue = queue;
      outcome_is = made.outcome_is;
      granted = made.granted;
      is_new = new;
      number_is = refl;
      owner_is = λ more unclosed. owner-stays start (es ++ entry_of (Open client agent size) told effects ∷ []) more queue opening unclosed
          (ap (λ (all : Openings). opening_in all.queues queue) (openings-more start es (entry_of (Open client agent size) told effects)) ∙ owner-opened (openings start es) opening new);
    }
