-- What advancing does to what is pending.
use Rattle.std.proofs.Common.{◌≡◌, ℕ, suc, zero, ◌<◌, true, false, Bool, List, [], ◌∷◌, ◌++◌, length, refl, ap, ◌∙◌, sym, subst, arith}
use Rattle.std.specs.Prelude.{All, Result, Ok, Err, if◌then◌else◌, slice_index_or}
use Rattle.std.specs.List.{remove}
use Rattle.std.proofs.lemmas.List.{map_push}
use Rattle.std.proofs.lemmas.List.Elements.{All-push}
use Rattle.aql_packet.specs.declared.ids.PacketId.{PacketId}
use Rattle.aql_packet.specs.declared.ids.QueueId.{QueueId}
use Rattle.ring.specs.Passes.{ProcessorSeen}
use Rattle.core_model.specs.History.{History}
use Rattle.core_model.specs.Legal.{MeetsOrLacks}
use Rattle.core_model.specs.declared.event.Event.{Event}
use Rattle.core_model.specs.declared.outcome.Outcome.{Outcome}
use Rattle.core_model.specs.declared.outcome.Outcome.TheVariants as outcome
use Rattle.core_model.specs.declared.outcome.Worked.TheVariants as worked
use Rattle.core_model.specs.declared.refusal.Refusal.{Refusal}
use Rattle.core_model.specs.declared.served.Served.{Served}
use Rattle.client_threads.specs.declared.pending.PendingPacket.{PendingPacket}
use Rattle.client_threads.specs.declared.advancing.Advanced.{Advanced}
use Rattle.client_threads.specs.declared.advancing.Advanced.TheVariants as advanced
use Rattle.client_threads.specs.Advancing.{AdvancesTo, IsAdvanced, IsLastCall, IsOfItsKind, leaves, served_barrier, told}
use Rattle.client_threads.specs.Boards.{FrontSeen}
use Rattle.client_threads.specs.Lanes.{IsLane, LaneSeen, ids_of}
use Rattle.client_threads.specs.inner.Kept.{Keeps, seen_as, served_of_pass}

-- the first is removed
pub first_removed : (pending : List PendingPacket) (p : PendingPacket) → 0 < length pending → p ≡ slice_index_or pending 0 p → pending ≡ p ∷ remove pending 0
first_removed [] p lt is = absurd (omega (arith, lt))
first_removed (q ∷ qs) p lt is = ap (λ x. x ∷ qs) (sym is)

-- what is kept of the same packet
abbrev pub IsSame : PendingPacket → PendingPacket → Type 0
IsSame q p = (q.id ≡ p.id) × (q.is_barrier ≡ p.is_barrier)

module _ (queue : QueueId) (pass : ProcessorSeen) (kept : List Served) (handed : ℕ) (front : FrontSeen) (p q : PendingPacket) (same : IsSame q p) (rest : List PendingPacket) where
  others : {X : Type 0} (P : X → Type 0) (x : X) (xs : List X) → All P (x ∷ xs) → All P xs
  others P x xs h k d lt = h (suc k) d (omega (arith, lt))

  keeps_so : (more : List PendingPacket) → All (λ id. id.0 < length (served_of_pass pass)) (ids_of more) → All (IsOfItsKind (served_of_pass pass)) more → Keeps queue pass kept handed (p ∷ rest) front → Keeps queue pass kept handed more front
  keeps_so more below kinds h = record {
    lane = record { few = h.lane.few; numbered = h.lane.numbered; retired = h.lane.retired; kept = h.lane.kept; pending = below; resting = h.lane.resting };
    count = h.count;
    few = h.few;
    kinds = kinds;
  }

  -- a lane keeps what it keeps whose first pending packet is pending no more
  pub left_keeps : Keeps queue pass kept handed (p ∷ rest) front → Keeps queue pass kept handed rest front
  left_keeps h = keeps_so rest (others (λ id. id.0 < length (served_of_pass pass)) p.id (ids_of rest) h.lane.pending) (others (IsOfItsKind (served_of_pass pass)) p rest h.kinds) h

  -- or goes last
  pub turned_keeps : Keeps queue pass kept handed (p ∷ rest) front → Keeps queue pass kept handed (rest ++ q ∷ []) front
  turned_keeps h =
      let kept_below = others (λ id. id.0 < length (served_of_pass pass)) p.id (ids_of rest) h.lane.pending in
      let below = subst (λ (id : PacketId). id.0 < length (served_of_pass pass)) (sym same.0) (h.lane.pending zero p.id (omega arith)) in
      let kind : IsOfItsKind (served_of_pass pass) q = same.1 ∙ (h.kinds zero p (omega arith) ∙ ap (served_barrier (served_of_pass pass)) (sym same.0)) in
      keeps_so (rest ++ q ∷ [])
      (subst (All (λ id. id.0 < length (served_of_pass pass))) (sym (map_push (λ (one : PendingPacket). one.id) rest q)) (All-push (λ id. id.0 < length (served_of_pass pass)) (ids_of rest) q.id kept_below below))
      (All-push (IsOfItsKind (served_of_pass pass)) rest q (others (IsOfItsKind (served_of_pass pass)) p rest h.kinds) kind) h

  ids_after : (leaves : Bool) → ids_of (if leaves then rest else rest ++ q ∷ []) ≡ (if leaves then ids_of rest else ids_of rest ++ p.id ∷ [])
  ids_after true = refl
  ids_after false = map_push (λ (one : PendingPacket). one.id) rest q ∙ ap (λ (id : PacketId). ids_of rest ++ id ∷ []) same.0

  -- the packet was advanced by its last call
  pub is_advanced : (before after : History) (event : Event) (reply : Result Outcome Refusal) (result : Advanced) (more : List PendingPacket)
      → Keeps queue pass kept handed (p ∷ rest) front → IsLastCall before queue p.id p.is_barrier event reply → MeetsOrLacks event before after reply → result ≡ told p.id reply → more ≡ (if leaves reply then rest else rest ++ q ∷ [])
      → IsAdvanced (seen_as queue pass kept (p ∷ rest) front) before result (seen_as queue pass kept more front) after
  is_advanced before after event reply result more h last met told_is are =
      let kind : p.is_barrier ≡ served_barrier (served_of_pass pass) p.id = h.kinds zero p (omega arith) in
      record {
        id = p.id;
        rest = ids_of rest;
        first = refl;
        event = event;
        reply = reply;
        last = subst (λ (b : Bool). IsLastCall before queue p.id b event reply) kind last;
        met = met;
        told_is = told_is;
        lane = ap (λ (ids : List PacketId). record { queue = queue; pass = pass; served = served_of_pass pass; kept = kept; pending = ids; front = front }) (ap ids_of are ∙ ids_after (leaves reply));
      }

never_idle : (id : PacketId) (reply : Result Outcome Refusal) → told id reply ≡ advanced.Idle → ⊥
never_idle id (Ok outcome.Accepted) e = cc
never_idle id (Ok (outcome.Opened queue)) e = cc
never_idle id (Ok (outcome.Taken taken)) e = cc
never_idle id (Ok (outcome.Worked (worked.Ran group left))) e = cc
never_idle id (Ok (outcome.Worked (worked.Faulted error))) e = cc
never_idle id (Ok (outcome.Worked worked.Done)) e = cc
never_idle id (Ok (outcome.Polled found)) e = cc
never_idle id (Ok (outcome.Changed old)) e = cc
never_idle id (Err why) e = cc

-- and that is what advancing comes to
pub advances : (old : LaneSeen) (before : History) (result : Advanced) (new : LaneSeen) (after : History) (id : PacketId) (reply : Result Outcome Refusal) → result ≡ told id reply → IsAdvanced old before result new after → AdvancesTo old before result new after
advances old before advanced.Idle new after id reply is h = absurd (never_idle id reply (sym is))
advances old before (advanced.Ran p) new after id reply is h = h
advances old before (advanced.Polled p found) new after id reply is h = h
advances old before (advanced.Finished p) new after id reply is h = h
advances old before (advanced.Faulted error) new after id reply is h = h
advances old before (advanced.Refused p why) new after id reply is h = h

-- ---- by the steps of the code

module _ (queue : QueueId) (pass : ProcessorSeen) (kept : List Served) (handed : ℕ) (front : FrontSeen) (old removed : List PendingPacket) (p q : PendingPacket) (same : IsSame q p)
    (keeps : Keeps queue pass kept handed old front) (some : 0 < length old) (first : p ≡ slice_index_or old 0 p) (are : removed ≡ remove old 0) where
  parted : old ≡ p ∷ removed
  parted = first_removed old p some first ∙ ap (λ (ps : List PendingPacket). p ∷ ps) (sym are)

  keeps_first : Keeps queue pass kept handed (p ∷ removed) front
  keeps_first = subst (λ (ps : List PendingPacket). Keeps queue pass kept handed ps front) parted keeps

  pub left_so : Keeps queue pass kept handed removed front
  left_so = left_keeps queue pass kept handed front p q same removed keeps_first

  pub turned_so : (new : List PendingPacket) → new ≡ removed ++ q ∷ [] → Keeps queue pass kept handed new front
  turned_so new is = subst (λ (ps : List PendingPacket). Keeps queue pass kept handed ps front) (sym is) (turned_keeps queue pass kept handed front p q same removed keeps_first)

  pub advances_so : (before after : History) (event : Event) (reply : Result Outcome Refusal) (result : Advanced) (more : List PendingPacket)
      → IsLastCall before queue p.id p.is_barrier event reply → MeetsOrLacks event before after reply → result ≡ told p.id reply → more ≡ (if leaves reply then removed else removed ++ q ∷ [])
      → AdvancesTo (seen_as queue pass kept old front) before result (seen_as queue pass kept more front) after
  advances_so before after event reply result more last met told_is is =
      subst (λ (ps : List PendingPacket). AdvancesTo (seen_as queue pass kept ps front) before result (seen_as queue pass kept more front) after) (sym parted)
      (advances (seen_as queue pass kept (p ∷ removed) front) before result (seen_as queue pass kept more front) after p.id reply told_is
      (is_advanced queue pass kept handed front p q same removed before after event reply result more keeps_first last met told_is is))
