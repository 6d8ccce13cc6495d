-- One entry more: how each question's answer changes with it.
use Rattle.std.proofs.Common.{◌≡◌, ℕ, List, [], ◌∷◌, ◌++◌, sym, ◌∙◌, ap, append_assoc}
use Rattle.std.specs.Prelude.{fold}
use Rattle.std.proofs.lemmas.List.{append-nil}
use Rattle.std.specs.List.{flat_map}
use Rattle.std.proofs.lemmas.List.Sums.{fold-append}
use Rattle.std.proofs.lemmas.Grind.{flat_map-append}
use Rattle.aql_packet.specs.declared.ids.ClientId.{ClientId}
use Rattle.aql_packet.specs.declared.ids.QueueId.{QueueId}
use Rattle.aql_packet.specs.declared.ids.PacketId.{PacketId}
use Rattle.policy.specs.declared.object.Object.{Object}
use Rattle.policy.specs.declared.rights.Right.{Right}
use Rattle.core_model.specs.declared.entry.Entry.{Entry}
use Rattle.core_model.specs.History.{Start, effects_of}
use Rattle.core_model.specs.Grants.{in_force, in_force_after}
use Rattle.core_model.specs.Policies.{rows_after, rows_at}
use Rattle.core_model.specs.Memory.{memory_at, byte_after, signals, signals_after}
use Rattle.core_model.specs.Queues.{openings, openings_after, next_id, next_id_after, errors, errors_after, is_stopped, is_stopped_after}
use Rattle.core_model.specs.Flight.{flight, flight_after, progress, progress_after}
use Rattle.core_model.specs.Holds.{along, arguments, arguments_after, held, held_after}
pub use Rattle.core_model.specs.Queues.{with_error}

pub in_force-more : (start : Start) (es : List Entry) (e : Entry) (client : ClientId) (on : Object) (right : Right) → in_force start (es ++ e ∷ []) client on right ≡ in_force_after client on right (in_force start es client on right) e.event
unfolding in_force
in_force-more start es e client on right = fold-append _ _ es (e ∷ [])

pub effects_of-append : (es more : List Entry) → effects_of (es ++ more) ≡ effects_of es ++ effects_of more
unfolding effects_of
effects_of-append es more = flat_map-append (λ entry. entry.effects) es more

pub effects_of-more : (es : List Entry) (e : Entry) → effects_of (es ++ e ∷ []) ≡ effects_of es ++ e.effects
unfolding effects_of
effects_of-more es e = flat_map-append (λ entry. entry.effects) es (e ∷ []) ∙ ap (λ x. flat_map (λ (entry : Entry). entry.effects) es ++ x) (append-nil e.effects)

pub memory_at-more : (start : Start) (es : List Entry) (e : Entry) (x : ℕ) → memory_at start (es ++ e ∷ []) x ≡ fold (byte_after x) (memory_at start es x) e.effects
unfolding memory_at
memory_at-more start es e x = ap (fold (byte_after x) (start.memory x)) (effects_of-more es e) ∙ fold-append _ _ (effects_of es) e.effects

pub signals-more : (start : Start) (es : List Entry) (e : Entry) → signals start (es ++ e ∷ []) ≡ fold signals_after (signals start es) e.effects
unfolding signals
signals-more start es e = ap (fold signals_after start.signals) (effects_of-more es e) ∙ fold-append _ _ (effects_of es) e.effects

pub openings-more : (start : Start) (es : List Entry) (e : Entry) → openings start (es ++ e ∷ []) ≡ openings_after (openings start es) e.event
unfolding openings
openings-more start es e = fold-append _ _ es (e ∷ [])

pub next_id-more : (start : Start) (es : List Entry) (e : Entry) (queue : QueueId) → next_id start (es ++ e ∷ []) queue ≡ next_id_after queue (next_id start es queue) e.event
unfolding next_id
next_id-more start es e queue = fold-append _ _ es (e ∷ [])

pub errors-more : (start : Start) (es : List Entry) (e : Entry) (queue : QueueId) → errors start (es ++ e ∷ []) queue ≡ errors_after queue (errors start es queue) e
unfolding errors
errors-more start es e queue = fold-append _ _ es (e ∷ [])

pub is_stopped-more : (start : Start) (es : List Entry) (e : Entry) (queue : QueueId) → is_stopped start (es ++ e ∷ []) queue ≡ is_stopped_after queue (is_stopped start es queue) e.event
unfolding is_stopped
is_stopped-more start es e queue = fold-append _ _ es (e ∷ [])

pub flight-more : (start : Start) (es : List Entry) (e : Entry) → flight start (es ++ e ∷ []) ≡ flight_after (flight start es) e
unfolding flight
flight-more start es e = fold-append _ _ es (e ∷ [])

pub progress-more : (start : Start) (es : List Entry) (e : Entry) (queue : QueueId) (id : PacketId) → progress start (es ++ e ∷ []) queue id ≡ progress_after queue id (progress start es queue id) e
unfolding progress
progress-more start es e queue id = fold-append _ _ es (e ∷ [])

-- ---- what follows along entries

module _ {X : Type 0} (step : List Entry → X → Entry → X) where
  pub along-append : (before : List Entry) (x : X) (es more : List Entry) → along step before x (es ++ more) ≡ along step (before ++ es) (along step before x es) more
  along-append before x [] more = ap (λ (now : List Entry). along step now x more) (sym (append-nil before))
  along-append before x (e ∷ es) more =
      along-append (before ++ e ∷ []) (step before x e) es more
      ∙ ap (λ (now : List Entry). along step now (along step (before ++ e ∷ []) (step before x e) es) more) (append_assoc before (e ∷ []) es)

pub held-more : (start : Start) (es : List Entry) (e : Entry) (queue : QueueId) (id : PacketId) (client : ClientId) (on : Object) (right : Right) → held start (es ++ e ∷ []) queue id client on right ≡ held_after start queue id client on right es (held start es queue id client on right) e
unfolding held
held-more start es e queue id client on right = along-append (held_after start queue id client on right) [] (start.held queue id client on right) es (e ∷ [])

pub arguments-more : (start : Start) (es : List Entry) (e : Entry) (queue : QueueId) (id : PacketId) → arguments start (es ++ e ∷ []) queue id ≡ arguments_after start queue id es (arguments start es queue id) e
unfolding arguments
arguments-more start es e queue id = along-append (arguments_after start queue id) [] (start.arguments queue id) es (e ∷ [])

pub rows_at-more : (start : Start) (es : List Entry) (e : Entry) → rows_at start (es ++ e ∷ []) ≡ rows_after (rows_at start es) e.event
unfolding rows_at
rows_at-more start es e = fold-append _ _ es (e ∷ [])
