-- What holds of each packet in flight: one induction over legal histories for all such facts.
use Rattle.std.proofs.Common.{◌≡◌, List, [], ◌∷◌, ◌++◌, refl, ap, subst, Bool, true, false, Option, Some, None, append_assoc}
use Rattle.std.specs.Prelude.{All, fold, filter, not, if◌then◌else◌}
use Rattle.std.specs.List.{list_any}
use Rattle.std.proofs.lemmas.List.{append-nil}
use Rattle.std.proofs.lemmas.List.Elements.{All-nil, All-cons, All-head, All-tail, All-push, All-weaker}
use Rattle.core_model.specs.declared.entry.Entry.{Entry}
use Rattle.core_model.specs.declared.entry.Effect.{Effect}
use Rattle.core_model.specs.declared.entry.Effect.TheVariants.{Write, Signal, Release}
use Rattle.core_model.specs.declared.flight.InFlight.{InFlight}
use Rattle.core_model.specs.History.{Start, opening_state}
use Rattle.core_model.specs.Flight.{flight, flight_after, flight_after_effect, is_packet, launched_by, releases_packet, with_launched}
use Rattle.core_model.specs.Owed.{owed, enters}
use Rattle.core_model.specs.Legal.{IsWhole, IsLegalAfter}
use Rattle.core_model.proofs.More.{flight-more}
use Rattle.core_model.proofs.Legality.{IsWhole-more}

-- what holds of packets in flight holds of those that a change doesn't release
left : (P : InFlight → Type 0) (effects : List Effect) (fs : List InFlight) → All P fs → All (λ f. P f × (list_any (releases_packet f) effects ≡ false)) (fold flight_after_effect fs effects)
left P [] fs all = All-weaker P (λ f. P f × (false ≡ false)) (λ f is. (is, refl)) fs all
left P (Write address bytes ∷ rest) fs all = left P rest fs all
left P (Signal signal old new ∷ rest) fs all = left P rest fs all
left P (Release queue id ∷ rest) fs all =
    All-weaker (λ f. (P f × (is_packet queue id f ≡ false)) × (list_any (releases_packet f) rest ≡ false)) (λ f. P f × (list_any (releases_packet f) (Release queue id ∷ rest) ≡ false))
    (λ f is. (is.0.0, rw is.0.1 is.1)) (fold flight_after_effect (filter (λ f. not (is_packet queue id f)) fs) rest)
    (left (λ f. P f × (is_packet queue id f ≡ false)) rest (filter (λ f. not (is_packet queue id f)) fs) (others fs all))
  where
    others : (fs : List InFlight) → All P fs → All (λ f. P f × (is_packet queue id f ≡ false)) (filter (λ f. not (is_packet queue id f)) fs)
    others [] all = All-nil _
    others (f ∷ fs) all = by_test (is_packet queue id f) refl (others fs (All-tail P f fs all))
      where
        by_test : (b : Bool) → is_packet queue id f ≡ b → All (λ f. P f × (is_packet queue id f ≡ false)) (filter (λ f. not (is_packet queue id f)) fs)
            → All (λ f. P f × (is_packet queue id f ≡ false)) (if not b then f ∷ filter (λ f. not (is_packet queue id f)) fs else filter (λ f. not (is_packet queue id f)) fs)
        by_test true is rest = rest
        by_test false is rest = All-cons (λ f. P f × (is_packet queue id f ≡ false)) f _ (All-head P f fs all, is) rest

all-launched : (P : InFlight → Type 0) (o : Option InFlight) (fs : List InFlight) → ((f : InFlight) → o ≡ Some f → P f) → All P fs → All P (with_launched fs o)
all-launched P None fs one all = all
all-launched P (Some f) fs one all = All-push P fs f all (one f refl)

-- what holds of all packets in flight, unless it is released, and of one that is launched, holds after an entry
pub all-after : (P : InFlight → Type 0) (e : Entry) (fs : List InFlight) → ((f : InFlight) → launched_by e.event e.outcome ≡ Some f → P f) → All P fs → All P (flight_after fs e)
all-after P e fs one all =
    All-weaker (λ f. P f × (list_any (releases_packet f) e.effects ≡ false)) P (λ f is. is.0) (flight_after fs e)
    (left P e.effects _ (all-launched P (launched_by e.event e.outcome) fs one all))

pub all-left-after : (P : InFlight → Type 0) (e : Entry) (fs : List InFlight) → ((f : InFlight) → launched_by e.event e.outcome ≡ Some f → P f)
    → All (λ f. list_any (releases_packet f) e.effects ≡ false → P f) fs → All P (flight_after fs e)
all-left-after P e fs one all =
    All-weaker (λ f. (list_any (releases_packet f) e.effects ≡ false → P f) × (list_any (releases_packet f) e.effects ≡ false)) P (λ f is. is.0 is.1) (flight_after fs e)
    (left (λ f. list_any (releases_packet f) e.effects ≡ false → P f) e.effects _
    (all-launched (λ f. list_any (releases_packet f) e.effects ≡ false → P f) (launched_by e.event e.outcome) fs (λ f is stays. one f is) all))

-- ---- legal histories

-- a fact that may speak of the entries so far
module _ (start : Start) (Fact : List Entry → InFlight → Type 0)
    (more : (es : List Entry) (e : Entry) → IsWhole start es → owed start es e.event ≡ enters e.outcome e.effects → All (Fact es) (flight start es)
    → All (λ f. list_any (releases_packet f) e.effects ≡ false → Fact (es ++ e ∷ []) f) (flight start es))
    (launched : (es : List Entry) (e : Entry) → IsWhole start es → owed start es e.event ≡ enters e.outcome e.effects → (f : InFlight) → launched_by e.event e.outcome ≡ Some f → Fact (es ++ e ∷ []) f) where
  flying_after : (before es : List Entry) → IsWhole start before → All (Fact before) (flight start before) → IsLegalAfter start before es → All (Fact (before ++ es)) (flight start (before ++ es))
  flying_after before [] legal all rest = rw append-nil all
  flying_after before (e ∷ es) legal all rest =
      let next : All (Fact (before ++ e ∷ [])) (flight start (before ++ e ∷ [])) =
      rw flight-more (all-left-after (Fact (before ++ e ∷ [])) e (flight start before) (launched before e legal rest.0) (more before e legal rest.0 all)) in
      subst (λ (now : List Entry). All (Fact now) (flight start now)) (append_assoc before (e ∷ []) es)
      (flying_after (before ++ e ∷ []) es (IsWhole-more start before e.event e.outcome e.effects legal rest.0) next rest.1)

  none_flies : start ≡ opening_state start.policy start.kernels → All (Fact []) (flight start [])
  unfolding flight
  none_flies opens = rw (ap (λ (s : Start). s.flight) opens) (All-nil (Fact []))

  -- it holds of each packet in flight
  pub flying-legal : (es : List Entry) → IsWhole start es → All (Fact es) (flight start es)
  flying-legal es legal = flying_after [] es (record { opens = legal.opens; legal = tt }) (none_flies legal.opens) legal.legal
