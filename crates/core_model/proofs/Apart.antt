-- No two packets in flight have one name.
use Rattle.std.proofs.Common.{◌≡◌, ◌+◌, ◌<◌, List, [], ◌∷◌, ◌++◌, refl, sym, ◌∙◌, ap, subst, Bool, true, false, Option, Some, None, arith}
use Rattle.std.specs.Prelude.{◌||◌, ◌==◌, All, filter, find, fold, get_or, not, if◌then◌else◌}
use Rattle.std.specs.List.{list_any}
use Rattle.std.proofs.lemmas.Bool.{and_from, and_parts, eq-eqb, eqb-true}
use Rattle.std.proofs.lemmas.List.Elements.{All-cons, All-head, All-nil, All-tail, All-weaker}
use Rattle.core_model.specs.declared.entry.Effect.{Effect}
use Rattle.core_model.specs.declared.entry.Effect.TheVariants.{Write, Signal, Release}
use Rattle.core_model.specs.declared.entry.Entry.{Entry}
use Rattle.core_model.specs.declared.flight.InFlight.{InFlight}
use Rattle.core_model.specs.History.{Start}
use Rattle.core_model.specs.Queues.{next_id}
pub use Rattle.core_model.specs.Flight.{AreApart}
use Rattle.core_model.specs.Flight.{flight, in_flight, flight_after_effect, is_packet, launched_by, with_launched}
use Rattle.core_model.specs.Owed.{enters, owed}
use Rattle.core_model.specs.Legal.{IsLegal, IsWhole}
use Rattle.core_model.proofs.Absent.{by-entries}
use Rattle.core_model.proofs.Behind.{all, first, same-state}
use Rattle.core_model.proofs.Entered.{take-decided}
use Rattle.core_model.proofs.Closing.{all-unclosed}
use Rattle.core_model.proofs.Flying.{all-left-after}
use Rattle.core_model.proofs.Launches.{launched_by-is, next_id-grows, next_id-launched}
use Rattle.core_model.proofs.More.{flight-more}

none-kept : (test keep : InFlight → Bool) (fs : List InFlight) → list_any test fs ≡ false → list_any test (filter keep fs) ≡ false
none-kept test keep [] none = none
none-kept test keep (f ∷ fs) none = grind (arith, none-kept test keep fs)

apart-filter : (keep : InFlight → Bool) (fs : List InFlight) → AreApart fs → AreApart (filter keep fs)
apart-filter keep [] apart = tt
apart-filter keep (f ∷ fs) apart = by_test (apart-filter keep fs apart.1) (keep f)
  where
    by_test : AreApart (filter keep fs) → (b : Bool) → AreApart (if b then f ∷ filter keep fs else filter keep fs)
    by_test rest true = (none-kept (is_packet f.queue f.id) keep fs apart.0, rest)
    by_test rest false = rest

apart-effects : (effects : List Effect) (fs : List InFlight) → AreApart fs → AreApart (fold flight_after_effect fs effects)
apart-effects [] fs apart = apart
apart-effects (Write address bytes ∷ rest) fs apart = apart-effects rest fs apart
apart-effects (Signal signal old new ∷ rest) fs apart = apart-effects rest fs apart
apart-effects (Release queue id ∷ rest) fs apart = apart-effects rest _ (apart-filter (λ f. not (is_packet queue id f)) fs apart)

-- one that has another name than all may come behind them
apart-push : (f : InFlight) (fs : List InFlight) → AreApart fs → All (λ x. is_packet x.queue x.id f ≡ false) fs → AreApart (fs ++ f ∷ [])
apart-push f [] apart other = (refl, tt)
apart-push f (x ∷ xs) apart other =
    (last xs apart.0 (All-head (λ (x : InFlight). is_packet x.queue x.id f ≡ false) x xs other), apart-push f xs apart.1 (All-tail (λ (x : InFlight). is_packet x.queue x.id f ≡ false) x xs other))
  where
    last : (xs : List InFlight) → list_any (is_packet x.queue x.id) xs ≡ false → is_packet x.queue x.id f ≡ false → list_any (is_packet x.queue x.id) (xs ++ f ∷ []) ≡ false
    last [] none differs = grind arith
    last (y ∷ ys) none differs = grind (arith, last ys)

module _ (start : Start) where
  abbrev pub AreBelow : List Entry → Type 0
  AreBelow es = All (λ (f : InFlight). f.id.0 < next_id start es f.queue) (flight start es)

  abbrev Fact : List Entry → Type 0
  Fact es = AreApart (flight start es) × AreBelow es

  module _ (es : List Entry) (e : Entry) (owing : owed start es e.event ≡ enters e.outcome e.effects) where
    -- a packet that is launched has its queue's next id
    pub is-next : (f : InFlight) → launched_by e.event e.outcome ≡ Some f → f.id.0 ≡ next_id start es f.queue
    is-next f is =
        let launch = launched_by-is e.event e.outcome f is in
        (take-decided start es e.outcome e.effects f.queue f.id launch.bytes (ap (owed start es) (sym launch.event_is) ∙ owing)).id_is_next

    one-more : (f : InFlight) → launched_by e.event e.outcome ≡ Some f → next_id start (es ++ e ∷ []) f.queue ≡ next_id start es f.queue + 1
    one-more f is = next_id-launched start es e f (launched_by-is e.event e.outcome f is)

    below-more : AreBelow es → AreBelow (es ++ e ∷ [])
    below-more below =
        subst (All (λ (f : InFlight). f.id.0 < next_id start (es ++ e ∷ []) f.queue)) (sym (flight-more start es e))
        (all-left-after (λ (f : InFlight). f.id.0 < next_id start (es ++ e ∷ []) f.queue) e (flight start es)
        (λ f is. let next = is-next f is in let more = one-more f is in omega (arith, next, more)) (λ k d lt stays.
        let grows = next_id-grows start es e (get_or (flight start es) k d).queue (all-unclosed start es e owing k d lt stays) in
        let small = below k d lt in
        omega (arith, grows, small)))

    -- so none in flight has its name
    differs : (f : InFlight) → launched_by e.event e.outcome ≡ Some f → (x : InFlight) → x.id.0 < next_id start es x.queue → is_packet x.queue x.id f ≡ false
    differs f is x below = by_test (is_packet x.queue x.id f) refl
      where
        by_test : (b : Bool) → is_packet x.queue x.id f ≡ b → is_packet x.queue x.id f ≡ false
        by_test false other = other
        by_test true same =
            let next : f.id.0 ≡ next_id start es f.queue = is-next f is in
            let both = and_parts (f.queue.0 == x.queue.0) (f.id.0 == x.id.0) same in
            let queue : f.queue ≡ x.queue = ap (λ n. record { 0 = n }) (eqb-true _ _ both.0) in
            let id : f.id.0 ≡ x.id.0 = eqb-true _ _ both.1 in
            let here : f.id.0 ≡ next_id start es x.queue = next ∙ ap (next_id start es) queue in
            absurd (omega (arith, here, id, below))

    apart-launched : (o : Option InFlight) → launched_by e.event e.outcome ≡ o → Fact es → AreApart (with_launched (flight start es) o)
    apart-launched None is fact = fact.0
    apart-launched (Some f) is fact =
        apart-push f (flight start es) fact.0
        (All-weaker (λ (x : InFlight). x.id.0 < next_id start es x.queue) (λ (x : InFlight). is_packet x.queue x.id f ≡ false) (λ x below. differs f is x below) (flight start es) fact.1)

    fact-more : Fact es → Fact (es ++ e ∷ [])
    fact-more fact = (
      subst AreApart (sym (flight-more start es e)) (apart-effects e.effects _ (apart-launched (launched_by e.event e.outcome) refl fact)),
      below-more fact.1,
    )

  fact-first : start.flight ≡ [] → Fact []
  unfolding flight next_id
  fact-first none = (subst AreApart (sym none) tt, subst (All (λ (f : InFlight). f.id.0 < start.next_id f.queue)) (sym none) (All-nil _))

  fact-whole : (es : List Entry) → IsWhole start es → Fact es
  fact-whole es whole = by-entries start Fact (λ es e whole owing. fact-more es e owing) es whole (fact-first (ap (λ (now : Start). now.flight) whole.opens))

  pub below-whole : (es : List Entry) → IsWhole start es → AreBelow es
  below-whole es whole = (fact-whole es whole).1

  apart-whole : (es : List Entry) → IsWhole start es → AreApart (flight start es)
  apart-whole es whole = (fact-whole es whole).0

-- ---- each is found by its name

or-none : (x y : Bool) → (x || y) ≡ false → (x ≡ false) × (y ≡ false)
or-none false y is = (refl, is)
or-none true y is = absurd cc

name-swapped : (f g : InFlight) → is_packet f.queue f.id g ≡ false → is_packet g.queue g.id f ≡ false
name-swapped f g is = grind (arith, is)

abbrev IsFoundIn : List InFlight → InFlight → Type 0
IsFoundIn fs f = find (is_packet f.queue f.id) fs ≡ Some f

found-behind : (f : InFlight) (fs gs : List InFlight) → list_any (is_packet f.queue f.id) gs ≡ false → All (IsFoundIn fs) gs → All (IsFoundIn (f ∷ fs)) gs
found-behind f fs [] none found = All-nil (IsFoundIn (f ∷ fs))
found-behind f fs (g ∷ gs) none found =
    let other = or-none (is_packet f.queue f.id g) (list_any (is_packet f.queue f.id) gs) none in
    All-cons (IsFoundIn (f ∷ fs)) g gs
    (ap (λ (b : Bool). if b then Some f else find (is_packet g.queue g.id) fs) (name-swapped f g other.0) ∙ All-head (IsFoundIn fs) g gs found)
    (found-behind f fs gs other.1 (All-tail (IsFoundIn fs) g gs found))

found-apart : (fs : List InFlight) → AreApart fs → All (IsFoundIn fs) fs
found-apart [] apart = All-nil (IsFoundIn [])
found-apart (f ∷ fs) apart =
    All-cons (IsFoundIn (f ∷ fs)) f fs
    (ap (λ (b : Bool). if b then Some f else find (is_packet f.queue f.id) fs) (and_from _ _ (eq-eqb f.queue.0 f.queue.0 refl) (eq-eqb f.id.0 f.id.0 refl)))
    (found-behind f fs fs apart.0 (found-apart fs apart.1))

-- ---- in any legal history

pub apart-legal : (s : Start) (es : List Entry) → IsLegal s es → AreApart (flight s es)
apart-legal s es legal = subst (λ (now : Start). AreApart now.flight) (same-state s es legal) (apart-whole (first s es legal) (all s es legal) legal.whole)

pub found-legal : (s : Start) (es : List Entry) → IsLegal s es → All (λ f. in_flight s es f.queue f.id ≡ Some f) (flight s es)
found-legal s es legal = found-apart (flight s es) (apart-legal s es legal)
