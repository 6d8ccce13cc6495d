-- The packets in flight are those that were launched and not released since.
use Rattle.std.proofs.Common.{◌≡◌, ◌⊎◌, List, [], ◌∷◌, ◌++◌, refl, sym, ◌∙◌, ap, subst, Bool, true, false, Option, Some, None, inl, inr, zero, suc, arith}
use Rattle.std.specs.Prelude.{◌||◌, fold, filter, not, if◌then◌else◌}
use Rattle.std.specs.List.{Contains, list_any}
use Rattle.std.proofs.lemmas.List.Folds.{list_any-append}
use Rattle.std.proofs.lemmas.List.Elements.{Contains-append_right}
use Rattle.std.proofs.lemmas.List.Sums.{fold-append}
use Rattle.core_model.specs.declared.entry.Entry.{Entry}
use Rattle.core_model.specs.declared.entry.Effect.{Effect}
use Rattle.core_model.specs.declared.entry.Effect.TheVariants.{Write, Signal, Release}
use Rattle.core_model.specs.declared.flight.InFlight.{InFlight}
use Rattle.core_model.specs.History.{effects_of}
use Rattle.core_model.specs.Flight.{flight, flight_after, flight_after_effect, is_packet, launched_by, releases_packet, with_launched, CameAndStays, LawOfFlight, WasLaunchedAndStays}

-- a packet is one of some, item by item
abbrev among : InFlight → List InFlight → Type 0
among f [] = ⊥
among f (x ∷ xs) = (x ≡ f) ⊎ among f xs

Contains-among : (xs : List InFlight) (f : InFlight) → among f xs → Contains xs f
Contains-among [] f h = absurd h
Contains-among (x ∷ xs) f (inl same) = (0, omega arith, same)
Contains-among (x ∷ xs) f (inr h) = Contains-append_right (x ∷ []) xs f (Contains-among xs f h)

among-Contains : (xs : List InFlight) (f : InFlight) → Contains xs f → among f xs
among-Contains [] f (k, below, at) = absurd (omega (arith, below))
among-Contains (x ∷ xs) f (zero, below, at) = inl at
among-Contains (x ∷ xs) f (suc k, below, at) = inr (among-Contains xs f (k, omega (arith, below), at))

neither : (a b : Bool) → (a || b) ≡ false → (a ≡ false) × (b ≡ false)
neither false false e = (refl, refl)
neither true b e = absurd cc
neither false true e = absurd cc

none-split : (f : InFlight) (xs ys : List Effect) → list_any (releases_packet f) (xs ++ ys) ≡ false → (list_any (releases_packet f) xs ≡ false) × (list_any (releases_packet f) ys ≡ false)
none-split f xs ys e = neither _ _ (sym (list_any-append (releases_packet f) xs ys) ∙ e)

none-both : (f : InFlight) (xs ys : List Effect) → list_any (releases_packet f) xs ≡ false → list_any (releases_packet f) ys ≡ false → list_any (releases_packet f) (xs ++ ys) ≡ false
none-both f xs ys a b = list_any-append (releases_packet f) xs ys ∙ (rw (a, b) refl)

-- ---- one change

filtered : (test : InFlight → Bool) (xs : List InFlight) (f : InFlight) → among f (filter test xs) → among f xs × (test f ≡ true)
filtered test [] f h = absurd h
filtered test (x ∷ xs) f h = either (test x) refl h (filtered test xs f)
  where
    either : (b : Bool) → test x ≡ b → among f (if b then x ∷ filter test xs else filter test xs) → (among f (filter test xs) → among f xs × (test f ≡ true)) → ((x ≡ f) ⊎ among f xs) × (test f ≡ true)
    either true is (inl same) more = (inl same, sym (ap test same) ∙ is)
    either true is (inr h) more = let later = more h in (inr later.0, later.1)
    either false is h more = let later = more h in (inr later.0, later.1)

passing : (test : InFlight → Bool) (xs : List InFlight) (f : InFlight) → test f ≡ true → among f xs → among f (filter test xs)
passing test [] f pass h = absurd h
passing test (x ∷ xs) f pass h = either (test x) refl h (passing test xs f pass)
  where
    either : (b : Bool) → test x ≡ b → (x ≡ f) ⊎ among f xs → (among f xs → among f (filter test xs)) → among f (if b then x ∷ filter test xs else filter test xs)
    either true is (inl same) more = inl same
    either true is (inr h) more = inr (more h)
    either false is (inl same) more = let out : test f ≡ false = sym (ap test same) ∙ is in absurd cc
    either false is (inr h) more = more h

not_true : (b : Bool) → not b ≡ true → b ≡ false
not_true true e = absurd cc
not_true false e = refl

stayed : (effects : List Effect) (fs : List InFlight) (f : InFlight) → among f (fold flight_after_effect fs effects) → among f fs × (list_any (releases_packet f) effects ≡ false)
stayed [] fs f h = (h, refl)
stayed (Write address bytes ∷ rest) fs f h = stayed rest fs f h
stayed (Signal signal old new ∷ rest) fs f h = stayed rest fs f h
stayed (Release queue id ∷ rest) fs f h =
    let later = stayed rest (filter (λ g. not (is_packet queue id g)) fs) f h in
    let now = filtered (λ g. not (is_packet queue id g)) fs f later.0 in
    (now.0, rw (not_true (is_packet queue id f) now.1) later.1)

stays : (effects : List Effect) (fs : List InFlight) (f : InFlight) → list_any (releases_packet f) effects ≡ false → among f fs → among f (fold flight_after_effect fs effects)
stays [] fs f none h = h
stays (Write address bytes ∷ rest) fs f none h = stays rest fs f none h
stays (Signal signal old new ∷ rest) fs f none h = stays rest fs f none h
stays (Release queue id ∷ rest) fs f none h =
    let both = neither (is_packet queue id f) _ none in
    stays rest (filter (λ g. not (is_packet queue id g)) fs) f both.1 (passing (λ g. not (is_packet queue id g)) fs f (rw both.0 refl) h)

-- ---- one launch

among-left : (fs gs : List InFlight) (f : InFlight) → among f fs → among f (fs ++ gs)
among-left [] gs f h = absurd h
among-left (x ∷ xs) gs f (inl same) = inl same
among-left (x ∷ xs) gs f (inr h) = inr (among-left xs gs f h)

among-last : (fs : List InFlight) (f : InFlight) → among f (fs ++ f ∷ [])
among-last [] f = inl refl
among-last (x ∷ xs) f = inr (among-last xs f)

among-push : (fs : List InFlight) (g f : InFlight) → among f (fs ++ g ∷ []) → among f fs ⊎ (g ≡ f)
among-push [] g f (inl same) = inr same
among-push [] g f (inr h) = absurd h
among-push (x ∷ xs) g f (inl same) = inl (inl same)
among-push (x ∷ xs) g f (inr h) = elim (among-push xs g f h) [ inl before ↦ inl (inr before) | inr same ↦ inr same ]

with_launched-left : (fs : List InFlight) (o : Option InFlight) (f : InFlight) → among f fs → among f (with_launched fs o)
with_launched-left fs None f h = h
with_launched-left fs (Some g) f h = among-left fs (g ∷ []) f h

with_launched-last : (fs : List InFlight) (o : Option InFlight) (f : InFlight) → o ≡ Some f → among f (with_launched fs o)
with_launched-last fs o f is = rw is (among-last fs f)

with_launched-cases : (fs : List InFlight) (o : Option InFlight) (f : InFlight) → among f (with_launched fs o) → among f fs ⊎ (o ≡ Some f)
with_launched-cases fs None f h = inl h
with_launched-cases fs (Some g) f h = elim (among-push fs g f h) [ inl before ↦ inl before | inr same ↦ inr (ap Some same) ]

-- ---- entries

effects_of-first : (e : Entry) (es : List Entry) → effects_of (e ∷ es) ≡ e.effects ++ effects_of es
unfolding effects_of
effects_of-first e es = refl

was_launched-before : (e : Entry) (es : List Entry) (f : InFlight) → WasLaunchedAndStays es f → WasLaunchedAndStays (e ∷ es) f
was_launched-before e es f w = record {
  before = e ∷ w.before;
  launch = w.launch;
  since = w.since;
  entries_are = ap (λ rest. e ∷ rest) w.entries_are;
  launches = w.launches;
  stays = w.stays;
}

flown : (entries : List Entry) (fs : List InFlight) (f : InFlight) → among f (fold flight_after fs entries) → (among f fs × (list_any (releases_packet f) (effects_of entries) ≡ false)) ⊎ WasLaunchedAndStays entries f
unfolding effects_of
flown [] fs f h = inl (h, refl)
flown (e ∷ es) fs f h = elim (flown es (flight_after fs e) f h) [
  | inr launched ↦ inr (was_launched-before e es f launched)
  | inl both ↦
      let now = stayed e.effects (with_launched fs (launched_by e.event e.outcome)) f both.0 in
      let none = none-both f e.effects (effects_of es) now.1 both.1 in
      (elim (with_launched-cases fs (launched_by e.event e.outcome) f now.0) [
        | inl before ↦ inl (before, none)
        | inr launched ↦ inr (record { before = []; launch = e; since = es; entries_are = refl; launches = launched; stays = none })
      ])
]

flies : (entries : List Entry) (fs : List InFlight) (f : InFlight) → list_any (releases_packet f) (effects_of entries) ≡ false → among f fs → among f (fold flight_after fs entries)
flies [] fs f none h = h
flies (e ∷ es) fs f none h =
    let both = none-split f e.effects (effects_of es) (sym (ap (list_any (releases_packet f)) (effects_of-first e es)) ∙ none) in
    flies es (flight_after fs e) f both.1 (stays e.effects _ f both.0 (with_launched-left fs (launched_by e.event e.outcome) f h))

launched-flies : (fs : List InFlight) (before since : List Entry) (e : Entry) (f : InFlight) → launched_by e.event e.outcome ≡ Some f → list_any (releases_packet f) (effects_of (e ∷ since)) ≡ false → among f (fold flight_after fs (before ++ e ∷ since))
launched-flies fs before since e f launched none =
    let both = none-split f e.effects (effects_of since) (sym (ap (list_any (releases_packet f)) (effects_of-first e since)) ∙ none) in
    rw (fold-append flight_after fs before (e ∷ since))
    (flies since _ f both.1 (stays e.effects _ f both.0 (with_launched-last (fold flight_after fs before) _ f launched)))

pub law-of_flight : LawOfFlight
unfolding flight
law-of_flight start entries f = (λ h. there (flown entries start.flight f (among-Contains (fold flight_after start.flight entries) f h)), back)
  where
    there : (among f start.flight × (list_any (releases_packet f) (effects_of entries) ≡ false)) ⊎ WasLaunchedAndStays entries f → CameAndStays start entries f
    there (inl both) = inl (Contains-among start.flight f both.0, both.1)
    there (inr launched) = inr launched

    back : CameAndStays start entries f → Contains (fold flight_after start.flight entries) f
    back (inl both) = Contains-among _ f (flies entries start.flight f both.1 (among-Contains start.flight f both.0))
    back (inr w) = subst (λ es. Contains (fold flight_after start.flight es) f) (sym w.entries_are) (Contains-among _ f (launched-flies start.flight w.before w.since w.launch f w.launches w.stays))
