-- Each seat's part follows from its own steps, and retired packets have eight words.
use Rattle.std.proofs.Common.{◌≡◌, ◌≢◌, ℕ, zero, suc, ◌<◌, ◌≤◌, true, false, List, [], ◌∷◌, ◌++◌, length, map, get_or, set, refl, ap, ◌∙◌, sym, subst, arith, inl, inr, get_or-set_same, get_or-set_other, append_assoc, append-nil, length-append}
use Rattle.std.specs.Prelude.{Some, None, ◌==◌, unwrap_or}
use Rattle.std.specs.List.{filter, fold}
use Rattle.std.proofs.lemmas.Bool.Decides.{nat_tests, eqb_tells, leb_tells}
use Rattle.std.proofs.lemmas.List.{length-map, get_or-map, get_or-replicate, map-append, ext_get_or, get_or_append_left}
use Rattle.std.proofs.Math.Seq.{get_or-append_seam}
use Rattle.std.proofs.lemmas.List.Elements.{filter-append}
use Rattle.ring_core.specs.declared.access.Access.{Access}
use Rattle.ring_core.specs.declared.access.Access.TheVariants.{Reserve, LoadReadIndex, StoreBody, StoreHeader, LoadHeader, LoadBody, ClearHeader, RaiseReadIndex}
use Rattle.ring_core.specs.declared.access.Made.{Made}
use Rattle.ring_core.specs.declared.access.Step.{Step}
use Rattle.ring_core.specs.declared.part.SeatPart.{SeatPart}
use Rattle.ring_core.specs.declared.part.SeatPart.TheVariants.{Producer, Processor}
use Rattle.ring_core.specs.declared.part.ProcessorPart.{ProcessorPart}
use Rattle.ring_core.specs.Words.{word, packet_of}
use Rattle.ring_core.specs.Parts.{part_after, seen_by, new_producer, nobody}
use Rattle.ring_core.specs.Machine.{Machine, Leads, Replays, part_at, is_allowed, found, made, opened, knows_after, read_index}
use Rattle.ring_core.specs.Rule.{AreSeats, processor_of, IsRule}
use Rattle.ring_core.specs.Runs.{steps_of, word_read, after_own, begins_with, accesses_of, KnowsItsOwn, retired_at, ticket_words, all_known}
use Rattle.ring_core.proofs.Kept.{keeps, opens, seated, replays_keep}

-- ---- one step more

fold_more : (part : SeatPart) (steps : List Made) (made : Made) → fold after_own part (steps ++ made ∷ []) ≡ after_own (fold after_own part steps) made
fold_more part [] made = refl
fold_more part (first ∷ steps) made = fold_more (after_own part first) steps made

-- a store's word is looked at by nobody
pub after_seen : (part : SeatPart) (access : Access) (old : ℕ) → part_after part access (word_read (seen_by access old)) ≡ part_after part access old
after_seen (Producer p) Reserve old = refl
after_seen (Producer p) (LoadReadIndex ticket) old = refl
after_seen (Producer p) (StoreBody ticket place word) old = refl
after_seen (Producer p) (StoreHeader ticket word) old = refl
after_seen (Producer p) LoadHeader old = refl
after_seen (Producer p) (LoadBody place) old = refl
after_seen (Producer p) ClearHeader old = refl
after_seen (Producer p) RaiseReadIndex old = refl
after_seen (Processor p) Reserve old = refl
after_seen (Processor p) (LoadReadIndex ticket) old = refl
after_seen (Processor p) (StoreBody ticket place word) old = refl
after_seen (Processor p) (StoreHeader ticket word) old = refl
after_seen (Processor p) LoadHeader old = refl
after_seen (Processor p) (LoadBody place) old = refl
after_seen (Processor p) ClearHeader old = refl
after_seen (Processor p) RaiseReadIndex old = refl

steps_more : (part : SeatPart) (access : Access) (old : ℕ) → steps_of (part_after part access old) ≡ steps_of part ++ record { access = access; seen = seen_by access old } ∷ []
steps_more (Producer p) access old = refl
steps_more (Processor p) access old = refl

-- a part that follows from its steps still does after one more
follows_more : (begin part : SeatPart) (access : Access) (old : ℕ) → part ≡ fold after_own begin (steps_of part) →
    part_after part access old ≡ fold after_own begin (steps_of (part_after part access old))
follows_more begin part access old h =
    let made : Made = record { access = access; seen = seen_by access old } in
    let all : fold after_own begin (steps_of (part_after part access old)) ≡ after_own (fold after_own begin (steps_of part)) made =
    ap (fold after_own begin) (steps_more part access old) ∙ fold_more begin (steps_of part) made in
    sym (all ∙ ap (λ p. after_own p made) (sym h) ∙ after_seen part access old)

own_more : (part : SeatPart) (access : Access) (old : ℕ) (before : List Access) → map (λ m. m.access) (steps_of part) ≡ before →
    map (λ m. m.access) (steps_of (part_after part access old)) ≡ before ++ access ∷ []
own_more part access old before h =
    ap (map (λ m. m.access)) (steps_more part access old) ∙ map-append (λ m. m.access) (steps_of part) (record { access = access; seen = seen_by access old } ∷ []) ∙ ap (λ xs. xs ++ access ∷ []) h

accesses_more : (seat : ℕ) (steps : List Step) (step : Step) → accesses_of seat (steps ++ step ∷ []) ≡ accesses_of seat steps ++ accesses_of seat (step ∷ [])
accesses_more seat steps step =
    ap (map (λ s. s.access)) (filter-append (λ s. s.seat == seat) steps (step ∷ []))
    ∙ map-append (λ s. s.access) (filter (λ s. s.seat == seat) steps) (filter (λ s. s.seat == seat) (step ∷ []))

-- the step's own seat
own_seat : (machine : Machine) (done : List Step) (step : Step) → step.seat < length machine.parts → KnowsItsOwn done machine step.seat → KnowsItsOwn (done ++ step ∷ []) (made machine step) step.seat
own_seat machine done step lt h =
    let at : part_at (made machine step) step.seat ≡ knows_after machine step = get_or-set_same machine.parts step.seat (knows_after machine step) nobody lt in
    let mine : (step.seat == step.seat) ≡ true = grind (arith, nat_tests) in
    let e : accesses_of step.seat (step ∷ []) ≡ step.access ∷ [] = rw mine refl in
    record {
      own = ap (λ p. map (λ m. m.access) (steps_of p)) at
          ∙ own_more (part_at machine step.seat) step.access (found machine step) (accesses_of step.seat done) h.own
          ∙ ap (λ xs. accesses_of step.seat done ++ xs) (sym e) ∙ sym (accesses_more step.seat done step);
      follows = at ∙ follows_more (begins_with step.seat) (part_at machine step.seat) step.access (found machine step) h.follows
          ∙ ap (λ p. fold after_own (begins_with step.seat) (steps_of p)) (sym at);
    }

-- another seat
other_seat : (machine : Machine) (done : List Step) (step : Step) (seat : ℕ) → seat ≢ step.seat → KnowsItsOwn done machine seat → KnowsItsOwn (done ++ step ∷ []) (made machine step) seat
other_seat machine done step seat apart h =
    let at : part_at (made machine step) seat ≡ part_at machine seat = get_or-set_other machine.parts step.seat seat (knows_after machine step) nobody apart in
    let other : (step.seat == seat) ≡ false = grind (arith, nat_tests) in
    let e : accesses_of seat (step ∷ []) ≡ [] = rw other refl in
    record {
      own = ap (λ p. map (λ m. m.access) (steps_of p)) at ∙ h.own ∙ sym (append-nil (accesses_of seat done))
          ∙ ap (λ xs. accesses_of seat done ++ xs) (sym e) ∙ sym (accesses_more seat done step);
      follows = at ∙ h.follows ∙ ap (λ p. fold after_own (begins_with seat) (steps_of p)) (sym at);
    }

each_seat : (machine : Machine) (done : List Step) (step : Step) → is_allowed machine step ≡ true → (seat : ℕ) → KnowsItsOwn done machine seat → KnowsItsOwn (done ++ step ∷ []) (made machine step) seat
each_seat machine done step may seat h =
    elim (eqb_tells seat step.seat) [
      | inl same ↦
          subst (λ n. KnowsItsOwn (done ++ step ∷ []) (made machine step) n) (sym same.1)
          (own_seat machine done step (seated machine.size machine.parts step.seat step.access may) (subst (λ n. KnowsItsOwn done machine n) same.1 h))
      | inr other ↦ other_seat machine done step seat other.1 h
    ]

-- ---- all steps

all_steps : (machine : Machine) (done steps : List Step) (last : Machine) (seat : ℕ) → Leads machine steps last → KnowsItsOwn done machine seat → KnowsItsOwn (done ++ steps) last seat
all_steps machine done [] last seat leads h =
    subst (λ m. KnowsItsOwn (done ++ []) m seat) (sym leads) (subst (λ ss. KnowsItsOwn ss machine seat) (sym (append-nil done)) h)
all_steps machine done (step ∷ steps) last seat leads h =
    subst (λ ss. KnowsItsOwn ss last seat) (append_assoc done (step ∷ []) steps)
    (all_steps (made machine step) (done ++ step ∷ []) steps last seat leads.1 (each_seat machine done step leads.0 seat h))

at_opening : (size producers seat : ℕ) → seat ≤ producers → KnowsItsOwn [] (opened size producers) seat
at_opening size producers zero le = record { own = refl; follows = refl }
at_opening size producers (suc seat) le =
    let lt : seat < producers = omega arith in
    let at : part_at (opened size producers) (suc seat) ≡ new_producer = get_or-replicate producers seat new_producer nobody lt in
    record {
      own = ap (λ p. map (λ m. m.access) (steps_of p)) at;
      follows = at ∙ ap (λ p. fold after_own new_producer (steps_of p)) (sym at);
    }

pub knows_its_own : (size producers : ℕ) (steps : List Step) (machine : Machine) (seat : ℕ) → Replays size producers steps machine → seat ≤ producers → KnowsItsOwn steps machine seat
knows_its_own size producers steps machine seat leads le = all_steps (opened size producers) [] steps machine seat leads (at_opening size producers seat le)

-- ---- retired packets

abbrev AreEight : List (List ℕ) → Type 0
AreEight packets = (id : ℕ) → id < length packets → length (get_or packets id []) ≡ 8

eight_more : (packets : List (List ℕ)) (packet : List ℕ) → AreEight packets → length packet ≡ 8 → AreEight (packets ++ packet ∷ [])
eight_more packets packet all one id lt =
    elim (leb_tells (length packets) id) [
      | inr below ↦ let near : id < length packets = omega (arith, below.1) in ap length (get_or_append_left packets (packet ∷ []) [] id near) ∙ all id near
      | inl past ↦
          let e : id ≡ length packets = omega (arith, past.1, lt, length-append packets (packet ∷ [])) in
          ap (λ i. length (get_or (packets ++ packet ∷ []) i [])) e ∙ ap length (get_or-append_seam packets packet [] []) ∙ one
    ]

-- the read index rises over a packet of eight words
eight_access : (q : ProcessorPart) (access : Access) (old : ℕ) → length q.collected ≡ 8 → AreEight q.retired → AreEight (processor_of (part_after (Processor q) access old ∷ [])).retired
eight_access q Reserve old few all = all
eight_access q (LoadReadIndex ticket) old few all = all
eight_access q (StoreBody ticket place word) old few all = all
eight_access q (StoreHeader ticket word) old few all = all
eight_access q LoadHeader old few all = all
eight_access q (LoadBody place) old few all = all
eight_access q ClearHeader old few all = all
eight_access q RaiseReadIndex old few all = eight_more q.retired (packet_of q.collected) all (length-map q.collected (λ w. unwrap_or w 0) ∙ few)

eight_parts : (n : ℕ) (parts : List SeatPart) (seat : ℕ) (access : Access) (old : ℕ) → AreSeats n parts → length (processor_of parts).collected ≡ 8 → AreEight (processor_of parts).retired →
    AreEight (processor_of (set parts seat (part_after (get_or parts seat nobody) access old))).retired
eight_parts n [] seat access old seats few all = absurd seats
eight_parts n (Producer p ∷ rest) seat access old seats few all = absurd seats
eight_parts n (Processor q ∷ rest) zero access old seats few all = eight_access q access old few all
eight_parts n (Processor q ∷ rest) (suc seat) access old seats few all = all

eight_steps : (n : ℕ) (machine : Machine) (steps : List Step) (last : Machine) → IsRule n machine → AreEight (processor_of machine.parts).retired → Leads machine steps last → AreEight (processor_of last.parts).retired
eight_steps n machine [] last rule all leads = subst (λ (m : Machine). AreEight (processor_of m.parts).retired) (sym leads) all
eight_steps n machine (step ∷ steps) last rule all leads =
    eight_steps n (made machine step) steps last (keeps n machine step rule leads.0)
    (eight_parts n machine.parts step.seat step.access (found machine step) rule.shared.seats rule.tied.eight_collected all) leads.1

module _ (size producers : ℕ) (steps : List Step) (machine : Machine) (id : ℕ) (some : 0 < size) (leads : Replays size producers steps machine) (lt : id < read_index machine) where
  rule : IsRule producers machine
  rule = replays_keep size producers steps machine some leads

  pub retired_eight : length (retired_at machine id) ≡ 8
  retired_eight = eight_steps producers (opened size producers) steps machine (opens producers size some) (λ i below. absurd (omega arith)) leads id (let c = rule.tied.count in omega (arith, c, lt))

  pub retired_words : ticket_words machine id ≡ all_known (retired_at machine id)
  retired_words =
      let eight : length (all_known (retired_at machine id)) ≡ 8 = length-map (retired_at machine id) (λ w. Some w) ∙ retired_eight in
      ext_get_or None (ticket_words machine id) (all_known (retired_at machine id)) (rule.tied.eight id ∙ sym eight)
      (λ k below.
      let near : k < 8 = omega (arith, below, rule.tied.eight id) in
      let here : k < length (retired_at machine id) = omega (arith, near, retired_eight) in
      rule.tied.retired id k lt near ∙ sym (get_or-map (λ w. Some w) (retired_at machine id) k 0 None here))
