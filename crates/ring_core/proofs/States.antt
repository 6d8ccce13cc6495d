-- What a ring state is known to be, for the code that steps it.
use Rattle.std.proofs.Common.{◌≡◌, ℕ, zero, suc, ◌+◌, ◌-◌, ◌*◌, ◌^◌, ◌<◌, ◌≤◌, Bool, true, false, List, [], ◌∷◌, ◌++◌, length, get_or, set, take, refl, ap, ◌∙◌, sym, subst, arith, cond, inl, inr, length-set}
use Rattle.std.specs.Prelude.{unwrap_or, sum_by, nat_lt, not, Option, Some, None, is_some, Result, Err}
use Rattle.std.proofs.lemmas.Bool.Decides.{nat_tests, leb_tells}
use Rattle.std.proofs.lemmas.List.{length-replicate, get_or_read, take_more, take_all}
use Rattle.ring_core.specs.declared.access.Access.{Access}
use Rattle.ring_core.specs.declared.access.Access.TheVariants.{Reserve, LoadReadIndex, StoreBody, StoreHeader, LoadHeader, LoadBody, ClearHeader, RaiseReadIndex}
use Rattle.ring_core.specs.declared.access.Step.{Step}
use Rattle.ring_core.specs.declared.access.Seen.{Seen}
use Rattle.ring_core.specs.declared.ticket.Ticket.{Ticket}
use Rattle.ring_core.specs.declared.part.SeatPart.{SeatPart}
use Rattle.ring_core.specs.declared.state.StepFault.{StepFault}
use Rattle.ring_core.specs.declared.state.StepFault.TheVariants as step
use Rattle.ring_core.specs.Faults.{IsReplayFault, fault_at}
use Rattle.ring_core.specs.declared.part.SeatPart.TheVariants.{Producer, Processor}
use Rattle.ring_core.specs.Words.{word, is_body, has_body, is_invalid}
use Rattle.ring_core.specs.Tickets.{blank, is_published, shows_room, open_ticket, IsAbove}
use Rattle.ring_core.specs.Parts.{may_make, part_after, new_producer, nobody, seen_by, passes, SuitsPart}
use Rattle.aql_packet.specs.Ring.{is_ring_size}
use Rattle.ring_core.specs.Machine.{Machine, Makes, Leads, Replays, StopsAt, slot_word, write_index, read_index, place_of, word_after, part_at, is_allowed, touched, found, made, opened, producers_of, Fits64, NamesWord}
use Rattle.ring_core.specs.Rule.{tickets_of, all_tickets, ticket_of, times, allowance_of, AreSeats, processor_of, IsRule, IsRing}
use Rattle.ring_core.proofs.Places.{place_in}
use Rattle.ring_core.proofs.Sizes.{ring_size_bounds}
use Rattle.ring_core.proofs.Seats.{held_absent, all_below}
use Rattle.ring_core.proofs.Tied.{some_of, collected_published}
use Rattle.ring_core.proofs.Kept.{keeps, opens, seated, both, producer_of, producers_all}

-- a ring opens as a ring state
pub ring_opens : (size producers : ℕ) → is_ring_size size ≡ true → producers ≤ 16 → IsRing (opened size producers)
ring_opens size producers fits few =
    let e : producers_of (opened size producers) ≡ producers = omega (arith, length-replicate producers new_producer) in
    let b = ring_size_bounds size fits in
    record {
      rule = subst (λ (n : ℕ). IsRule n (opened size producers)) (sym e) (opens producers size b.0);
      few_producers = omega (arith, e);
      ring_size = fits;
    }

-- a step that is allowed leads from one ring state to another
pub ring_steps : (machine : Machine) (step : Step) → IsRing machine → is_allowed machine step ≡ true → IsRing (made machine step)
ring_steps machine step h may =
    let e : producers_of (made machine step) ≡ producers_of machine = ap (λ n. n - 1) (length-set machine.parts step.seat (part_after (part_at machine step.seat) step.access (found machine step))) in
    record {
      rule = subst (λ (n : ℕ). IsRule n (made machine step)) (sym e) (keeps (producers_of machine) machine step h.rule may);
      few_producers = omega (arith, e, h.few_producers);
      ring_size = h.ring_size;
    }

-- an access that is allowed names one of the eight words, if it names one
pub names_word : (size : ℕ) (part : SeatPart) (access : Access) → may_make size part access ≡ true → NamesWord access
names_word size part Reserve may = tt
names_word size part (LoadReadIndex ticket) may = tt
names_word size (Producer p) (StoreBody ticket place word) may = let b = (both (is_body place) _ may).0 in grind (arith, nat_tests)
names_word size (Processor q) (StoreBody ticket place word) may = absurd (cc)
names_word size part (StoreHeader ticket word) may = tt
names_word size part LoadHeader may = tt
names_word size (Producer p) (LoadBody place) may = absurd (cc)
names_word size (Processor q) (LoadBody place) may = let b = (both (is_body place) _ may).0 in grind (arith, nat_tests)
names_word size part ClearHeader may = tt
names_word size part RaiseReadIndex may = tt

pub within : (size r : ℕ) (access : Access) → 0 < size → NamesWord access → place_of size r access < 2 + 8 * size
within size r Reserve pos named = omega arith
within size r (LoadReadIndex ticket) pos named = omega arith
within size r (StoreBody ticket place word) pos named = place_in size ticket.0 place pos named
within size r (StoreHeader ticket word) pos named = place_in size ticket.0 0 pos (omega arith)
within size r LoadHeader pos named = place_in size r 0 pos (omega arith)
within size r (LoadBody place) pos named = place_in size r place pos named
within size r ClearHeader pos named = place_in size r 0 pos (omega arith)
within size r RaiseReadIndex pos named = omega arith

-- the word that an allowed step touches is one of the ring's
pub touched_within : (machine : Machine) (step : Step) → IsRing machine → is_allowed machine step ≡ true → touched machine step < length machine.words
touched_within machine step h may =
    let lt : touched machine step < 2 + 8 * machine.size = within machine.size (read_index machine) step.access h.rule.slots (names_word machine.size (part_at machine step.seat) step.access may) in
    omega (arith, lt, h.rule.words)

-- a published id is reserved
published_reserved : (n : ℕ) (machine : Machine) (id : ℕ) → IsRule n machine → is_published (ticket_of machine.parts id) ≡ true → id < write_index machine
published_reserved n machine id h p =
    elim (leb_tells (write_index machine) id) [
      | inr g ↦ g.1
      | inl g ↦
          let above : nat_lt id (write_index machine) ≡ false = grind (arith, nat_tests) in
          let z : times id (all_tickets machine.parts) ≡ 0 = h.shared.named id ∙ ap (λ b. cond {A = ℕ} b 1 0) above in
          let none : is_published (ticket_of machine.parts id) ≡ false = ap (λ o. is_published (unwrap_or o blank)) (held_absent id (all_tickets machine.parts) z) in
          absurd (cc)
    ]

-- the write index stays far below 2^64
few_reserved : (machine : Machine) → IsRing machine → write_index machine ≤ 16 * 2 ^ 40
few_reserved machine h =
    let a : write_index machine + sum_by allowance_of machine.parts ≡ producers_of machine * 2 ^ 40 = h.rule.shared.allowances in
    let f : producers_of machine ≤ 16 = h.few_producers in
    omega arith

-- only the processor raises the read index, and only between clearing and raising
pub raises : (n size : ℕ) (parts : List SeatPart) (seat : ℕ) → AreSeats n parts → may_make size (get_or parts seat nobody) RaiseReadIndex ≡ true → (processor_of parts).raising ≡ true
raises n size [] seat seats may = absurd seats
raises n size (Producer p ∷ rest) seat seats may = absurd seats
raises n size (Processor q ∷ rest) zero seats may = may
raises n size (Processor q ∷ rest) (suc seat) seats may =
    let p = producer_of (get_or rest seat nobody) (producers_all rest seat seats.1) in
    let none : may_make size (get_or rest seat nobody) RaiseReadIndex ≡ false = ap (λ u. may_make size u RaiseReadIndex) p.1 in
    absurd (cc)

-- a ticket that passes a test is there
passed : (test : Ticket → Bool) (ticket : Option Ticket) → passes test ticket ≡ true → is_some ticket ≡ true
passed test None may = absurd (cc)
passed test (Some ticket) may = refl

-- an allowed step that adds to a word leaves it within 64 bits
pub fits_by : (machine : Machine) (access : Access) → IsRing machine → (access ≡ RaiseReadIndex → (processor_of machine.parts).raising ≡ true) → Fits64 access (get_or machine.words (place_of machine.size (read_index machine) access) 0)
fits_by machine Reserve h raising = let f : write_index machine ≤ 16 * 2 ^ 40 = few_reserved machine h in omega (arith, f)
fits_by machine RaiseReadIndex h raising =
    let q = processor_of machine.parts in
    let stands : q.raising ≡ true = raising refl in
    let u = some_of (word q.collected 0) (h.rule.tied.complete 0 stands (omega arith)) in
    let p : is_published (ticket_of machine.parts (read_index machine)) ≡ true = collected_published machine.size (read_index machine) (slot_word machine) (ticket_of machine.parts) q.retired q.collected q.raising h.rule.slots h.rule.tied 0 u.0 u.1 in
    let lt : read_index machine < write_index machine = published_reserved (producers_of machine) machine (read_index machine) h.rule p in
    let f : write_index machine ≤ 16 * 2 ^ 40 = few_reserved machine h in
    omega (arith, f, lt)
fits_by machine (LoadReadIndex ticket) h raising = tt
fits_by machine (StoreBody ticket place word) h raising = tt
fits_by machine (StoreHeader ticket word) h raising = tt
fits_by machine LoadHeader h raising = tt
fits_by machine (LoadBody place) h raising = tt
fits_by machine ClearHeader h raising = tt

-- what the code of a step knows of the fields that it reads: `allowed` is the test's answer, `r` the read index, and
-- `place` where the access goes
module _ (size : ℕ) (words : List ℕ) (parts : List SeatPart) (value : Machine) (step : Step) (r place : ℕ) (allowed : Bool)
    (view : ◌≡◌ {A = Machine} (record { size = size; words = words; parts = parts }) value) (h : IsRing (record { size = size; words = words; parts = parts }))
    (allows : allowed ≡ is_allowed value step) (yes : allowed ≡ true)
    (reads : r ≡ get_or words 1 r) (goes : place ≡ place_of size r step.access) where
  may : is_allowed (record { size = size; words = words; parts = parts }) step ≡ true
  may = ap (λ m. is_allowed m step) view ∙ sym allows ∙ yes

  place_is : place ≡ touched (record { size = size; words = words; parts = parts }) step
  place_is =
      let in1 : 1 < length words = omega (arith, h.rule.words, h.rule.slots) in
      let e : r ≡ get_or words 1 0 = get_or_read words 1 r in1 reads 0 in
      goes ∙ ap (λ i. place_of size i step.access) e

  pub place_within : place < length words
  place_within =
      let lt : touched (record { size = size; words = words; parts = parts }) step < length words = touched_within (record { size = size; words = words; parts = parts }) step h may in
      omega (arith, lt, place_is)

  -- `old` is the word at that place
  module _ (old : ℕ) (finds : old ≡ get_or words place old) where
    old_is : old ≡ found (record { size = size; words = words; parts = parts }) step
    old_is = get_or_read words place old place_within finds 0 ∙ ap (λ i. get_or words i 0) place_is

    pub old_fits : Fits64 step.access old
    old_fits =
        let f : Fits64 step.access (found (record { size = size; words = words; parts = parts }) step) = fits_by (record { size = size; words = words; parts = parts }) step.access h
        (λ e. raises (producers_of (record { size = size; words = words; parts = parts })) size parts step.seat h.rule.shared.seats (ap (λ a. may_make size (get_or parts step.seat nobody) a) (sym e) ∙ may)) in
        subst (λ (n : ℕ). Fits64 step.access n) (sym old_is) f

    -- an id that is reserved is above those that its seat has, and a ticket that is named is open
    pub suits : (part : SeatPart) → part ≡ get_or parts step.seat part → SuitsPart part step.access old
    suits part has =
        let lt : step.seat < length parts = seated size parts step.seat step.access may in
        let e : part ≡ get_or parts step.seat nobody = get_or_read parts step.seat part lt has nobody in
        let n : SuitsPart (get_or parts step.seat nobody) step.access (found (record { size = size; words = words; parts = parts }) step) =
        new_by (get_or parts step.seat nobody) step.access (get_or words 0 0) (found (record { size = size; words = words; parts = parts }) step)
        may (all_below (get_or words 0 0) parts step.seat h.rule.shared.named) (λ a. ap (λ x. get_or words (place_of size (get_or words 1 0) x) 0) a) in
        subst (λ (u : SeatPart). SuitsPart u step.access old) (sym e) (subst (λ (w : ℕ). SuitsPart (get_or parts step.seat nobody) step.access w) (sym old_is) n)
      where
        new_by : (part : SeatPart) (access : Access) (w old : ℕ) → may_make size part access ≡ true → IsAbove w (tickets_of part) → (access ≡ Reserve → old ≡ w) → SuitsPart part access old
        new_by (Processor q) access w old can above is = tt
        new_by (Producer p) Reserve w old can above is = subst (λ (n : ℕ). IsAbove n p.tickets) (sym (is refl)) above
        new_by (Producer p) (LoadReadIndex ticket) w old can above is = can
        new_by (Producer p) (StoreBody ticket place word) w old can above is =
            let b = both (is_body place) (passes (λ t. shows_room size ticket.0 t.saw) (open_ticket ticket.0 p.tickets)) can in
            (passed (λ t. shows_room size ticket.0 t.saw) (open_ticket ticket.0 p.tickets) b.1, b.0)
        new_by (Producer p) (StoreHeader ticket word) w old can above is =
            let b = both (not (is_invalid word)) (passes (λ t. has_body t.words) (open_ticket ticket.0 p.tickets)) can in
            passed (λ t. has_body t.words) (open_ticket ticket.0 p.tickets) b.1
        new_by (Producer p) LoadHeader w old can above is = tt
        new_by (Producer p) (LoadBody place) w old can above is = tt
        new_by (Producer p) ClearHeader w old can above is = tt
        new_by (Producer p) RaiseReadIndex w old can above is = tt

    -- the fields after the step
    pub leads_to : (w : ℕ) (part part' : SeatPart) → w ≡ word_after step.access old → part ≡ get_or parts step.seat part → part' ≡ part_after part step.access old → ◌≡◌ {A = Machine} (record { size = size; words = set words place w; parts = set parts step.seat part' }) (made value step)
    leads_to w part part' writes has knows =
        let lt : step.seat < length parts = seated size parts step.seat step.access may in
        let e : part ≡ get_or parts step.seat nobody = get_or_read parts step.seat part lt has nobody in
        let a : w ≡ word_after step.access (found (record { size = size; words = words; parts = parts }) step) = writes ∙ ap (word_after step.access) old_is in
        let b : part' ≡ part_after (get_or parts step.seat nobody) step.access (found (record { size = size; words = words; parts = parts }) step) = knows ∙ ap (λ u. part_after u step.access old) e ∙ ap (part_after (get_or parts step.seat nobody) step.access) old_is in
        let f : ◌≡◌ {A = Machine} (record { size = size; words = set words place w; parts = set parts step.seat part' }) (made (record { size = size; words = words; parts = parts }) step) =
        λ i. record { size = size; words = set words (place_is i) (a i); parts = set parts step.seat (b i) } in
        f ∙ ap (λ m. made m step) view

    pub ring_after : (w : ℕ) (part part' : SeatPart) → w ≡ word_after step.access old → part ≡ get_or parts step.seat part → part' ≡ part_after part step.access old → IsRing (record { size = size; words = set words place w; parts = set parts step.seat part' })
    ring_after w part part' writes has knows =
        let v : IsRing (made value step) = subst (λ (m : Machine). IsRing (made m step)) view (ring_steps (record { size = size; words = words; parts = parts }) step h may) in
        subst (λ (m : Machine). IsRing m) (sym (leads_to w part part' writes has knows)) v

    pub makes : (w : ℕ) (part part' : SeatPart) (seen : Seen) → w ≡ word_after step.access old → part ≡ get_or parts step.seat part → part' ≡ part_after part step.access old → seen ≡ seen_by step.access old → Makes value step seen (record { size = size; words = set words place w; parts = set parts step.seat part' })
    makes w part part' seen writes has knows tells =
        record {
          allowed = sym allows ∙ yes;
          told = tells ∙ ap (seen_by step.access) (old_is ∙ ap (λ m. found m step) view);
          leads = leads_to w part part' writes has knows;
        }

-- ---- lists of steps

-- one step more
pub leads_push : (machine : Machine) (steps : List Step) (mid : Machine) (step : Step) → Leads machine steps mid → is_allowed mid step ≡ true → Leads machine (steps ++ step ∷ []) (made mid step)
leads_push machine [] mid step leads may = (ap (λ m. is_allowed m step) (sym leads) ∙ may, ap (λ m. made m step) leads)
leads_push machine (first ∷ steps) mid step leads may = (leads.0, leads_push (made machine first) steps mid step leads.1 may)

pub leads_more : (machine : Machine) (steps : List Step) (i : ℕ) (d : Step) (mid next : Machine) (seen : Seen) → i < length steps → Leads machine (take i steps) mid → Makes mid (get_or steps i d) seen next → Leads machine (take (i + 1) steps) next
leads_more machine steps i d mid next seen lt leads makes =
    let step : Step = get_or steps i d in
    let l : Leads machine (take i steps ++ step ∷ []) (made mid step) = leads_push machine (take i steps) mid step leads makes.allowed in
    let m : Leads machine (take (i + 1) steps) (made mid step) = subst (λ (ss : List Step). Leads machine ss (made mid step)) (sym (take_more steps i d lt)) l in
    subst (λ (n : Machine). Leads machine (take (i + 1) steps) n) (sym makes.leads) m

pub leads_all : (machine : Machine) (steps : List Step) (i : ℕ) (last : Machine) → length steps ≤ i → Leads machine (take i steps) last → Leads machine steps last
leads_all machine steps i last le leads = subst (λ (ss : List Step). Leads machine ss last) (take_all i steps le) leads

-- the first step that is not allowed
pub stops_here : (machine : Machine) (steps : List Step) (i : ℕ) (d : Step) (mid : Machine) → i < length steps → Leads machine (take i steps) mid → is_allowed mid (get_or steps i d) ≡ false → StopsAt machine steps i
stops_here machine [] i d mid lt leads stop = absurd (omega arith)
stops_here machine (first ∷ steps) zero d mid lt leads stop = ap (λ m. is_allowed m first) (sym leads) ∙ stop
stops_here machine (first ∷ steps) (suc i) d mid lt leads stop = (leads.0, stops_here (made machine first) steps i d mid (omega arith) leads.1 stop)

-- a step more after steps that lead here from the opening
pub replays_push : (size producers : ℕ) (steps : List Step) (mid next : Machine) (step : Step) (seen : Seen) → Replays size producers steps mid → Makes mid step seen next → Replays size producers (steps ++ step ∷ []) next
replays_push size producers steps mid next step seen leads makes =
    subst (λ (m : Machine). Replays size producers (steps ++ step ∷ []) m) (sym makes.leads) (leads_push (opened size producers) steps mid step leads makes.allowed)

-- a step that is refused stops the list, unless memory was wanted
pub fault_stops : (size producers : ℕ) (steps : List Step) (i : ℕ) (d : Step) (mid : Machine) (result : Result Seen StepFault) (fault : StepFault) → i < length steps → Leads (opened size producers) (take i steps) mid →
    (result ≡ Err step.NotAStep → is_allowed mid (get_or steps i d) ≡ false) → result ≡ Err fault → IsReplayFault size producers steps (fault_at i fault)
fault_stops size producers steps i d mid result step.OutOfMemory lt leads exact is = tt
fault_stops size producers steps i d mid result step.NotAStep lt leads exact is = stops_here (opened size producers) steps i d mid lt leads (exact is)
