-- What is published stays published as it was, the read index rises only where its header was cleared, and the words that the
-- processor has collected, once they are whole, are the packet published under its index.
use Rattle.std.proofs.Common.{◌≡◌, ◌≢◌, ℕ, zero, suc, ◌+◌, ◌<◌, ◌≤◌, Bool, true, false, List, [], ◌∷◌, ◌++◌, length, get_or, set, refl, ap, ◌∙◌, sym, subst, arith, cond, inl, inr, get_or-set_same, get_or-set_other}
use Rattle.std.specs.Prelude.{◌⊎◌, Option, Some, None, is_some, not, if◌then◌else◌, unwrap_or, nat_lt}
use Rattle.std.specs.List.{list_all}
use Rattle.std.proofs.lemmas.Bool.Decides.{nat_tests, eqb_tells}
use Rattle.ring_core.specs.declared.ticket.Ticket.{Ticket}
use Rattle.ring_core.specs.declared.ticket.HeldTicket.{HeldTicket}
use Rattle.ring_core.specs.declared.access.Access.{Access}
use Rattle.ring_core.specs.declared.access.Access.TheVariants.{Reserve, LoadReadIndex, StoreBody, StoreHeader, LoadHeader, LoadBody, ClearHeader, RaiseReadIndex}
use Rattle.ring_core.specs.declared.access.Step.{Step}
use Rattle.ring_core.specs.declared.part.ProducerPart.{ProducerPart}
use Rattle.ring_core.specs.declared.part.ProcessorPart.{ProcessorPart}
use Rattle.ring_core.specs.declared.part.SeatPart.{SeatPart}
use Rattle.ring_core.specs.declared.part.SeatPart.TheVariants.{Producer, Processor}
use Rattle.ring_core.specs.Words.{word, is_body, has_body, packet_of, is_invalid}
use Rattle.ring_core.specs.Tickets.{blank, is_published, shows_room, seeing, writing, held, only_open, open_ticket, changed}
use Rattle.ring_core.specs.Parts.{passes, producer_may, may_make, after_producing, nobody}
use Rattle.ring_core.specs.Machine.{Machine, word_place, place_of, word_after, read_index, slot_word, is_allowed, made}
use Rattle.ring_core.specs.Rule.{tickets_of, all_tickets, ticket_of, times, processor_of, IsRule}
use Rattle.ring_core.proofs.Places.{low_kept}
use Rattle.ring_core.proofs.Tied.{some_of, collected_published}
use Rattle.ring_core.proofs.Seats.{seat_held, ticket_changed, ticket_reserved}
use Rattle.ring_core.proofs.Kept.{both, producer_of, producers_all, seated}

-- ---- a published ticket stays

open_is : (o : Option Ticket) (t : Ticket) → only_open o ≡ Some t → (o ≡ Some t) × (is_published t ≡ false)
open_is None t e = absurd (cc)
open_is (Some u) t e = by_test (is_published u) refl e
  where
    by_test : (b : Bool) → is_published u ≡ b → (if b then None else Some u) ≡ Some t → (Some u ≡ Some t) × (is_published t ≡ false)
    by_test true p f = absurd (cc)
    by_test false p f = let g : u ≡ t = cc in (f, ap is_published (sym g) ∙ p)

found_open : (o : Option Ticket) → is_some o ≡ true → (t : Ticket) × (o ≡ Some t)
found_open None h = absurd (cc)
found_open (Some t) h = (t, refl)

passing : (test : Ticket → Bool) (o : Option Ticket) → passes test o ≡ true → is_some o ≡ true
passing test None h = absurd (cc)
passing test (Some t) h = refl

module _ (n size : ℕ) (words : List ℕ) (q : ProcessorPart) (rest : List SeatPart) (seat : ℕ) (p : ProducerPart) (here : get_or rest seat nobody ≡ Producer p) (within : seat < length rest) (h : IsRule n (record { size = size; words = words; parts = Processor q ∷ rest })) where
  once : (id : ℕ) → times id (all_tickets rest) ≤ 1
  once id = let e : times id (all_tickets rest) ≡ cond (nat_lt id (get_or words 0 0)) 1 0 = h.shared.named id in at_most_one (nat_lt id (get_or words 0 0)) (times id (all_tickets rest)) e
    where
      at_most_one : (b : Bool) (m : ℕ) → m ≡ cond b 1 0 → m ≤ 1
      at_most_one true m e = omega arith
      at_most_one false m e = omega arith

  -- a change of an open ticket is none of a published one
  changing_stays : (id : ℕ) (change : Ticket → Ticket) (p' : ProducerPart) → is_some (open_ticket id p.tickets) ≡ true → p'.tickets ≡ changed id change p.tickets
      → (j : ℕ) → is_published (ticket_of (Processor q ∷ rest) j) ≡ true → ticket_of (Processor q ∷ set rest seat (Producer p')) j ≡ ticket_of (Processor q ∷ rest) j
  changing_stays id change p' some same j published =
      let t = found_open (open_ticket id p.tickets) some in
      let o = open_is (held id p.tickets) t.0 t.1 in
      let has : held id (tickets_of (get_or rest seat nobody)) ≡ Some t.0 = ap (λ u. held id (tickets_of u)) here ∙ o.0 in
      let its : ticket_of (Processor q ∷ rest) id ≡ t.0 = ap (λ x. unwrap_or x blank) (seat_held id rest seat t.0 (once id) has) in
      let free : is_published (ticket_of (Processor q ∷ rest) id) ≡ false = ap is_published its ∙ o.1 in
      let moved = ticket_changed id change (Processor q ∷ rest) (suc seat) (Producer p') t.0 (once id) has (same ∙ ap (λ u. changed id change (tickets_of u)) (sym here)) j in
      elim (eqb_tells j id) [
        | inl g ↦ let f : is_published (ticket_of (Processor q ∷ rest) j) ≡ false = subst (λ (i : ℕ). is_published (ticket_of (Processor q ∷ rest) i) ≡ false) (sym g.1) free in absurd (cc)
        | inr g ↦ moved ∙ ap (λ b. if b then change (ticket_of (Processor q ∷ rest) id) else ticket_of (Processor q ∷ rest) j) g.0
      ]

  producer_stays : (access : Access) → producer_may size p access ≡ true → (old : ℕ) → (access ≡ Reserve → old ≡ get_or words 0 0)
      → (j : ℕ) → is_published (ticket_of (Processor q ∷ rest) j) ≡ true → ticket_of (Processor q ∷ set rest seat (Producer (after_producing p access old))) j ≡ ticket_of (Processor q ∷ rest) j
  producer_stays Reserve may old is j published =
      let new : times old (all_tickets rest) ≡ 0 = subst (λ (w : ℕ). times w (all_tickets rest) ≡ 0) (sym (is refl)) (h.shared.named (get_or words 0 0) ∙ ap (λ b. cond {A = ℕ} b 1 0) (let f : nat_lt (get_or words 0 0) (get_or words 0 0) ≡ false = grind (arith, nat_tests) in f)) in
      let entry : HeldTicket = record { id = record { 0 = old }; ticket = blank } in
      ticket_reserved (Processor q ∷ rest) (suc seat) (Producer (after_producing p Reserve old)) entry (omega (arith, within)) (ap (λ xs. xs ++ entry ∷ []) (sym (ap tickets_of here))) refl new j
  producer_stays (LoadReadIndex ticket) may old is j published = changing_stays ticket.0 (seeing old) (after_producing p (LoadReadIndex ticket) old) may refl j published
  producer_stays (StoreBody ticket place w) may old is j published =
      let b = both (is_body place) (passes (λ t. shows_room size ticket.0 t.saw) (open_ticket ticket.0 p.tickets)) may in
      changing_stays ticket.0 (writing place w) (after_producing p (StoreBody ticket place w) old) (passing _ _ b.1) refl j published
  producer_stays (StoreHeader ticket w) may old is j published =
      let b = both (not (is_invalid w)) (passes (λ t. has_body t.words) (open_ticket ticket.0 p.tickets)) may in
      changing_stays ticket.0 (writing 0 w) (after_producing p (StoreHeader ticket w) old) (passing _ _ b.1) refl j published
  producer_stays LoadHeader may old is j published = absurd (cc)
  producer_stays (LoadBody place) may old is j published = absurd (cc)
  producer_stays ClearHeader may old is j published = absurd (cc)
  producer_stays RaiseReadIndex may old is j published = absurd (cc)

stays_in : (n size : ℕ) (words : List ℕ) (parts : List SeatPart) (seat : ℕ) (access : Access) → IsRule n (record { size = size; words = words; parts = parts }) → may_make size (get_or parts seat nobody) access ≡ true
    → (id : ℕ) → is_published (ticket_of parts id) ≡ true → ticket_of (made (record { size = size; words = words; parts = parts }) (record { seat = seat; access = access })).parts id ≡ ticket_of parts id
stays_in n size words [] seat access h may id published = absurd h.shared.seats
stays_in n size words (Producer p ∷ rest) seat access h may id published = absurd h.shared.seats
stays_in n size words (Processor q ∷ rest) zero access h may id published = refl
stays_in n size words (Processor q ∷ rest) (suc seat) access h may id published =
    let p = producer_of (get_or rest seat nobody) (producers_all rest seat h.shared.seats.1) in
    let lt : seat < length rest = seated size rest seat access may in
    let m : producer_may size p.0 access ≡ true = ap (λ u. may_make size u access) (sym p.1) ∙ may in
    rw p.1 (producer_stays n size words q rest seat p.0 p.1 lt h access m (get_or words (place_of size (get_or words 1 0) access) 0) (λ a. ap (λ x. get_or words (place_of size (get_or words 1 0) x) 0) a) id published)

-- a published ticket stays as it is, whichever step is made
pub published_stays : (n : ℕ) (machine : Machine) (step : Step) → IsRule n machine → is_allowed machine step ≡ true
    → (id : ℕ) → is_published (ticket_of machine.parts id) ≡ true → ticket_of (made machine step).parts id ≡ ticket_of machine.parts id
published_stays n machine step h may id published = stays_in n machine.size machine.words machine.parts step.seat step.access h may id published

-- ---- the read index

-- a step raises the read index, between clearing a header and raising it; or it leaves the index, and only clearing leads there
pub record Raised (machine next : Machine) (access : Access) : Type 0 where
  pub access_is : access ≡ RaiseReadIndex
  pub was_cleared : (processor_of machine.parts).raising ≡ true
  pub is_done : (processor_of next.parts).raising ≡ false
  pub index_is : read_index next ≡ read_index machine + 1

pub record Stayed (machine next : Machine) (access : Access) : Type 0 where
  pub other : access ≢ RaiseReadIndex
  pub index_is : read_index next ≡ read_index machine
  pub clears : (processor_of next.parts).raising ≡ true → ((processor_of machine.parts).raising ≡ true) ⊎ (access ≡ ClearHeader)

index_stays : (size : ℕ) (words : List ℕ) (access : Access) → 1 < length words → access ≢ RaiseReadIndex
    → get_or (set words (place_of size (get_or words 1 0) access) (word_after access (get_or words (place_of size (get_or words 1 0) access) 0))) 1 0 ≡ get_or words 1 0
index_stays size words Reserve in1 other = get_or-set_other words 0 1 (get_or words 0 0 + 1) 0 (omega arith)
index_stays size words (LoadReadIndex ticket) in1 other = get_or-set_same words 1 (get_or words 1 0) 0 in1
index_stays size words (StoreBody ticket place w) in1 other = low_kept words size ticket.0 place w 1 (omega arith)
index_stays size words (StoreHeader ticket w) in1 other = low_kept words size ticket.0 0 w 1 (omega arith)
index_stays size words LoadHeader in1 other = low_kept words size (get_or words 1 0) 0 (get_or words (word_place size (get_or words 1 0) 0) 0) 1 (omega arith)
index_stays size words (LoadBody place) in1 other = low_kept words size (get_or words 1 0) place (get_or words (word_place size (get_or words 1 0) place) 0) 1 (omega arith)
index_stays size words ClearHeader in1 other = low_kept words size (get_or words 1 0) 0 1 1 (omega arith)
index_stays size words RaiseReadIndex in1 other = absurd (other refl)

-- what becomes of the read index, as one of the two
abbrev pub Moved : Machine → Step → Type 0
Moved machine step = Raised machine (made machine step) step.access ⊎ Stayed machine (made machine step) step.access

processor_moves : (size : ℕ) (words : List ℕ) (q : ProcessorPart) (rest : List SeatPart) → 1 < length words → (access : Access) → may_make size (Processor q) access ≡ true
    → Moved (record { size = size; words = words; parts = Processor q ∷ rest }) (record { seat = zero; access = access })
processor_moves size words q rest in1 LoadHeader m = inr (record { other = λ e. cc; index_is = index_stays size words LoadHeader in1 (λ e. cc); clears = λ r. inl r })
processor_moves size words q rest in1 (LoadBody place) m = inr (record { other = λ e. cc; index_is = index_stays size words (LoadBody place) in1 (λ e. cc); clears = λ r. inl r })
processor_moves size words q rest in1 ClearHeader m = inr (record { other = λ e. cc; index_is = index_stays size words ClearHeader in1 (λ e. cc); clears = λ r. inr refl })
processor_moves size words q rest in1 RaiseReadIndex m = inl (record { access_is = refl; was_cleared = m; is_done = refl; index_is = get_or-set_same words 1 (get_or words 1 0 + 1) 0 in1 })
processor_moves size words q rest in1 Reserve m = absurd (cc)
processor_moves size words q rest in1 (LoadReadIndex ticket) m = absurd (cc)
processor_moves size words q rest in1 (StoreBody ticket place w) m = absurd (cc)
processor_moves size words q rest in1 (StoreHeader ticket w) m = absurd (cc)

raises_not : (size : ℕ) (p : ProducerPart) → producer_may size p RaiseReadIndex ≡ true → ⊥
raises_not size p e = cc

moves_in : (n size : ℕ) (words : List ℕ) (parts : List SeatPart) (seat : ℕ) (access : Access) → IsRule n (record { size = size; words = words; parts = parts }) → may_make size (get_or parts seat nobody) access ≡ true
    → Moved (record { size = size; words = words; parts = parts }) (record { seat = seat; access = access })
moves_in n size words [] seat access h may = absurd h.shared.seats
moves_in n size words (Producer p ∷ rest) seat access h may = absurd h.shared.seats
moves_in n size words (Processor q ∷ rest) zero access h may = processor_moves size words q rest (omega (arith, h.words)) access may
moves_in n size words (Processor q ∷ rest) (suc seat) access h may =
    let p = producer_of (get_or rest seat nobody) (producers_all rest seat h.shared.seats.1) in
    let m : producer_may size p.0 access ≡ true = ap (λ u. may_make size u access) (sym p.1) ∙ may in
    let other : access ≢ RaiseReadIndex = λ is. raises_not size p.0 (subst (λ (a : Access). producer_may size p.0 a ≡ true) is m) in
    inr (record { other = other; index_is = index_stays size words access (omega (arith, h.words)) other; clears = λ r. inl r })

pub index_moves : (n : ℕ) (machine : Machine) (step : Step) → IsRule n machine → is_allowed machine step ≡ true → Moved machine step
index_moves n machine step h may = moves_in n machine.size machine.words machine.parts step.seat step.access h may

-- ---- the packet collected

same_words : (xs ys : List (Option ℕ)) → length xs ≡ length ys → list_all is_some xs ≡ true → ((k w : ℕ) → word xs k ≡ Some w → word ys k ≡ Some w) → xs ≡ ys
same_words [] [] e all same = refl
same_words [] (y ∷ ys) e all same = absurd (omega arith)
same_words (x ∷ xs) [] e all same = absurd (omega arith)
same_words (x ∷ xs) (y ∷ ys) e all same =
    let b = both (is_some x) (list_all is_some xs) all in
    let w = some_of x b.0 in
    let first : y ≡ Some w.0 = same zero w.0 w.1 in
    let tails : xs ≡ ys = same_words xs ys (omega arith) b.1 (λ k v e. same (suc k) v e) in
    λ i. (w.1 ∙ sym first) i ∷ tails i

-- the words collected, once whole, are those published under the read index
pub collected_is : (n : ℕ) (machine : Machine) → IsRule n machine → list_all is_some (processor_of machine.parts).collected ≡ true
    → (is_published (ticket_of machine.parts (read_index machine)) ≡ true) × (packet_of (processor_of machine.parts).collected ≡ packet_of (ticket_of machine.parts (read_index machine)).words)
collected_is n machine h all =
    let q = processor_of machine.parts in
    let t = ticket_of machine.parts (read_index machine) in
    let len : length q.collected ≡ length t.words = omega (arith, h.tied.eight_collected, h.tied.eight (read_index machine)) in
    let same : q.collected ≡ t.words = same_words q.collected t.words len all h.tied.collected in
    let first = some_of (word q.collected 0) (first_known q.collected h.tied.eight_collected all) in
    (collected_published machine.size (read_index machine) (slot_word machine) (ticket_of machine.parts) q.retired q.collected q.raising h.slots h.tied 0 first.0 first.1, ap packet_of same)
  where
    first_known : (xs : List (Option ℕ)) → length xs ≡ 8 → list_all is_some xs ≡ true → is_some (word xs 0) ≡ true
    first_known [] e all = absurd (omega arith)
    first_known (x ∷ xs) e all = (both (is_some x) (list_all is_some xs) all).0
