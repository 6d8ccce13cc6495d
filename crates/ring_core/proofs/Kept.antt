-- Each step keeps the ring rule, and a ring opens with it.
use Rattle.std.proofs.Common.{◌≡◌, ◌≢◌, ℕ, zero, suc, ◌+◌, ◌*◌, ◌%◌, ◌^◌, ◌<◌, ◌≤◌, Bool, true, false, List, [], ◌∷◌, ◌++◌, length, get_or, set, replicate, eqb, refl, ap, ◌∙◌, sym, subst, arith, cond, inl, inr, get_or-set_same, get_or-set_other, length-set, zero-add}
use Rattle.std.specs.Prelude.{Option, Some, None, is_some, not, ◌&&◌, if◌then◌else◌, unwrap_or, sum_by, nat_lt}
use Rattle.std.specs.List.{list_all}
use Rattle.std.proofs.lemmas.Bool.Decides.{nat_tests, leb_tells}
use Rattle.std.proofs.lemmas.List.Sums.{sum_by-set}
use Rattle.std.proofs.lemmas.List.Folds.{sum_by-replicate}
use Rattle.std.proofs.lemmas.List.Recursion.{and_set}
use Rattle.std.proofs.lemmas.List.{length-replicate, get_or_past, set-get_or}
use Rattle.ring_core.specs.declared.ticket.Ticket.{Ticket}
use Rattle.ring_core.specs.declared.ticket.HeldTicket.{HeldTicket}
use Rattle.ring_core.specs.declared.access.Access.{Access}
use Rattle.ring_core.specs.declared.access.Access.TheVariants.{Reserve, LoadReadIndex, StoreBody, StoreHeader, LoadHeader, LoadBody, ClearHeader, RaiseReadIndex}
use Rattle.ring_core.specs.declared.access.Step.{Step}
use Rattle.ring_core.specs.declared.part.ProducerPart.{ProducerPart}
use Rattle.ring_core.specs.declared.part.ProcessorPart.{ProcessorPart}
use Rattle.ring_core.specs.declared.part.SeatPart.{SeatPart}
use Rattle.ring_core.specs.declared.part.SeatPart.TheVariants.{Producer, Processor}
use Rattle.ring_core.specs.Words.{word, no_words, is_body, has_body, packet_of, is_invalid}
use Rattle.ring_core.specs.Tickets.{blank, is_published, shows_room, seeing, writing, held, only_open, open_ticket, changed}
use Rattle.ring_core.specs.Parts.{passes, producer_may, processor_may, may_make, after_producing, after_processing, new_producer, nobody}
use Rattle.ring_core.specs.Machine.{Machine, slot_word, word_place, place_of, word_after, is_allowed, made, free_slots, opened, Leads, Replays}
use Rattle.ring_core.specs.Rule.{tickets_of, all_tickets, ticket_of, times, allowance_of, is_producer, AreSeats, IsTied, IsRule}
use Rattle.ring_core.proofs.Places.{place_in, place_differs, place_round, low_kept, slots_kept, free_length, free_word}
use Rattle.ring_core.proofs.Seats.{times_changed, times_append, seat_held, ticket_changed, ticket_reserved, times_set}
use Rattle.ring_core.proofs.Tied.{with_at, no_word, tied_seeing, tied_body, tied_header, tied_header_read, tied_body_read, tied_clearing, tied_raising, some_of, body_known}

-- an open ticket is held, and open
pub open_held : (o : Option Ticket) → (t : Ticket) → only_open o ≡ Some t → (o ≡ Some t) × (is_published t ≡ false)
open_held None t e = absurd (cc)
open_held (Some u) t e =
    elim (is_published u) as (λ b. is_published u ≡ b → (Some u ≡ Some t) × (is_published t ≡ false)) [
      | true ↦ λ p. absurd (let f : only_open (Some u) ≡ None = rw p refl in cc)
      | false ↦ λ p. let f : only_open (Some u) ≡ Some u = rw p refl in let g : u ≡ t = cc in (ap Some g, ap is_published (sym g) ∙ p)
    ] refl

pub some_ticket : (o : Option Ticket) → is_some o ≡ true → (t : Ticket) × (o ≡ Some t)
some_ticket None h = absurd (cc)
some_ticket (Some t) h = (t, refl)

passed : (test : Ticket → Bool) (o : Option Ticket) → passes test o ≡ true → (t : Ticket) × (o ≡ Some t) × (test t ≡ true)
passed test None h = absurd (cc)
passed test (Some t) h = (t, refl, h)

pub both : (a b : Bool) → (a && b) ≡ true → (a ≡ true) × (b ≡ true)
both true b h = (refl, h)
both false b h = absurd (cc)

not_true : (a : Bool) → not a ≡ true → a ≡ false
not_true true h = absurd (cc)
not_true false h = refl

-- the tie looks at words and tickets by what they are
tied_along : (size : ℕ) (r r' : ℕ) (slot slot' : ℕ → ℕ → ℕ) (tickets tickets' : ℕ → Ticket) (retired : List (List ℕ)) (collected : List (Option ℕ)) (raising : Bool) → r' ≡ r → ((j k : ℕ) → slot' j k ≡ slot j k) → ((j : ℕ) → tickets' j ≡ tickets j) → IsTied size r slot tickets retired collected raising → IsTied size r' slot' tickets' retired collected raising
tied_along size r r' slot slot' tickets tickets' retired collected raising e f g h =
    let s : slot ≡ slot' = λ i j k. sym (f j k) i in
    let t : tickets ≡ tickets' = λ i j. sym (g j) i in
    subst (λ (n : ℕ). IsTied size n slot' tickets' retired collected raising) (sym e)
    (subst (λ (u : ℕ → Ticket). IsTied size r slot' u retired collected raising) t
    (subst (λ (v : ℕ → ℕ → ℕ). IsTied size r v tickets retired collected raising) s h))

-- a whole body has a first word
body_room : (t : Ticket) → length t.words ≡ 8 → has_body t.words ≡ true → (w : ℕ) × (word t.words 1 ≡ Some w)
body_room t eight body = some_of (word t.words 1) (body_known t.words 1 eight body (omega arith) (omega arith))

-- ---- a producer's step

module _ (n size : ℕ) (words : List ℕ) (q : ProcessorPart) (rest : List SeatPart) (seat : ℕ) (p : ProducerPart) (here : get_or rest seat nobody ≡ Producer p) (within : seat < length rest) (h : IsRule n (record { size = size; words = words; parts = Processor q ∷ rest })) where
  -- the seats stay, each of its kind
  seats_kept : (p' : ProducerPart) → AreSeats n (Processor q ∷ set rest seat (Producer p'))
  seats_kept p' = (length-set rest seat (Producer p') ∙ h.shared.seats.0, and_set (list_all is_producer) is_producer refl (λ _ _. refl) rest seat (Producer p') refl h.shared.seats.1)

  -- how often an id is held, and all that is left, follow the part
  times_kept : (p' : ProducerPart) (id : ℕ) → times id p'.tickets ≡ times id p.tickets → times id (all_tickets (set rest seat (Producer p'))) ≡ times id (all_tickets rest)
  times_kept p' id same =
      let e : times id (tickets_of (get_or rest seat nobody)) ≡ times id p.tickets = ap (λ u. times id (tickets_of u)) here in
      omega (arith, times_set id rest seat (Producer p') within, e, same)

  sum_kept : (p' : ProducerPart) → sum_by allowance_of (Processor q ∷ set rest seat (Producer p')) + p.allowance ≡ sum_by allowance_of (Processor q ∷ rest) + p'.allowance
  sum_kept p' =
      let lt : suc seat < length (Processor q ∷ rest) = omega (arith, within) in
      let e : allowance_of (get_or rest seat nobody) ≡ p.allowance = ap allowance_of here in
      let s : sum_by allowance_of (set (Processor q ∷ rest) (suc seat) (Producer p')) + allowance_of (get_or (Processor q ∷ rest) (suc seat) nobody) ≡ sum_by allowance_of (Processor q ∷ rest) + allowance_of (Producer p') = sum_by-set allowance_of (Processor q ∷ rest) (suc seat) (Producer p') nobody lt in
      ap (λ x. sum_by allowance_of (Processor q ∷ set rest seat (Producer p')) + x) (sym e) ∙ s

  -- no id is held twice
  once : (id : ℕ) → times id (all_tickets rest) ≤ 1
  once id = let e : times id (all_tickets rest) ≡ cond (nat_lt id (get_or words 0 0)) 1 0 = h.shared.named id in at_most_one (nat_lt id (get_or words 0 0)) (times id (all_tickets rest)) e
    where
      at_most_one : (b : Bool) (m : ℕ) → m ≡ cond b 1 0 → m ≤ 1
      at_most_one true m e = omega arith
      at_most_one false m e = omega arith

  seat_ticket : (id : ℕ) (t : Ticket) → held id p.tickets ≡ Some t → held id (tickets_of (get_or rest seat nobody)) ≡ Some t
  seat_ticket id t e = ap (λ u. held id (tickets_of u)) here ∙ e

  -- a ticket of the seat is the ticket of its id
  its_ticket : (id : ℕ) (t : Ticket) → held id p.tickets ≡ Some t → ticket_of (Processor q ∷ rest) id ≡ t
  its_ticket id t e = ap (λ o. unwrap_or o blank) (seat_held id rest seat t (once id) (seat_ticket id t e))

  -- a step that changes one ticket
  changing : (id : ℕ) (change : Ticket → Ticket) (t : Ticket) (p' : ProducerPart) (words' : List ℕ) → held id p.tickets ≡ Some t → p'.tickets ≡ changed id change p.tickets → p'.allowance ≡ p.allowance → get_or words' 0 0 ≡ get_or words 0 0 → length words' ≡ length words
      → IsTied size (get_or words' 1 0) (λ j k. get_or words' (word_place size j k) 0) (with_at (ticket_of (Processor q ∷ rest)) id (change (ticket_of (Processor q ∷ rest) id))) q.retired q.collected q.raising
      → IsRule n (record { size = size; words = words'; parts = Processor q ∷ set rest seat (Producer p') })
  changing id change t p' words' e same left w len tie =
      record {
        slots = h.slots;
        words = len ∙ h.words;
        shared = record {
          seats = seats_kept p';
          allowances =
              let s : sum_by allowance_of (Processor q ∷ set rest seat (Producer p')) + p.allowance ≡ sum_by allowance_of (Processor q ∷ rest) + p'.allowance = sum_kept p' in
              let a : get_or words 0 0 + sum_by allowance_of (Processor q ∷ rest) ≡ n * 2 ^ 40 = h.shared.allowances in
              omega (arith, s, a, left, w);
          named = λ j. times_kept p' j (ap (times j) same ∙ times_changed id j change p.tickets) ∙ h.shared.named j ∙ ap (λ m. if nat_lt j m then 1 else 0) (sym w);
        };
        tied = tied_along size (get_or words' 1 0) (get_or words' 1 0) (λ j k. get_or words' (word_place size j k) 0) (λ j k. get_or words' (word_place size j k) 0)
            (with_at (ticket_of (Processor q ∷ rest)) id (change (ticket_of (Processor q ∷ rest) id))) (ticket_of (Processor q ∷ set rest seat (Producer p'))) q.retired q.collected q.raising refl (λ _ _. refl)
            (ticket_changed id change (Processor q ∷ rest) (suc seat) (Producer p') t (once id) (seat_ticket id t e) (same ∙ ap (λ u. changed id change (tickets_of u)) (sym here)))
            tie;
      }

  -- s1
  reserving : 0 < p.allowance → IsRule n (record { size = size; words = set words 0 (get_or words 0 0 + 1); parts = Processor q ∷ set rest seat (Producer (after_producing p Reserve (get_or words 0 0))) })
  reserving some =
      let w : ℕ = get_or words 0 0 in
      let p' : ProducerPart = after_producing p Reserve w in
      let entry : HeldTicket = record { id = record { 0 = w }; ticket = blank } in
      let in0 : 0 < length words = omega (arith, h.words) in
      let raised : get_or (set words 0 (w + 1)) 0 0 ≡ w + 1 = get_or-set_same words 0 (w + 1) 0 in0 in
      let none : times w (all_tickets rest) ≡ 0 = h.shared.named w ∙ ap (λ b. cond {A = ℕ} b 1 0) (let f : nat_lt w w ≡ false = grind (arith, nat_tests) in f) in
      record {
        slots = h.slots;
        words = length-set words 0 (w + 1) ∙ h.words;
        shared = record {
          seats = seats_kept p';
          allowances =
              let s : sum_by allowance_of (Processor q ∷ set rest seat (Producer p')) + p.allowance ≡ sum_by allowance_of (Processor q ∷ rest) + p'.allowance = sum_kept p' in
              let a : w + sum_by allowance_of (Processor q ∷ rest) ≡ n * 2 ^ 40 = h.shared.allowances in
              omega (arith, s, a, raised, some);
          named = λ j.
              let s : times j (tickets_of (get_or rest seat nobody)) ≡ times j p.tickets = ap (λ u. times j (tickets_of u)) here in
              let t : times j (all_tickets (set rest seat (Producer p'))) ≡ times j (all_tickets rest) + (times j (entry ∷ [])) = omega (arith, times_set j rest seat (Producer p') within, s, times_append j p.tickets (entry ∷ [])) in
              t ∙ ap (λ m. m + times j (entry ∷ [])) (h.shared.named j) ∙ counted j w ∙ ap (λ m. if nat_lt j m then 1 else 0) (sym raised);
        };
        tied = tied_along size (get_or words 1 0) (get_or (set words 0 (w + 1)) 1 0) (λ j k. get_or words (word_place size j k) 0) (λ j k. get_or (set words 0 (w + 1)) (word_place size j k) 0)
            (ticket_of (Processor q ∷ rest)) (ticket_of (Processor q ∷ set rest seat (Producer p'))) q.retired q.collected q.raising
            (get_or-set_other words 0 1 (w + 1) 0 (omega arith))
            (λ j k. slots_kept words size j k (w + 1) 0 (omega arith))
            (ticket_reserved (Processor q ∷ rest) (suc seat) (Producer p') entry (omega (arith, within)) (ap (λ xs. xs ++ entry ∷ []) (sym (ap tickets_of here))) refl none)
            h.tied;
      }
    where
      counted : (j w : ℕ) → (if nat_lt j w then 1 else 0) + ((if eqb w j then 1 else 0) + 0) ≡ (if nat_lt j (w + 1) then 1 else 0)
      counted j w = grind (arith, nat_tests)

  -- s2
  looking : (id : ℕ) (t : Ticket) (p' : ProducerPart) → held id p.tickets ≡ Some t → p'.tickets ≡ changed id (seeing (get_or words 1 0)) p.tickets → p'.allowance ≡ p.allowance → IsRule n (record { size = size; words = set words 1 (get_or words 1 0); parts = Processor q ∷ set rest seat (Producer p') })
  looking id t p' e same left =
      let r : ℕ = get_or words 1 0 in
      let in1 : 1 < length words = omega (arith, h.words) in
      let kept : get_or (set words 1 r) 1 0 ≡ r = get_or-set_same words 1 r 0 in1 in
      changing id (seeing r) t p' (set words 1 r) e same left (get_or-set_other words 1 0 r 0 (omega arith)) (length-set words 1 r)
      (tied_along size r (get_or (set words 1 r) 1 0) (λ j k. get_or words (word_place size j k) 0) (λ j k. get_or (set words 1 r) (word_place size j k) 0)
      (with_at (ticket_of (Processor q ∷ rest)) id (seeing r (ticket_of (Processor q ∷ rest) id))) (with_at (ticket_of (Processor q ∷ rest)) id (seeing r (ticket_of (Processor q ∷ rest) id))) q.retired q.collected q.raising
      kept (λ j k. slots_kept words size j k r 1 (omega arith)) (λ _. refl)
      (tied_seeing size r (λ j k. get_or words (word_place size j k) 0) (ticket_of (Processor q ∷ rest)) q.retired q.collected q.raising h.slots h.tied id))

  -- a store in a slot
  hit : (id k w : ℕ) → k < 8 → get_or (set words (word_place size id k) w) (word_place size id k) 0 ≡ w
  hit id k w lt = let inside : word_place size id k < length words = omega (arith, h.words, place_in size id k h.slots lt) in get_or-set_same words (word_place size id k) w 0 inside

  miss : (id k w : ℕ) → k < 8 → (j l : ℕ) → l < 8 → (j % size ≡ id % size → l ≢ k) → get_or (set words (word_place size id k) w) (word_place size j l) 0 ≡ get_or words (word_place size j l) 0
  miss id k w lt j l hl apart = get_or-set_other words (word_place size id k) (word_place size j l) w 0 (place_differs size j id l k hl lt apart)

  -- s3 and s4
  writing_step : (id k w : ℕ) (t : Ticket) (p' : ProducerPart) → held id p.tickets ≡ Some t → p'.tickets ≡ changed id (writing k w) p.tickets → p'.allowance ≡ p.allowance
      → IsTied size (get_or words 1 0) (λ j l. get_or (set words (word_place size id k) w) (word_place size j l) 0) (with_at (ticket_of (Processor q ∷ rest)) id (writing k w (ticket_of (Processor q ∷ rest) id))) q.retired q.collected q.raising
      → IsRule n (record { size = size; words = set words (word_place size id k) w; parts = Processor q ∷ set rest seat (Producer p') })
  writing_step id k w t p' e same left tie =
      changing id (writing k w) t p' (set words (word_place size id k) w) e same left (low_kept words size id k w 0 (omega arith)) (length-set words (word_place size id k) w)
      (tied_along size (get_or words 1 0) (get_or (set words (word_place size id k) w) 1 0) (λ j l. get_or (set words (word_place size id k) w) (word_place size j l) 0) (λ j l. get_or (set words (word_place size id k) w) (word_place size j l) 0)
      (with_at (ticket_of (Processor q ∷ rest)) id (writing k w (ticket_of (Processor q ∷ rest) id))) (with_at (ticket_of (Processor q ∷ rest)) id (writing k w (ticket_of (Processor q ∷ rest) id))) q.retired q.collected q.raising
      (low_kept words size id k w 1 (omega arith)) (λ _ _. refl) (λ _. refl) tie)

  body_writing : (id k w : ℕ) (t : Ticket) (p' : ProducerPart) → held id p.tickets ≡ Some t → is_published t ≡ false → is_body k ≡ true → shows_room size id t.saw ≡ true → p'.tickets ≡ changed id (writing k w) p.tickets → p'.allowance ≡ p.allowance → IsRule n (record { size = size; words = set words (word_place size id k) w; parts = Processor q ∷ set rest seat (Producer p') })
  body_writing id k w t p' e free body room same left =
      let its : ticket_of (Processor q ∷ rest) id ≡ t = its_ticket id t e in
      let lt : k < 8 = grind (arith, nat_tests) in
      writing_step id k w t p' e same left
      (tied_body size (get_or words 1 0) (λ j l. get_or words (word_place size j l) 0) (ticket_of (Processor q ∷ rest)) q.retired q.collected q.raising h.slots h.tied
      id (ap is_published its ∙ free) (ap (λ u. shows_room size id u.saw) its ∙ room)
      k w (λ j l. get_or (set words (word_place size id k) w) (word_place size j l) 0) body (hit id k w lt) (miss id k w lt))

  header_writing : (id w : ℕ) (t : Ticket) (p' : ProducerPart) → held id p.tickets ≡ Some t → is_published t ≡ false → is_invalid w ≡ false → has_body t.words ≡ true → p'.tickets ≡ changed id (writing 0 w) p.tickets → p'.allowance ≡ p.allowance → IsRule n (record { size = size; words = set words (word_place size id 0) w; parts = Processor q ∷ set rest seat (Producer p') })
  header_writing id w t p' e free valid body same left =
      let its : ticket_of (Processor q ∷ rest) id ≡ t = its_ticket id t e in
      let lt : 0 < 8 = omega arith in
      let b : has_body (ticket_of (Processor q ∷ rest) id).words ≡ true = ap (λ u. has_body u.words) its ∙ body in
      let first = body_room (ticket_of (Processor q ∷ rest) id) (h.tied.eight id) b in
      writing_step id 0 w t p' e same left
      (tied_header size (get_or words 1 0) (λ j l. get_or words (word_place size j l) 0) (ticket_of (Processor q ∷ rest)) q.retired q.collected q.raising h.slots h.tied
      id (ap is_published its ∙ free) (h.tied.room id 1 first.0 first.1)
      w (λ j l. get_or (set words (word_place size id 0) w) (word_place size j l) 0) valid b (hit id 0 w lt) (miss id 0 w lt))

  -- each step that a producer may make
  producer_keeps : (access : Access) → producer_may size p access ≡ true → IsRule n (record { size = size; words = set words (place_of size (get_or words 1 0) access) (word_after access (get_or words (place_of size (get_or words 1 0) access) 0)); parts = Processor q ∷ set rest seat (Producer (after_producing p access (get_or words (place_of size (get_or words 1 0) access) 0))) })
  producer_keeps Reserve may = let some : 0 < p.allowance = grind (arith, nat_tests) in reserving some
  producer_keeps (LoadReadIndex ticket) may =
      let t = some_ticket (open_ticket ticket.0 p.tickets) may in
      let o = open_held (held ticket.0 p.tickets) t.0 t.1 in
      looking ticket.0 t.0 (after_producing p (LoadReadIndex ticket) (get_or words 1 0)) o.0 refl refl
  producer_keeps (StoreBody ticket place word) may =
      let b = both (is_body place) (passes (λ t. shows_room size ticket.0 t.saw) (open_ticket ticket.0 p.tickets)) may in
      let t = passed (λ t. shows_room size ticket.0 t.saw) (open_ticket ticket.0 p.tickets) b.1 in
      let o = open_held (held ticket.0 p.tickets) t.0 t.1 in
      body_writing ticket.0 place word t.0 (after_producing p (StoreBody ticket place word) (get_or words (word_place size ticket.0 place) 0)) o.0 o.1 b.0 t.2 refl refl
  producer_keeps (StoreHeader ticket word) may =
      let b = both (not (is_invalid word)) (passes (λ t. has_body t.words) (open_ticket ticket.0 p.tickets)) may in
      let t = passed (λ t. has_body t.words) (open_ticket ticket.0 p.tickets) b.1 in
      let o = open_held (held ticket.0 p.tickets) t.0 t.1 in
      header_writing ticket.0 word t.0 (after_producing p (StoreHeader ticket word) (get_or words (word_place size ticket.0 0) 0)) o.0 o.1 (not_true (is_invalid word) b.0) t.2 refl refl
  producer_keeps LoadHeader may = absurd (cc)
  producer_keeps (LoadBody place) may = absurd (cc)
  producer_keeps ClearHeader may = absurd (cc)
  producer_keeps RaiseReadIndex may = absurd (cc)

-- ---- the processor's step

module _ (n size : ℕ) (words : List ℕ) (q : ProcessorPart) (rest : List SeatPart) (h : IsRule n (record { size = size; words = words; parts = Processor q ∷ rest })) where
  -- a step that changes the processor's part
  settling : (q' : ProcessorPart) (words' : List ℕ) → get_or words' 0 0 ≡ get_or words 0 0 → length words' ≡ length words
      → IsTied size (get_or words' 1 0) (λ j k. get_or words' (word_place size j k) 0) (ticket_of (Processor q ∷ rest)) q'.retired q'.collected q'.raising
      → IsRule n (record { size = size; words = words'; parts = Processor q' ∷ rest })
  settling q' words' w len tie =
      record {
        slots = h.slots;
        words = len ∙ h.words;
        shared = record {
          seats = h.shared.seats;
          allowances = ap (λ m. m + sum_by allowance_of (Processor q ∷ rest)) w ∙ h.shared.allowances;
          named = λ j. h.shared.named j ∙ ap (λ m. if nat_lt j m then 1 else 0) (sym w);
        };
        tied = tie;
      }

  -- a load in the slot at the read index
  loading : (q' : ProcessorPart) (k : ℕ)
      → IsTied size (get_or words 1 0) (λ j k. get_or words (word_place size j k) 0) (ticket_of (Processor q ∷ rest)) q'.retired q'.collected q'.raising
      → IsRule n (record { size = size; words = set words (word_place size (get_or words 1 0) k) (get_or words (word_place size (get_or words 1 0) k) 0); parts = Processor q' ∷ rest })
  loading q' k tie =
      let same : set words (word_place size (get_or words 1 0) k) (get_or words (word_place size (get_or words 1 0) k) 0) ≡ words = set-get_or words (word_place size (get_or words 1 0) k) 0 in
      let r : IsRule n (record { size = size; words = words; parts = Processor q' ∷ rest }) = settling q' words refl refl tie in
      subst (λ (ws : List ℕ). IsRule n (record { size = size; words = ws; parts = Processor q' ∷ rest })) (sym same) r

  -- s5
  header_loading : q.raising ≡ false → IsRule n (record { size = size; words = set words (word_place size (get_or words 1 0) 0) (get_or words (word_place size (get_or words 1 0) 0) 0); parts = Processor (after_processing q LoadHeader (get_or words (word_place size (get_or words 1 0) 0) 0)) ∷ rest })
  header_loading still =
      let old : ℕ = get_or words (word_place size (get_or words 1 0) 0) 0 in
      loading (after_processing q LoadHeader old) 0
      (elim (is_invalid old) as (λ b. is_invalid old ≡ b → IsTied size (get_or words 1 0) (λ j k. get_or words (word_place size j k) 0) (ticket_of (Processor q ∷ rest)) q.retired (if b then q.collected else set q.collected 0 (Some old)) q.raising) [
        | true ↦ λ _. h.tied
        | false ↦ λ valid. tied_header_read size (get_or words 1 0) (λ j k. get_or words (word_place size j k) 0) (ticket_of (Processor q ∷ rest)) q.retired q.collected q.raising h.slots h.tied still valid
      ] refl)

  -- s7
  clearing : has_body q.collected ≡ true → q.raising ≡ false → IsRule n (record { size = size; words = set words (word_place size (get_or words 1 0) 0) 1; parts = Processor (after_processing q ClearHeader (get_or words (word_place size (get_or words 1 0) 0) 0)) ∷ rest })
  clearing body still =
      let r : ℕ = get_or words 1 0 in
      let lt : 0 < 8 = omega arith in
      let inside : word_place size r 0 < length words = omega (arith, h.words, place_in size r 0 h.slots lt) in
      settling (after_processing q ClearHeader (get_or words (word_place size r 0) 0)) (set words (word_place size r 0) 1) (low_kept words size r 0 1 0 (omega arith)) (length-set words (word_place size r 0) 1)
      (tied_along size r (get_or (set words (word_place size r 0) 1) 1 0) (λ j l. get_or (set words (word_place size r 0) 1) (word_place size j l) 0) (λ j l. get_or (set words (word_place size r 0) 1) (word_place size j l) 0)
      (ticket_of (Processor q ∷ rest)) (ticket_of (Processor q ∷ rest)) q.retired q.collected true
      (low_kept words size r 0 1 1 (omega arith)) (λ _ _. refl) (λ _. refl)
      (tied_clearing size r (λ j l. get_or words (word_place size j l) 0) (ticket_of (Processor q ∷ rest)) q.retired q.collected q.raising h.slots h.tied
      (λ j l. get_or (set words (word_place size r 0) 1) (word_place size j l) 0) body
      (get_or-set_same words (word_place size r 0) 1 0 inside)
      (λ j l hl apart. get_or-set_other words (word_place size r 0) (word_place size j l) 1 0 (place_differs size j r l 0 hl lt apart))
      still))

  -- s8
  raising_step : q.raising ≡ true → IsRule n (record { size = size; words = set words 1 (get_or words 1 0 + 1); parts = Processor (after_processing q RaiseReadIndex (get_or words 1 0)) ∷ rest })
  raising_step stands =
      let r : ℕ = get_or words 1 0 in
      let in1 : 1 < length words = omega (arith, h.words) in
      settling (after_processing q RaiseReadIndex r) (set words 1 (r + 1)) (get_or-set_other words 1 0 (r + 1) 0 (omega arith)) (length-set words 1 (r + 1))
      (tied_along size (r + 1) (get_or (set words 1 (r + 1)) 1 0) (λ j l. get_or words (word_place size j l) 0) (λ j l. get_or (set words 1 (r + 1)) (word_place size j l) 0)
      (ticket_of (Processor q ∷ rest)) (ticket_of (Processor q ∷ rest)) (q.retired ++ packet_of q.collected ∷ []) no_words false
      (get_or-set_same words 1 (r + 1) 0 in1) (λ j k. slots_kept words size j k (r + 1) 1 (omega arith)) (λ _. refl)
      (tied_raising size r (λ j l. get_or words (word_place size j l) 0) (ticket_of (Processor q ∷ rest)) q.retired q.collected q.raising h.slots h.tied stands
      (λ j k. ap (λ i. get_or words i 0) (place_round size j k))))

  -- each step that the processor may make
  processor_keeps : (access : Access) → processor_may q access ≡ true → IsRule n (record { size = size; words = set words (place_of size (get_or words 1 0) access) (word_after access (get_or words (place_of size (get_or words 1 0) access) 0)); parts = Processor (after_processing q access (get_or words (place_of size (get_or words 1 0) access) 0)) ∷ rest })
  processor_keeps LoadHeader may = header_loading (not_true q.raising may)
  processor_keeps (LoadBody place) may =
      let b = both (is_body place) (is_some (word q.collected 0)) may in
      loading (after_processing q (LoadBody place) (get_or words (word_place size (get_or words 1 0) place) 0)) place
      (tied_body_read size (get_or words 1 0) (λ j k. get_or words (word_place size j k) 0) (ticket_of (Processor q ∷ rest)) q.retired q.collected q.raising h.slots h.tied place b.0 b.1)
  processor_keeps ClearHeader may = let b = both (not q.raising) (has_body q.collected) may in clearing b.1 (not_true q.raising b.0)
  processor_keeps RaiseReadIndex may = raising_step may
  processor_keeps Reserve may = absurd (cc)
  processor_keeps (LoadReadIndex ticket) may = absurd (cc)
  processor_keeps (StoreBody ticket place word) may = absurd (cc)
  processor_keeps (StoreHeader ticket word) may = absurd (cc)

-- ---- any step

and_false : (b : Bool) → (b && false) ≡ false
and_false true = refl
and_false false = refl

-- a seat that the ring doesn't have may do nothing
pub nobody_may : (size : ℕ) (access : Access) → may_make size nobody access ≡ false
nobody_may size Reserve = refl
nobody_may size (LoadReadIndex ticket) = refl
nobody_may size (StoreBody ticket place word) = and_false (is_body place)
nobody_may size (StoreHeader ticket word) = and_false (not (is_invalid word))
nobody_may size LoadHeader = refl
nobody_may size (LoadBody place) = refl
nobody_may size ClearHeader = refl
nobody_may size RaiseReadIndex = refl

pub producer_of : (part : SeatPart) → is_producer part ≡ true → (p : ProducerPart) × (part ≡ Producer p)
producer_of (Producer p) h = (p, refl)
producer_of (Processor q) h = absurd (cc)

pub producers_all : (rest : List SeatPart) (seat : ℕ) → list_all is_producer rest ≡ true → is_producer (get_or rest seat nobody) ≡ true
producers_all [] seat h = refl
producers_all (p ∷ rest) zero h = (both (is_producer p) (list_all is_producer rest) h).0
producers_all (p ∷ rest) (suc seat) h = producers_all rest seat (both (is_producer p) (list_all is_producer rest) h).1

-- a seat that may do something is one of the ring's
pub seated : (size : ℕ) (parts : List SeatPart) (seat : ℕ) (access : Access) → may_make size (get_or parts seat nobody) access ≡ true → seat < length parts
seated size parts seat access may =
    elim (leb_tells (length parts) seat) [
      | inl g ↦ let past : get_or parts seat nobody ≡ nobody = get_or_past parts seat nobody g.1 in let none : may_make size (get_or parts seat nobody) access ≡ false = ap (λ p. may_make size p access) past ∙ nobody_may size access in absurd (cc)
      | inr g ↦ g.1
    ]

keeps_parts : (n size : ℕ) (words : List ℕ) (parts : List SeatPart) (seat : ℕ) (access : Access) → IsRule n (record { size = size; words = words; parts = parts }) → may_make size (get_or parts seat nobody) access ≡ true → IsRule n (made (record { size = size; words = words; parts = parts }) (record { seat = seat; access = access }))
keeps_parts n size words [] seat access h may = absurd h.shared.seats
keeps_parts n size words (Producer p ∷ rest) seat access h may = absurd h.shared.seats
keeps_parts n size words (Processor q ∷ rest) zero access h may = processor_keeps n size words q rest h access may
keeps_parts n size words (Processor q ∷ rest) (suc seat) access h may =
    let p = producer_of (get_or rest seat nobody) (producers_all rest seat h.shared.seats.1) in
    let lt : seat < length rest = seated size rest seat access may in
    let m : producer_may size p.0 access ≡ true = ap (λ u. may_make size u access) (sym p.1) ∙ may in
    rw p.1 (producer_keeps n size words q rest seat p.0 p.1 lt h access m)

-- a step that is allowed keeps the rule
pub keeps : (n : ℕ) (machine : Machine) (step : Step) → IsRule n machine → is_allowed machine step ≡ true → IsRule n (made machine step)
keeps n machine step h may = keeps_parts n machine.size machine.words machine.parts step.seat step.access h may

-- so do the steps of a list
pub keeps_all : (n : ℕ) (machine : Machine) (steps : List Step) (last : Machine) → IsRule n machine → Leads machine steps last → IsRule n last
keeps_all n machine [] last h leads = subst (λ (m : Machine). IsRule n m) (sym leads) h
keeps_all n machine (step ∷ steps) last h leads = keeps_all n (made machine step) steps last (keeps n machine step h leads.0) leads.1

-- ---- the opening

all_fresh : (n : ℕ) → all_tickets (replicate n new_producer) ≡ []
all_fresh zero = refl
all_fresh (suc n) = all_fresh n

fresh_producers : (n : ℕ) → list_all is_producer (replicate n new_producer) ≡ true
fresh_producers zero = refl
fresh_producers (suc n) = fresh_producers n

-- no word of a blank ticket is known
unknown : (k w : ℕ) → word no_words k ≡ Some w → ⊥
unknown k w e = let n : word no_words k ≡ None = no_word k in cc

none_below : (id : ℕ) → nat_lt id 0 ≡ false
none_below id = grind (arith, nat_tests)

-- a ring opens with the rule
pub opens : (n size : ℕ) → 0 < size → IsRule n (opened size n)
opens n size pos =
    let none : (id : ℕ) → ticket_of (opened size n).parts id ≡ blank = λ id. ap (λ xs. unwrap_or (held id xs) blank) (all_fresh n) in
    record {
      slots = pos;
      words = let e : length (free_slots size) ≡ 8 * size = free_length size in omega (arith, e);
      shared = record {
        seats = (length-replicate n new_producer, fresh_producers n);
        allowances = zero-add (sum_by allowance_of (replicate n new_producer)) ∙ sum_by-replicate allowance_of n new_producer;
        named = λ id. ap (times id) (all_fresh n) ∙ ap (λ b. cond {A = ℕ} b 1 0) (sym (none_below id));
      };
      tied = tied_along size 0 0 (slot_word (opened size n)) (slot_word (opened size n)) (λ _. blank) (ticket_of (opened size n).parts) [] no_words false refl (λ _ _. refl) none
          (record {
            behind = λ id lt. absurd (omega arith);
            seen = λ id r e. absurd (cc);
            room = λ id k w e. absurd (unknown k w e);
            whole = λ id k p lt. absurd (cc);
            valid = λ id w e. absurd (unknown 0 w e);
            header = λ id lo hi x. ap is_invalid (free_word size id pos);
            cleared = λ r. absurd (cc);
            live = λ id k w lo e x. absurd (unknown k w e);
            count = refl;
            retired = λ id k lt hi. absurd (omega arith);
            collected = λ k w e. absurd (unknown k w e);
            begun = λ k w e. absurd (unknown k w e);
            complete = λ k r lt. absurd (cc);
            eight = λ id. refl;
            eight_collected = refl;
          });
    }

-- the machine after any list of steps meets the rule
pub replays_keep : (size n : ℕ) (steps : List Step) (machine : Machine) → 0 < size → Replays size n steps machine → IsRule n machine
replays_keep size n steps machine pos leads = keeps_all n (opened size n) steps machine (opens n size pos) leads
