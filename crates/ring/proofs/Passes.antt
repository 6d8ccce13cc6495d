-- What steps do to a pass.
use Rattle.std.proofs.Common.{◌≡◌, ◌≢◌, ℕ, ◌+◌, ◌<◌, ◌≤◌, Bool, true, false, List, [], ◌∷◌, length, refl, ap, ◌∙◌, sym, subst, arith, cond, eqb}
use Rattle.std.specs.Prelude.{Some, None, is_some, nat_lt, unwrap_or, slice_index, ⊤}
use Rattle.std.proofs.lemmas.Bool.Decides.{nat_tests}
use Rattle.ring_core.specs.declared.ticket.Ticket.{Ticket}
use Rattle.ring_core.specs.declared.access.Access.{Access}
use Rattle.ring_core.specs.declared.access.Access.TheVariants.{Reserve, LoadReadIndex, StoreHeader}
use Rattle.ring_core.specs.declared.access.Seen.TheVariants.{Read}
use Rattle.ring_core.specs.declared.access.Made.{Made}
use Rattle.ring_core.specs.declared.part.SeatPart.{SeatPart}
use Rattle.ring_core.specs.declared.part.SeatPart.TheVariants.{Producer}
use Rattle.ring_core.specs.declared.part.ProducerPart.{ProducerPart}
use Rattle.ring_core.specs.Tickets.{blank, held, only_open, open_ticket, seeing, writing, IsAbove}
use Rattle.ring_core.specs.Parts.{may_make, after_producing}
use Rattle.ring_core.specs.Machine.{write_index, part_at, place_of}
use Rattle.ring_core.specs.Rule.{IsRule, tickets_of, all_tickets, ticket_of, times}
use Rattle.ring_core.proofs.Entries.{held_none}
use Rattle.ring_core.proofs.Seats.{held_append, all_below, seat_held}
use Rattle.ring.specs.declared.share.Numbered.{Numbered}
use Rattle.ring.specs.Places.{table_place}
use Rattle.ring.specs.Shares.{alone}
use Rattle.ring.specs.Passes.{RingSeen, only_part, as_producer, IsProducerPass}
use Rattle.ring_core.specs.Runs.{after_own}
use Rattle.ring.specs.Made.{WasMade, WereMade, Gained, knowing_all, read, stored, packet_stored, publication}
use Rattle.ring.specs.inner.Halfway.{body_stored}
use Rattle.ring.specs.Steps.{only_number, IsReady, HasGained}
use Rattle.ring.specs.Publishing.{IsFillable}
use Rattle.ring.proofs.Filling.{open_held, some_ticket, change_open, change_other, knowing_append, Filled, filling}
use Rattle.ring.proofs.Gains.{ready_of, gained_more}

abbrev ME : Type 0
ME = List Numbered × List (ℕ × ⊤)

eqb_same : (a b : ℕ) → a ≡ b → eqb a b ≡ true
eqb_same a b e = grind (arith, nat_tests)

pub record ProducerSteps (size producers number : ℕ) (p : ProducerPart) (made : List Made) (q : ProducerPart) (me' : ME) : Type 0 where
  pub me_is : me' ≡ (alone number (Producer q), [])
  pub pass : IsProducerPass number q.allowance me'
  pub part : as_producer (only_part me'.0) ≡ q
  pub gained : Gained size producers number (Producer p) made (Producer (as_producer (only_part me'.0)))

pub producer_steps : (size producers number allowance : ℕ) (me me' : ME) (made : List Made) (q : ProducerPart) → IsProducerPass number allowance me → HasGained {S = ⊤} size producers me made me' → knowing_all (Producer (as_producer (only_part me.0))) made ≡ Producer q → ProducerSteps size producers number (as_producer (only_part me.0)) made q me'
producer_steps size producers number allowance me me' made q h k is =
    let p : ProducerPart = as_producer (only_part me.0) in
    let share : me ≡ (alone number (Producer p), []) = h.share in
    let me_is : me' ≡ (alone number (Producer q), []) = k.knows ∙ (λ i. (alone (only_number (share i).0) (knowing_all (only_part (share i).0) made), [])) ∙ (λ i. (alone number (is i), [])) in
    let part : as_producer (only_part me'.0) ≡ q = ap (λ (m : ME). as_producer (only_part m.0)) me_is in
    record {
      me_is = me_is;
      pass = record { share = me_is ∙ (λ i. (alone number (Producer (sym part i)), [])); left = ap (λ u. u.allowance) (sym part) };
      part = part;
      gained = (subst (λ (m : ME). WereMade size producers (only_number m.0) (only_part m.0) made) share k.were, ap Producer part ∙ sym is);
    }

-- a producer's pass is ready for what its part may do
pub producer_ready : (ring : RingSeen) (number allowance : ℕ) (me : ME) (access : Access) (place : ℕ) → IsProducerPass number allowance me → may_make ring.size (Producer (as_producer (only_part me.0))) access ≡ true → ((index : ℕ) → place ≡ table_place (place_of ring.size index access)) → IsReady {S = ⊤} ring me access place
producer_ready ring number allowance me access place h may lies = ready_of ring me number (Producer (as_producer (only_part me.0))) access place h.share may (λ index _. lies index)

pub some_left : (n : ℕ) → n ≢ 0 → nat_lt 0 n ≡ true
some_left n ne = grind (arith, nat_tests)

-- ---- an id that was reserved

module _ (size producers number id : ℕ) (p : ProducerPart) (pos : 0 < size) (h : WasMade size producers number (Producer p) (read Reserve id)) where
  above : IsAbove id p.tickets
  above =
      let rule : IsRule producers h.machine = h.are.rule in
      let same_Read : (a b : ℕ) → Read a ≡ Read b → a ≡ b = λ a b e. cc in
      let is : id ≡ write_index h.machine = same_Read id (write_index h.machine) h.makes.told in
      let a : IsAbove (write_index h.machine) (tickets_of (part_at h.machine number)) = all_below (write_index h.machine) h.machine.parts number rule.shared.named in
      subst (λ (n : ℕ). IsAbove n p.tickets) (sym is) (subst (λ (u : SeatPart). IsAbove (write_index h.machine) (tickets_of u)) h.had a)

  absent : held id p.tickets ≡ None
  absent = held_none id p.tickets (λ k lt same. let b = above k lt in omega (arith, b, same))

  pub opens_new : is_some (open_ticket id (after_producing p Reserve id).tickets) ≡ true
  opens_new =
      let e : held id (after_producing p Reserve id).tickets ≡ Some blank = held_append id p.tickets (record { id = record { 0 = id }; ticket = blank } ∷ []) ∙ rw absent (here id) in
      ap (λ o. is_some (only_open o)) e
    where
      here : (id : ℕ) → held id (record { id = record { 0 = id }; ticket = blank } ∷ []) ≡ Some blank
      here id = rw (eqb_same id id refl) refl

  pub keeps_open : (j : ℕ) → is_some (open_ticket j p.tickets) ≡ true → (j ≢ id) × (is_some (open_ticket j (after_producing p Reserve id).tickets) ≡ true)
  keeps_open j is_open =
      let t = some_ticket (open_ticket j p.tickets) is_open in
      let u = open_held (held j p.tickets) t.0 t.1 in (
        (λ same. let a : held j p.tickets ≡ None = ap (λ n. held n p.tickets) same ∙ absent in cc),
        (let e : held j (after_producing p Reserve id).tickets ≡ held j p.tickets = held_append j p.tickets (record { id = record { 0 = id }; ticket = blank } ∷ []) ∙ rw u.0 refl in
            ap (λ o. is_some (only_open o)) e ∙ is_open),
      )

-- ---- a ticket of a seat has eight words

pub ticket_eight : (size producers number id : ℕ) (p : ProducerPart) (t : Ticket) (made : Made) → 0 < size → WasMade size producers number (Producer p) made → open_ticket id p.tickets ≡ Some t → length t.words ≡ 8
ticket_eight size producers number id p t made pos h is_open =
    let rule : IsRule producers h.machine = h.are.rule in
    let u = open_held (held id p.tickets) t is_open in
    let has : held id (tickets_of (part_at h.machine number)) ≡ Some t = ap (λ v. held id (tickets_of v)) h.had ∙ u.0 in
    let once : times id (all_tickets h.machine.parts) ≤ 1 = at_most_one (nat_lt id (write_index h.machine)) (times id (all_tickets h.machine.parts)) (rule.shared.named id) in
    let its : ticket_of h.machine.parts id ≡ t = ap (λ o. unwrap_or o blank) (seat_held id h.machine.parts number t once has) in
    ap (λ v. length v.words) (sym its) ∙ rule.tied.eight id
  where
    at_most_one : (b : Bool) (m : ℕ) → m ≡ cond b 1 0 → m ≤ 1
    at_most_one true m e = omega arith
    at_most_one false m e = omega arith

-- ---- a publication

module _ (size producers number allowance id seen : ℕ) (me me1 : ME) (pos : 0 < size) (inv : IsProducerPass number allowance me)
    (is_open : is_some (open_ticket id (as_producer (only_part me.0)).tickets) ≡ true)
    (look : HasGained {S = ⊤} size producers me (read (LoadReadIndex (record { 0 = id })) seen ∷ []) me1) where
  abbrev part0 : ProducerPart
  part0 = as_producer (only_part me.0)

  abbrev part1 : ProducerPart
  part1 = after_producing part0 (LoadReadIndex (record { 0 = id })) seen

  -- after the look
  pub looked : ProducerSteps size producers number part0 (read (LoadReadIndex (record { 0 = id })) seen ∷ []) part1 me1
  looked = producer_steps size producers number allowance me me1 (read (LoadReadIndex (record { 0 = id })) seen ∷ []) part1 inv look refl

  abbrev held_ticket : (t : Ticket) × (open_ticket id part0.tickets ≡ Some t)
  held_ticket = some_ticket (open_ticket id part0.tickets) is_open

  pub open1 : open_ticket id part1.tickets ≡ Some (seeing seen held_ticket.0)
  open1 = change_open id (seeing seen) part0.tickets held_ticket.0 held_ticket.1 refl

  pub looked_open : is_some (open_ticket id (as_producer (only_part me1.0)).tickets) ≡ true
  looked_open = ap (λ u. is_some (open_ticket id u.tickets)) looked.part ∙ ap is_some open1

  others1 : (j : ℕ) → j ≢ id → open_ticket j part1.tickets ≡ open_ticket j part0.tickets
  others1 j ne = change_other id j (seeing seen) part0.tickets ne

  pub looked_others : (j : ℕ) → j ≢ id → is_some (open_ticket j part0.tickets) ≡ true → is_some (open_ticket j (as_producer (only_part me1.0)).tickets) ≡ true
  looked_others j ne was = ap (λ u. is_some (open_ticket j u.tickets)) looked.part ∙ ap is_some (others1 j ne) ∙ was

  pub fillable : nat_lt id (seen + size) ≡ true → IsFillable {S = ⊤} size me1 id
  fillable room =
      record {
        part = part1;
        ticket = seeing seen held_ticket.0;
        one = looked.me_is ∙ (λ i. (alone (only_number (sym looked.me_is i).0) (Producer part1), []));
        opened = open1;
        room = room;
        eight = ticket_eight size producers number id part0 held_ticket.0 (read (LoadReadIndex (record { 0 = id })) seen) pos looked.gained.0.0 held_ticket.1;
      }

  -- after the stores
  module _ (words : List ℕ) (me2 : ME) (store : HasGained {S = ⊤} size producers me1 (packet_stored id words) me2) where
    abbrev body : Filled id words part1 (seeing seen held_ticket.0) 7
    body = filling id words part1 (seeing seen held_ticket.0) open1 7

    abbrev part2 : ProducerPart
    part2 = after_producing body.part (StoreHeader (record { 0 = id }) (slice_index words 0)) 0

    known2 : knowing_all (Producer part1) (packet_stored id words) ≡ Producer part2
    known2 =
        knowing_append (Producer part1) (body_stored id words 7) (stored (StoreHeader (record { 0 = id }) (slice_index words 0)) ∷ [])
        ∙ ap (λ u. after_own u (stored (StoreHeader (record { 0 = id }) (slice_index words 0)))) body.is

    pub published : ProducerSteps size producers number part0 (publication id seen words) part2 me2
    published =
        producer_steps size producers number allowance me me2 (publication id seen words) part2 inv
        (gained_more size producers me me1 me2 (read (LoadReadIndex (record { 0 = id })) seen ∷ []) (packet_stored id words) look store) known2

    pub published_others : (j : ℕ) → j ≢ id → is_some (open_ticket j part0.tickets) ≡ true → is_some (open_ticket j (as_producer (only_part me2.0)).tickets) ≡ true
    published_others j ne was =
        ap (λ u. is_some (open_ticket j u.tickets)) published.part
        ∙ ap is_some (change_other id j (writing 0 (slice_index words 0)) body.part.tickets ne ∙ body.others j ne ∙ others1 j ne)
        ∙ was
