-- Who has which ticket, and what a step of one seat does to that.
use Rattle.std.proofs.Common.{◌≡◌, ◌≢◌, ℕ, zero, suc, ◌+◌, ◌<◌, ◌≤◌, Bool, true, false, List, [], ◌∷◌, ◌++◌, length, get_or, set, eqb, refl, ap, ◌∙◌, sym, arith, cond, inl, inr}
use Rattle.std.specs.Prelude.{Option, Some, None, if◌then◌else◌, unwrap_or, nat_lt}
use Rattle.std.proofs.lemmas.Bool.Decides.{nat_tests, eqb_tells, leb_tells}
use Rattle.std.proofs.lemmas.Option.{same_Some}
use Rattle.ring_core.specs.declared.ticket.Ticket.{Ticket}
use Rattle.ring_core.specs.declared.ticket.HeldTicket.{HeldTicket}
use Rattle.ring_core.specs.declared.part.SeatPart.{SeatPart}
use Rattle.ring_core.specs.Tickets.{held, changed, blank, unnamed, IsAbove}
use Rattle.ring_core.specs.Parts.{nobody}
use Rattle.ring_core.specs.Rule.{tickets_of, all_tickets, ticket_of, times}
use Rattle.ring_core.proofs.Tied.{with_at}

-- one of two, the first first
abbrev pub or_else : Option Ticket → Option Ticket → Option Ticket
or_else None other = other
or_else (Some ticket) other = Some ticket

pub held_append : (id : ℕ) (xs ys : List HeldTicket) → held id (xs ++ ys) ≡ or_else (held id xs) (held id ys)
held_append id [] ys = refl
held_append id (x ∷ xs) ys =
    elim (eqb_tells x.id.0 id) [
      | inl h ↦ rw h.0 refl
      | inr h ↦ rw h.0 (held_append id xs ys)
    ]

one_of : (b : Bool) → b ≡ true → cond {A = ℕ} b 1 0 ≡ 1
one_of b e = rw e refl

pub times_append : (id : ℕ) (xs ys : List HeldTicket) → times id (xs ++ ys) ≡ times id xs + times id ys
times_append id [] ys = omega arith
times_append id (x ∷ xs) ys = omega (arith, times_append id xs ys)

-- what isn't among tickets isn't held
pub held_absent : (id : ℕ) (xs : List HeldTicket) → times id xs ≡ 0 → held id xs ≡ None
held_absent id [] z = refl
held_absent id (x ∷ xs) z =
    elim (eqb_tells x.id.0 id) [
      | inl h ↦ absurd (omega (arith, one_of (eqb x.id.0 id) h.0))
      | inr h ↦ rw h.0 (held_absent id xs (omega arith))
    ]

-- what is held is there
pub held_counts : (id : ℕ) (xs : List HeldTicket) (t : Ticket) → held id xs ≡ Some t → 1 ≤ times id xs
held_counts id [] t e = absurd (cc)
held_counts id (x ∷ xs) t e =
    elim (eqb_tells x.id.0 id) [
      | inl h ↦ omega (arith, one_of (eqb x.id.0 id) h.0)
      | inr h ↦ let f : held id xs ≡ Some t = rw h.0 at e in omega (arith, held_counts id xs t f)
    ]

-- a change of a ticket
pub held_changed_same : (id : ℕ) (change : Ticket → Ticket) (xs : List HeldTicket) (t : Ticket) → held id xs ≡ Some t → held id (changed id change xs) ≡ Some (change t)
held_changed_same id change [] t e = absurd (cc)
held_changed_same id change (x ∷ xs) t e =
    elim (eqb_tells x.id.0 id) [
      | inl h ↦ let f : x.ticket ≡ t = same_Some x.ticket t (rw h.0 at e) in rw (h.0, h.0) (ap (λ u. Some (change u)) f)
      | inr h ↦ rw (h.0, h.0) (held_changed_same id change xs t (rw h.0 at e))
    ]

pub held_changed_other : (id j : ℕ) (change : Ticket → Ticket) (xs : List HeldTicket) → j ≢ id → held j (changed id change xs) ≡ held j xs
held_changed_other id j change [] ne = refl
held_changed_other id j change (x ∷ xs) ne =
    elim (eqb_tells x.id.0 id) [
      | inl h ↦ let f : eqb x.id.0 j ≡ false = grind (arith, nat_tests) in rw (h.0, f) refl
      | inr h ↦ rw h.0 (ap (λ o. if eqb x.id.0 j then Some x.ticket else o) (held_changed_other id j change xs ne))
    ]

pub times_changed : (id j : ℕ) (change : Ticket → Ticket) (xs : List HeldTicket) → times j (changed id change xs) ≡ times j xs
times_changed id j change [] = refl
times_changed id j change (x ∷ xs) =
    elim (eqb_tells x.id.0 id) [
      | inl h ↦ rw h.0 refl
      | inr h ↦ rw h.0 (ap (λ n. cond (eqb x.id.0 j) 1 0 + n) (times_changed id j change xs))
    ]

changed_absent : (id : ℕ) (change : Ticket → Ticket) (xs : List HeldTicket) → times id xs ≡ 0 → changed id change xs ≡ xs
changed_absent id change [] z = refl
changed_absent id change (x ∷ xs) z =
    elim (eqb_tells x.id.0 id) [
      | inl h ↦ absurd (omega (arith, one_of (eqb x.id.0 id) h.0))
      | inr h ↦ rw h.0 (ap (λ ys. x ∷ ys) (changed_absent id change xs (omega arith)))
    ]

-- in joined lists the change is in the first that has the ticket
changed_left : (id : ℕ) (change : Ticket → Ticket) (xs ys : List HeldTicket) (t : Ticket) → held id xs ≡ Some t → changed id change (xs ++ ys) ≡ changed id change xs ++ ys
changed_left id change [] ys t e = absurd (cc)
changed_left id change (x ∷ xs) ys t e =
    elim (eqb_tells x.id.0 id) [
      | inl h ↦ rw h.0 refl
      | inr h ↦ rw h.0 (ap (λ zs. x ∷ zs) (changed_left id change xs ys t (rw h.0 at e)))
    ]

changed_right : (id : ℕ) (change : Ticket → Ticket) (xs ys : List HeldTicket) → times id xs ≡ 0 → changed id change (xs ++ ys) ≡ xs ++ changed id change ys
changed_right id change [] ys z = refl
changed_right id change (x ∷ xs) ys z =
    elim (eqb_tells x.id.0 id) [
      | inl h ↦ absurd (omega (arith, one_of (eqb x.id.0 id) h.0))
      | inr h ↦ rw h.0 (ap (λ zs. x ∷ zs) (changed_right id change xs ys (omega arith)))
    ]

-- what one part holds is among all tickets
seat_counts : (id : ℕ) (parts : List SeatPart) (seat : ℕ) (t : Ticket) → held id (tickets_of (get_or parts seat nobody)) ≡ Some t → 1 ≤ times id (all_tickets parts)
seat_counts id [] seat t e = absurd (cc)
seat_counts id (p ∷ parts) zero t e = omega (arith, held_counts id (tickets_of p) t e, times_append id (tickets_of p) (all_tickets parts))
seat_counts id (p ∷ parts) (suc seat) t e = omega (arith, seat_counts id parts seat t e, times_append id (tickets_of p) (all_tickets parts))

pub seat_held : (id : ℕ) (parts : List SeatPart) (seat : ℕ) (t : Ticket) → times id (all_tickets parts) ≤ 1 → held id (tickets_of (get_or parts seat nobody)) ≡ Some t → held id (all_tickets parts) ≡ Some t
seat_held id [] seat t one e = absurd (cc)
seat_held id (p ∷ parts) zero t one e = held_append id (tickets_of p) (all_tickets parts) ∙ ap (λ o. or_else o (held id (all_tickets parts))) e
seat_held id (p ∷ parts) (suc seat) t one e =
    let rest : 1 ≤ times id (all_tickets parts) = seat_counts id parts seat t e in
    let z : times id (tickets_of p) ≡ 0 = omega (arith, times_append id (tickets_of p) (all_tickets parts)) in
    let less : times id (all_tickets parts) ≤ 1 = omega (arith, times_append id (tickets_of p) (all_tickets parts)) in
    held_append id (tickets_of p) (all_tickets parts) ∙ ap (λ o. or_else o (held id (all_tickets parts))) (held_absent id (tickets_of p) z) ∙ seat_held id parts seat t less e

-- a seat that changes its ticket changes that one among all
pub seat_changed : (id : ℕ) (change : Ticket → Ticket) (parts : List SeatPart) (seat : ℕ) (part : SeatPart) (t : Ticket) → times id (all_tickets parts) ≤ 1 → held id (tickets_of (get_or parts seat nobody)) ≡ Some t → tickets_of part ≡ changed id change (tickets_of (get_or parts seat nobody)) → all_tickets (set parts seat part) ≡ changed id change (all_tickets parts)
seat_changed id change [] seat part t one e same = absurd (cc)
seat_changed id change (p ∷ parts) zero part t one e same =
    ap (λ xs. xs ++ all_tickets parts) same ∙ sym (changed_left id change (tickets_of p) (all_tickets parts) t e)
seat_changed id change (p ∷ parts) (suc seat) part t one e same =
    let rest : 1 ≤ times id (all_tickets parts) = seat_counts id parts seat t e in
    let z : times id (tickets_of p) ≡ 0 = omega (arith, times_append id (tickets_of p) (all_tickets parts)) in
    let less : times id (all_tickets parts) ≤ 1 = omega (arith, times_append id (tickets_of p) (all_tickets parts)) in
    ap (λ xs. tickets_of p ++ xs) (seat_changed id change parts seat part t less e same) ∙ sym (changed_right id change (tickets_of p) (all_tickets parts) z)

-- so the tickets by id have the new one in place of the old
pub ticket_changed : (id : ℕ) (change : Ticket → Ticket) (parts : List SeatPart) (seat : ℕ) (part : SeatPart) (t : Ticket) → times id (all_tickets parts) ≤ 1 → held id (tickets_of (get_or parts seat nobody)) ≡ Some t → tickets_of part ≡ changed id change (tickets_of (get_or parts seat nobody)) → (j : ℕ) → ticket_of (set parts seat part) j ≡ with_at (ticket_of parts) id (change (ticket_of parts id)) j
ticket_changed id change parts seat part t one e same j =
    let all : all_tickets (set parts seat part) ≡ changed id change (all_tickets parts) = seat_changed id change parts seat part t one e same in
    let here : held id (all_tickets parts) ≡ Some t = seat_held id parts seat t one e in
    elim (eqb_tells j id) [
      | inl h ↦
          rw h.0
          (ap (λ xs. unwrap_or (held j xs) blank) all
          ∙ ap (λ i. unwrap_or (held i (changed id change (all_tickets parts))) blank) h.1
          ∙ ap (λ o. unwrap_or o blank) (held_changed_same id change (all_tickets parts) t here)
          ∙ ap (λ o. change (unwrap_or o blank)) (sym here))
      | inr h ↦
          rw h.0
          (ap (λ xs. unwrap_or (held j xs) blank) all
          ∙ ap (λ o. unwrap_or o blank) (held_changed_other id j change (all_tickets parts) h.1))
    ]

-- a seat that reserves an id gives it a blank ticket, and each other id keeps its own
held_last : (id : ℕ) (xs : List HeldTicket) (e : HeldTicket) → held id (xs ++ e ∷ []) ≡ or_else (held id xs) (if eqb e.id.0 id then Some e.ticket else None)
held_last id xs e = held_append id xs (e ∷ [])

pub reserved_other : (id : ℕ) (parts : List SeatPart) (seat : ℕ) (part : SeatPart) (e : HeldTicket) → seat < length parts → tickets_of part ≡ tickets_of (get_or parts seat nobody) ++ e ∷ [] → e.id.0 ≢ id → held id (all_tickets (set parts seat part)) ≡ held id (all_tickets parts)
reserved_other id [] seat part e lt same ne = absurd (omega arith)
reserved_other id (p ∷ parts) zero part e lt same ne =
    let f : eqb e.id.0 id ≡ false = grind (arith, nat_tests) in
    let last : held id (tickets_of part) ≡ or_else (held id (tickets_of p)) None = ap (held id) same ∙ held_last id (tickets_of p) e ∙ ap (λ b. or_else (held id (tickets_of p)) (if b then Some e.ticket else None)) f in
    held_append id (tickets_of part) (all_tickets parts)
    ∙ ap (λ o. or_else o (held id (all_tickets parts))) (last ∙ or_none (held id (tickets_of p)))
    ∙ sym (held_append id (tickets_of p) (all_tickets parts))
  where
    or_none : (o : Option Ticket) → or_else o None ≡ o
    or_none None = refl
    or_none (Some t) = refl
reserved_other id (p ∷ parts) (suc seat) part e lt same ne =
    held_append id (tickets_of p) (all_tickets (set parts seat part))
    ∙ ap (λ o. or_else (held id (tickets_of p)) o) (reserved_other id parts seat part e (omega arith) same ne)
    ∙ sym (held_append id (tickets_of p) (all_tickets parts))

pub reserved_new : (parts : List SeatPart) (seat : ℕ) (part : SeatPart) (e : HeldTicket) → seat < length parts → tickets_of part ≡ tickets_of (get_or parts seat nobody) ++ e ∷ [] → times e.id.0 (all_tickets parts) ≡ 0 → held e.id.0 (all_tickets (set parts seat part)) ≡ Some e.ticket
reserved_new [] seat part e lt same z = absurd (omega arith)
reserved_new (p ∷ parts) zero part e lt same z =
    let f : eqb e.id.0 e.id.0 ≡ true = grind (arith, nat_tests) in
    let zp : times e.id.0 (tickets_of p) ≡ 0 = omega (arith, times_append e.id.0 (tickets_of p) (all_tickets parts)) in
    held_append e.id.0 (tickets_of part) (all_tickets parts)
    ∙ ap (λ xs. or_else (held e.id.0 xs) (held e.id.0 (all_tickets parts))) same
    ∙ ap (λ o. or_else o (held e.id.0 (all_tickets parts))) (held_last e.id.0 (tickets_of p) e ∙ ap (λ o. or_else o (if eqb e.id.0 e.id.0 then Some e.ticket else None)) (held_absent e.id.0 (tickets_of p) zp) ∙ ap (λ b. if b then Some e.ticket else None) f)
reserved_new (p ∷ parts) (suc seat) part e lt same z =
    let zp : times e.id.0 (tickets_of p) ≡ 0 = omega (arith, times_append e.id.0 (tickets_of p) (all_tickets parts)) in
    let zr : times e.id.0 (all_tickets parts) ≡ 0 = omega (arith, times_append e.id.0 (tickets_of p) (all_tickets parts)) in
    held_append e.id.0 (tickets_of p) (all_tickets (set parts seat part))
    ∙ ap (λ o. or_else o (held e.id.0 (all_tickets (set parts seat part)))) (held_absent e.id.0 (tickets_of p) zp)
    ∙ reserved_new parts seat part e (omega arith) same zr

-- a blank ticket is what an id without one is taken to have, so the tickets by id stay
pub ticket_reserved : (parts : List SeatPart) (seat : ℕ) (part : SeatPart) (e : HeldTicket) → seat < length parts → tickets_of part ≡ tickets_of (get_or parts seat nobody) ++ e ∷ [] → e.ticket ≡ blank → times e.id.0 (all_tickets parts) ≡ 0 → (j : ℕ) → ticket_of (set parts seat part) j ≡ ticket_of parts j
ticket_reserved parts seat part e lt same new z j =
    elim (eqb_tells e.id.0 j) [
      | inl h ↦
          ap (λ i. unwrap_or (held i (all_tickets (set parts seat part))) blank) (sym h.1)
          ∙ ap (λ o. unwrap_or o blank) (reserved_new parts seat part e lt same z)
          ∙ new
          ∙ ap (λ o. unwrap_or o blank) (sym (held_absent e.id.0 (all_tickets parts) z))
          ∙ ap (λ i. unwrap_or (held i (all_tickets parts)) blank) h.1
      | inr h ↦ ap (λ o. unwrap_or o blank) (reserved_other j parts seat part e lt same h.1)
    ]

-- how often an id is among all tickets, after one part changed
pub times_set : (id : ℕ) (parts : List SeatPart) (seat : ℕ) (part : SeatPart) → seat < length parts → times id (all_tickets (set parts seat part)) + times id (tickets_of (get_or parts seat nobody)) ≡ times id (all_tickets parts) + times id (tickets_of part)
times_set id [] seat part lt = absurd (omega arith)
times_set id (p ∷ parts) zero part lt = omega (arith, times_append id (tickets_of p) (all_tickets parts), times_append id (tickets_of part) (all_tickets parts))
times_set id (p ∷ parts) (suc seat) part lt =
    omega (arith, times_set id parts seat part (omega arith), times_append id (tickets_of p) (all_tickets parts), times_append id (tickets_of p) (all_tickets (set parts seat part)))

-- the tickets of one part are among all
part_times : (id : ℕ) (parts : List SeatPart) (seat : ℕ) → times id (tickets_of (get_or parts seat nobody)) ≤ times id (all_tickets parts)
part_times id [] seat = omega arith
part_times id (p ∷ parts) zero = omega (arith, times_append id (tickets_of p) (all_tickets parts))
part_times id (p ∷ parts) (suc seat) = omega (arith, part_times id parts seat, times_append id (tickets_of p) (all_tickets parts))

-- each entry counts for its own id
entry_times : (xs : List HeldTicket) (k : ℕ) → k < length xs → 1 ≤ times (get_or xs k unnamed).id.0 xs
entry_times [] k lt = absurd (omega arith)
entry_times (x ∷ xs) zero lt = let f : eqb x.id.0 x.id.0 ≡ true = grind (arith, nat_tests) in omega (arith, one_of (eqb x.id.0 x.id.0) f)
entry_times (x ∷ xs) (suc k) lt = omega (arith, entry_times xs k (omega arith))

-- where all ids are below a bound, so are those of one part
pub all_below : (bound : ℕ) (parts : List SeatPart) (seat : ℕ) → ((id : ℕ) → times id (all_tickets parts) ≡ (if nat_lt id bound then 1 else 0)) → IsAbove bound (tickets_of (get_or parts seat nobody))
all_below bound parts seat named k lt =
    let id : ℕ = (get_or (tickets_of (get_or parts seat nobody)) k unnamed).id.0 in
    elim (leb_tells bound id) [
      | inr h ↦ h.1
      | inl h ↦
          let above : nat_lt id bound ≡ false = grind (arith, nat_tests) in
          let none : times id (all_tickets parts) ≡ 0 = named id ∙ ap (λ b. cond {A = ℕ} b 1 0) above in
          absurd (omega (arith, none, part_times id parts seat, entry_times (tickets_of (get_or parts seat nobody)) k lt))
    ]
