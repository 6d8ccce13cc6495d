-- The open ones among a producer's tickets, and what a change of the tickets does to them.
use Rattle.std.proofs.Common.{◌≡◌, ◌≢◌, ℕ, zero, suc, ◌+◌, ◌<◌, Bool, true, false, List, [], ◌∷◌, ◌++◌, length, get_or, set, refl, ap, ◌∙◌, sym, subst, arith, inl, inr, get_or-set_same, get_or-set_other, length-append, length-set, map, append_assoc}
use Rattle.std.specs.Prelude.{Option, Some, None, is_some, slice_index, ◌⊎◌, ◌&&◌}
use Rattle.std.specs.List.{fold, list_all}
use Rattle.std.proofs.lemmas.Bool.Decides.{nat_tests, eqb_tells, leb_tells}
use Rattle.std.proofs.lemmas.List.{get_or_append_left}
use Rattle.std.proofs.lemmas.List.Sums.{fold-append}
use Rattle.std.proofs.Math.Seq.{get_or-append_seam}
use Rattle.aql_packet.specs.declared.ids.PacketId.{PacketId}
use Rattle.ring_core.specs.declared.ticket.Ticket.{Ticket}
use Rattle.ring_core.specs.declared.ticket.HeldTicket.{HeldTicket}
use Rattle.ring_core.specs.declared.ticket.TicketChange.{TicketChange}
use Rattle.ring_core.specs.declared.ticket.TicketChange.TheVariants.{Opened, Saw, Wrote}
use Rattle.ring_core.specs.Words.{word, is_body}
use Rattle.ring_core.specs.Tickets.{blank, held, changed, seeing, writing, is_published, only_open, open_ticket, open_ones, without, after_change, after_changes, unnamed, IsAscending, IsAbove, HasEightWords}
use Rattle.ring_core.specs.Calls.{body_places}
use Rattle.ring_core.specs.inner.Together.{publication_changes}
use Rattle.ring_core.proofs.Entries.{held_none}

tells : (b : Bool) → (b ≡ true) ⊎ (b ≡ false)
tells true = inl refl
tells false = inr refl

both : (a b : Bool) → (a && b) ≡ true → (a ≡ true) × (b ≡ true)
both true b h = (refl, h)
both false b h = absurd (cc)

-- ---- ids that rise

-- an id is below all of these
abbrev Above : ℕ → List HeldTicket → Type 0
Above id xs = (k : ℕ) → k < length xs → id < (get_or xs k unnamed).id.0

rise_tail : (x : HeldTicket) (xs : List HeldTicket) → IsAscending (x ∷ xs) → IsAscending xs
rise_tail x xs rise i j lt inside = rise (suc i) (suc j) (omega arith) (omega arith)

rise_head : (x : HeldTicket) (xs : List HeldTicket) → IsAscending (x ∷ xs) → Above x.id.0 xs
rise_head x xs rise k inside = rise zero (suc k) (omega arith) (omega arith)

rise_cons : (x : HeldTicket) (xs : List HeldTicket) → Above x.id.0 xs → IsAscending xs → IsAscending (x ∷ xs)
rise_cons x xs above rise i zero lt inside = absurd (omega arith)
rise_cons x xs above rise zero (suc j) lt inside = above j (omega arith)
rise_cons x xs above rise (suc i) (suc j) lt inside = rise i j (omega arith) (omega arith)

above_open : (id : ℕ) (xs : List HeldTicket) → Above id xs → Above id (open_ones xs)
above_open id [] above = above
above_open id (x ∷ xs) above =
    let rest : Above id (open_ones xs) = above_open id xs (λ k lt. above (suc k) (omega arith)) in
    elim (tells (is_published x.ticket)) [
      | inl p ↦ rw p rest
      | inr p ↦ rw p (more rest)
    ]
  where
    more : Above id (open_ones xs) → Above id (x ∷ open_ones xs)
    more rest zero lt = above zero (omega arith)
    more rest (suc k) lt = rest k (omega arith)

pub rise_open : (xs : List HeldTicket) → IsAscending xs → IsAscending (open_ones xs)
rise_open [] rise = rise
rise_open (x ∷ xs) rise =
    let rest : IsAscending (open_ones xs) = rise_open xs (rise_tail x xs rise) in
    let above : Above x.id.0 (open_ones xs) = above_open x.id.0 xs (rise_head x xs rise) in
    elim (tells (is_published x.ticket)) [
      | inl p ↦ rw p rest
      | inr p ↦ rw p (rise_cons x (open_ones xs) above rest)
    ]

length_changed : (id : ℕ) (change : Ticket → Ticket) (xs : List HeldTicket) → length (changed id change xs) ≡ length xs
length_changed id change [] = refl
length_changed id change (x ∷ xs) =
    elim (eqb_tells x.id.0 id) [
      | inl h ↦ rw h.0 refl
      | inr h ↦ rw h.0 (ap suc (length_changed id change xs))
    ]

id_changed : (id : ℕ) (change : Ticket → Ticket) (xs : List HeldTicket) (k : ℕ) → (get_or (changed id change xs) k unnamed).id.0 ≡ (get_or xs k unnamed).id.0
id_changed id change [] k = refl
id_changed id change (x ∷ xs) zero =
    elim (eqb_tells x.id.0 id) [
      | inl h ↦ rw h.0 refl
      | inr h ↦ rw h.0 refl
    ]
id_changed id change (x ∷ xs) (suc k) =
    elim (eqb_tells x.id.0 id) [
      | inl h ↦ rw h.0 refl
      | inr h ↦ rw h.0 (id_changed id change xs k)
    ]

rise_changed : (id : ℕ) (change : Ticket → Ticket) (xs : List HeldTicket) → IsAscending xs → IsAscending (changed id change xs)
rise_changed id change xs rise i j lt inside =
    let n : length (changed id change xs) ≡ length xs = length_changed id change xs in
    let b : (get_or xs i unnamed).id.0 < (get_or xs j unnamed).id.0 = rise i j lt (omega (arith, n, inside)) in
    let at_i : (get_or (changed id change xs) i unnamed).id.0 ≡ (get_or xs i unnamed).id.0 = id_changed id change xs i in
    let at_j : (get_or (changed id change xs) j unnamed).id.0 ≡ (get_or xs j unnamed).id.0 = id_changed id change xs j in
    omega (arith, b, at_i, at_j)

rise_push : (xs : List HeldTicket) (x : HeldTicket) → IsAscending xs → IsAbove x.id.0 xs → IsAscending (xs ++ x ∷ [])
rise_push xs x rise above i j lt inside =
    let n : length (xs ++ x ∷ []) ≡ length xs + 1 = length-append xs (x ∷ []) in
    let near : i < length xs = omega (arith, n, inside, lt) in
    let at_i : (get_or (xs ++ x ∷ []) i unnamed).id.0 ≡ (get_or xs i unnamed).id.0 = ap (λ (r : HeldTicket). r.id.0) (get_or_append_left xs (x ∷ []) unnamed i near) in
    elim (leb_tells (length xs) j) [
      | inl h ↦
          let last : j ≡ length xs = omega (arith, n, inside, h.1) in
          let at_j : (get_or (xs ++ x ∷ []) j unnamed).id.0 ≡ x.id.0 =
          ap (λ (k : ℕ). (get_or (xs ++ x ∷ []) k unnamed).id.0) last ∙ ap (λ (r : HeldTicket). r.id.0) (get_or-append_seam xs x [] unnamed) in
          let b : (get_or xs i unnamed).id.0 < x.id.0 = above i near in
          omega (arith, at_i, at_j, b)
      | inr h ↦
          let at_j : (get_or (xs ++ x ∷ []) j unnamed).id.0 ≡ (get_or xs j unnamed).id.0 = ap (λ (r : HeldTicket). r.id.0) (get_or_append_left xs (x ∷ []) unnamed j h.1) in
          let b : (get_or xs i unnamed).id.0 < (get_or xs j unnamed).id.0 = rise i j lt h.1 in
          omega (arith, at_i, at_j, b)
    ]

-- ---- the open ones

-- what is held among the open ones is the open ticket
pub held_open : (id : ℕ) (xs : List HeldTicket) → IsAscending xs → held id (open_ones xs) ≡ open_ticket id xs
held_open id [] rise = refl
held_open id (x ∷ xs) rise =
    let rest : held id (open_ones xs) ≡ open_ticket id xs = held_open id xs (rise_tail x xs rise) in
    elim (eqb_tells x.id.0 id) [
      | inl h ↦
          let none : held id xs ≡ None = held_none id xs (λ k lt same. let b : x.id.0 < (get_or xs k unnamed).id.0 = rise_head x xs rise k lt in omega (arith, b, same, h.1)) in
          let gone : held id (open_ones xs) ≡ None = rest ∙ ap only_open none in
          elim (tells (is_published x.ticket)) [
            | inl p ↦ rw (p, h.0, p) gone
            | inr p ↦ rw (p, h.0, p) refl
          ]
      | inr h ↦
          elim (tells (is_published x.ticket)) [
            | inl p ↦ rw (p, h.0) rest
            | inr p ↦ rw (p, h.0) rest
          ]
    ]

-- a change of an open ticket that doesn't publish it is the same change among the open ones
open_changed : (id : ℕ) (change : Ticket → Ticket) (xs : List HeldTicket) → ((t : Ticket) → is_published (change t) ≡ is_published t) → is_some (open_ticket id xs) ≡ true
    → changed id change (open_ones xs) ≡ open_ones (changed id change xs)
open_changed id change [] stays has = refl
open_changed id change (x ∷ xs) stays has =
    elim (eqb_tells x.id.0 id) [
      | inl h ↦
          elim (tells (is_published x.ticket)) [
            | inl p ↦ let no_ticket : false ≡ true = rw (h.0, p) at has in absurd (cc)
            | inr p ↦ rw (p, h.0, stays x.ticket, p) refl
          ]
      | inr h ↦
          let has' : is_some (open_ticket id xs) ≡ true = rw h.0 at has in
          let rest : changed id change (open_ones xs) ≡ open_ones (changed id change xs) = open_changed id change xs stays has' in
          elim (tells (is_published x.ticket)) [
            | inl p ↦ rw (p, h.0, p) rest
            | inr p ↦ rw (p, h.0, p) (ap (λ ys. x ∷ ys) rest)
          ]
    ]

-- a ticket whose header word is written is no more among the open ones
open_published : (id w : ℕ) (xs : List HeldTicket) → is_some (open_ticket id xs) ≡ true → HasEightWords id xs → without id (open_ones xs) ≡ open_ones (changed id (writing 0 w) xs)
open_published id w [] has eight = refl
open_published id w (x ∷ xs) has eight =
    elim (eqb_tells x.id.0 id) [
      | inl h ↦
          elim (tells (is_published x.ticket)) [
            | inl p ↦ let no_ticket : false ≡ true = rw (h.0, p) at has in absurd (cc)
            | inr p ↦
                let n : length x.ticket.words ≡ 8 = eight x.ticket (rw h.0 refl) in
                let written : word (set x.ticket.words 0 (Some w)) 0 ≡ Some w = get_or-set_same x.ticket.words 0 (Some w) None (omega (arith, n)) in
                let closed : is_published (writing 0 w x.ticket) ≡ true = ap is_some written in
                rw (p, h.0, closed) refl
          ]
      | inr h ↦
          let has' : is_some (open_ticket id xs) ≡ true = rw h.0 at has in
          let eight' : HasEightWords id xs = λ t e. eight t (rw h.0 e) in
          let rest : without id (open_ones xs) ≡ open_ones (changed id (writing 0 w) xs) = open_published id w xs has' eight' in
          elim (tells (is_published x.ticket)) [
            | inl p ↦ rw (p, h.0, p) rest
            | inr p ↦ rw (p, h.0, p) (ap (λ ys. x ∷ ys) rest)
          ]
    ]

open_push : (xs : List HeldTicket) (x : HeldTicket) → is_published x.ticket ≡ false → open_ones (xs ++ x ∷ []) ≡ open_ones xs ++ x ∷ []
open_push [] x p = rw p refl
open_push (y ∷ xs) x p =
    elim (tells (is_published y.ticket)) [
      | inl q ↦ rw q (open_push xs x p)
      | inr q ↦ rw q (ap (λ ys. y ∷ ys) (open_push xs x p))
    ]

-- ---- what is kept of tickets: the ids rise, and those in memory are the open ones

abbrev pub IsKept : List HeldTicket → List TicketChange → Type 0
IsKept ones log = IsAscending (after_changes log) × (ones ≡ open_ones (after_changes log))

pub open_rises : (ones : List HeldTicket) (log : List TicketChange) → IsKept ones log → IsAscending ones
open_rises ones log kept = subst IsAscending (sym kept.1) (rise_open (after_changes log) kept.0)

pub found_open : (id : ℕ) (ones value : List HeldTicket) (log : List TicketChange) → IsKept ones log → after_changes log ≡ value → held id ones ≡ open_ticket id value
found_open id ones value log kept view =
    ap (held id) kept.1 ∙ held_open id (after_changes log) kept.0 ∙ ap (open_ticket id) view

after_more : (log log' : List TicketChange) (change : TicketChange) → log' ≡ log ++ change ∷ [] → after_changes log' ≡ after_change (after_changes log) change
after_more log log' change more = ap after_changes more ∙ fold-append after_change [] log (change ∷ [])

-- a change of an ones ticket that doesn't publish it
changed_keeps : (id : ℕ) (f : Ticket → Ticket) → ((t : Ticket) → is_published (f t) ≡ is_published t) → (ones ones' value : List HeldTicket) (log log' : List TicketChange)
    → after_changes log' ≡ changed id f (after_changes log) → IsKept ones log → after_changes log ≡ value → is_some (open_ticket id value) ≡ true → ones' ≡ changed id f ones → IsKept ones' log'
changed_keeps id f stays ones ones' value log log' after kept view has changes =
    let has' : is_some (open_ticket id (after_changes log)) ≡ true = ap (λ xs. is_some (open_ticket id xs)) view ∙ has in (
      subst IsAscending (sym after) (rise_changed id f (after_changes log) kept.0),
      changes ∙ ap (changed id f) kept.1 ∙ open_changed id f (after_changes log) stays has' ∙ ap open_ones (sym after),
    )

pub saw_keeps : (id : PacketId) (r : ℕ) (ones ones' value : List HeldTicket) (log log' : List TicketChange) → log' ≡ log ++ Saw id r ∷ []
    → IsKept ones log → after_changes log ≡ value → is_some (open_ticket id.0 value) ≡ true → ones' ≡ changed id.0 (seeing r) ones → IsKept ones' log'
saw_keeps id r ones ones' value log log' more kept view has changes =
    changed_keeps id.0 (seeing r) (λ t. refl) ones ones' value log log' (after_more log log' (Saw id r) more) kept view has changes

pub wrote_keeps : (id : PacketId) (k w : ℕ) (ones ones' value : List HeldTicket) (log log' : List TicketChange) → is_body k ≡ true → log' ≡ log ++ Wrote id k w ∷ []
    → IsKept ones log → after_changes log ≡ value → is_some (open_ticket id.0 value) ≡ true → ones' ≡ changed id.0 (writing k w) ones → IsKept ones' log'
wrote_keeps id k w ones ones' value log log' body more kept view has changes =
    changed_keeps id.0 (writing k w) stays ones ones' value log log' (after_more log log' (Wrote id k w) more) kept view has changes
  where
    apart : 0 ≢ k
    apart = grind (arith, nat_tests)

    stays : (t : Ticket) → is_published (writing k w t) ≡ is_published t
    stays t = ap is_some (get_or-set_other t.words k 0 (Some w) None apart)

pub publish_keeps : (id : PacketId) (w : ℕ) (ones ones' value : List HeldTicket) (log log' : List TicketChange) → log' ≡ log ++ Wrote id 0 w ∷ []
    → IsKept ones log → after_changes log ≡ value → is_some (open_ticket id.0 value) ≡ true → ones' ≡ without id.0 ones → HasEightWords id.0 ones → IsKept ones' log'
publish_keeps id w ones ones' value log log' more kept view has changes eight =
    let all : List HeldTicket = after_changes log in
    let after : after_changes log' ≡ changed id.0 (writing 0 w) all = after_more log log' (Wrote id 0 w) more in
    let has' : is_some (open_ticket id.0 all) ≡ true = ap (λ xs. is_some (open_ticket id.0 xs)) view ∙ has in
    let shown : held id.0 ones ≡ open_ticket id.0 all = ap (held id.0) kept.1 ∙ held_open id.0 all kept.0 in
    let eight' : HasEightWords id.0 all = λ t e. eight t (shown ∙ only (held id.0 all) t e has') in (
      subst IsAscending (sym after) (rise_changed id.0 (writing 0 w) all kept.0),
      changes ∙ ap (without id.0) kept.1 ∙ open_published id.0 w all has' eight' ∙ ap open_ones (sym after),
    )
  where
    only : (o : Option Ticket) (t : Ticket) → o ≡ Some t → is_some (only_open o) ≡ true → only_open o ≡ Some t
    only None t e has = absurd (cc)
    only (Some u) t e has =
        elim (tells (is_published u)) [
          | inl p ↦ let no_ticket : false ≡ true = rw p at has in absurd (cc)
          | inr p ↦ rw p e
        ]

pub push_keeps : (id : PacketId) (ones ones' value : List HeldTicket) (log log' : List TicketChange) → log' ≡ log ++ Opened id ∷ []
    → IsKept ones log → after_changes log ≡ value → IsAbove id.0 value → ones' ≡ ones ++ record { id = id; ticket = blank } ∷ [] → IsKept ones' log'
push_keeps id ones ones' value log log' more kept view above pushes =
    let all : List HeldTicket = after_changes log in
    let entry : HeldTicket = record { id = id; ticket = blank } in
    let after : after_changes log' ≡ all ++ entry ∷ [] = after_more log log' (Opened id) more in
    let above' : IsAbove id.0 all = subst (IsAbove id.0) (sym view) above in (
      subst IsAscending (sym after) (rise_push all entry kept.0 above'),
      pushes ∙ ap (λ xs. xs ++ entry ∷ []) kept.1 ∙ sym (open_push all entry refl) ∙ ap open_ones (sym after),
    )

-- ---- a ticket that is looked up and changed, or published whole

-- what isn't held isn't changed
unheld_changed : (id : ℕ) (change : Ticket → Ticket) (xs : List HeldTicket) → is_some (held id xs) ≡ false → changed id change xs ≡ xs
unheld_changed id change [] none = refl
unheld_changed id change (x ∷ xs) none =
    elim (eqb_tells x.id.0 id) [
      | inl h ↦ let some : true ≡ false = rw h.0 at none in absurd (cc)
      | inr h ↦ rw h.0 (ap (λ ys. x ∷ ys) (unheld_changed id change xs (rw h.0 at none)))
    ]

unheld_without : (id : ℕ) (xs : List HeldTicket) → is_some (held id xs) ≡ false → without id xs ≡ xs
unheld_without id [] none = refl
unheld_without id (x ∷ xs) none =
    elim (eqb_tells x.id.0 id) [
      | inl h ↦ let some : true ≡ false = rw h.0 at none in absurd (cc)
      | inr h ↦ rw h.0 (ap (λ ys. x ∷ ys) (unheld_without id xs (rw h.0 at none)))
    ]

-- a change leaves the others
without_changed : (id : ℕ) (change : Ticket → Ticket) (xs : List HeldTicket) → without id (changed id change xs) ≡ without id xs
without_changed id change [] = refl
without_changed id change (x ∷ xs) =
    elim (eqb_tells x.id.0 id) [
      | inl h ↦ rw (h.0, h.0) refl
      | inr h ↦ rw (h.0, h.0) (ap (λ ys. x ∷ ys) (without_changed id change xs))
    ]

held_change : (id : ℕ) (change : Ticket → Ticket) (xs : List HeldTicket) (t : Ticket) → held id (changed id change xs) ≡ Some t → (u : Ticket) × (held id xs ≡ Some u) × (t ≡ change u)
held_change id change [] t e = absurd (cc)
held_change id change (x ∷ xs) t e =
    elim (eqb_tells x.id.0 id) [
      | inl h ↦ let is : Some (change x.ticket) ≡ Some t = rw (h.0, h.0) at e in (x.ticket, rw h.0 refl, cc)
      | inr h ↦ let r = held_change id change xs t (rw (h.0, h.0) at e) in (r.0, rw h.0 r.1, r.2)
    ]

eight_changed : (id : ℕ) (change : Ticket → Ticket) (xs : List HeldTicket) → ((t : Ticket) → length (change t).words ≡ length t.words) → HasEightWords id xs → HasEightWords id (changed id change xs)
eight_changed id change xs same eight t e =
    let r = held_change id change xs t e in
    ap (λ (u : Ticket). length u.words) r.2 ∙ same r.0 ∙ eight r.0 r.1

-- what is kept of the ticket that is being published: it is open, and has its eight words
abbrev pub IsWriting : PacketId → List HeldTicket → List TicketChange → Type 0
IsWriting id ones log = IsKept ones log × (is_some (open_ticket id.0 (after_changes log)) ≡ true) × HasEightWords id.0 ones

held_still : (id : ℕ) (change : Ticket → Ticket) (xs : List HeldTicket) → is_some (held id xs) ≡ true → is_some (held id (changed id change xs)) ≡ true
held_still id change [] has = has
held_still id change (x ∷ xs) has =
    elim (eqb_tells x.id.0 id) [
      | inl h ↦ rw (h.0, h.0) refl
      | inr h ↦ rw (h.0, h.0) (held_still id change xs (rw h.0 at has))
    ]

-- among the open ones a ticket is held just if it is open
has_open : (id : ℕ) (ones : List HeldTicket) (log : List TicketChange) → IsKept ones log → is_some (held id ones) ≡ is_some (open_ticket id (after_changes log))
has_open id ones log kept = ap is_some (found_open id ones (after_changes log) log kept refl)

still_writing : (id : PacketId) (f : Ticket → Ticket) (ones : List HeldTicket) (log log' : List TicketChange) → ((t : Ticket) → length (f t).words ≡ length t.words)
    → IsWriting id ones log → IsKept (changed id.0 f ones) log' → IsWriting id (changed id.0 f ones) log'
still_writing id f ones log log' same w kept = (
  kept,
  sym (has_open id.0 (changed id.0 f ones) log' kept) ∙ held_still id.0 f ones (has_open id.0 ones log w.0 ∙ w.1),
  eight_changed id.0 f ones same w.2,
)

look_writes : (id : PacketId) (r : ℕ) (ones : List HeldTicket) (log : List TicketChange) → IsWriting id ones log → IsWriting id (changed id.0 (seeing r) ones) (log ++ Saw id r ∷ [])
look_writes id r ones log w =
    still_writing id (seeing r) ones log (log ++ Saw id r ∷ []) (λ t. refl) w
    (saw_keeps id r ones (changed id.0 (seeing r) ones) (after_changes log) log (log ++ Saw id r ∷ []) refl w.0 refl w.1 refl)

body_writes : (id : PacketId) (k w : ℕ) (ones : List HeldTicket) (log : List TicketChange) → is_body k ≡ true → IsWriting id ones log → IsWriting id (changed id.0 (writing k w) ones) (log ++ Wrote id k w ∷ [])
body_writes id k w ones log body h =
    still_writing id (writing k w) ones log (log ++ Wrote id k w ∷ []) (λ t. length-set t.words k (Some w)) h
    (wrote_keeps id k w ones (changed id.0 (writing k w) ones) (after_changes log) log (log ++ Wrote id k w ∷ []) body refl h.0 refl h.1 refl)

-- body words, and then the header
body_whole : (id : PacketId) (words : List ℕ) (places : List ℕ) (ones : List HeldTicket) (log : List TicketChange) → list_all is_body places ≡ true → IsWriting id ones log
    → IsKept (without id.0 ones) (log ++ (map (λ k. Wrote id k (slice_index words k)) places ++ Wrote id 0 (slice_index words 0) ∷ []))
body_whole id words [] ones log body h =
    publish_keeps id (slice_index words 0) ones (without id.0 ones) (after_changes log) log (log ++ Wrote id 0 (slice_index words 0) ∷ []) refl h.0 refl h.1 refl h.2
body_whole id words (k ∷ places) ones log body h =
    let b = both (is_body k) (list_all is_body places) body in
    let w : ℕ = slice_index words k in
    let rest : List TicketChange = map (λ j. Wrote id j (slice_index words j)) places ++ Wrote id 0 (slice_index words 0) ∷ [] in
    let more : IsKept (without id.0 (changed id.0 (writing k w) ones)) ((log ++ Wrote id k w ∷ []) ++ rest) =
    body_whole id words places (changed id.0 (writing k w) ones) (log ++ Wrote id k w ∷ []) b.1 (body_writes id k w ones log b.0 h) in
    subst (λ (l : List TicketChange). IsKept (without id.0 ones) l) (append_assoc log (Wrote id k w ∷ []) rest)
    (subst (λ (xs : List HeldTicket). IsKept xs ((log ++ Wrote id k w ∷ []) ++ rest)) (without_changed id.0 (writing k w) ones) more)

whole_keeps : (id : PacketId) (r : ℕ) (words : List ℕ) (ones : List HeldTicket) (log : List TicketChange) → IsWriting id ones log → IsKept (without id.0 ones) (log ++ publication_changes id r words)
whole_keeps id r words ones log h =
    let rest : List TicketChange = map (λ j. Wrote id j (slice_index words j)) body_places ++ Wrote id 0 (slice_index words 0) ∷ [] in
    subst (λ (l : List TicketChange). IsKept (without id.0 ones) l) (append_assoc log (Saw id r ∷ []) rest)
    (subst (λ (xs : List HeldTicket). IsKept xs ((log ++ Saw id r ∷ []) ++ rest)) (without_changed id.0 (seeing r) ones)
    (body_whole id words body_places (changed id.0 (seeing r) ones) (log ++ Saw id r ∷ []) refl (look_writes id r ones log h)))

-- what the code knows: whether the ticket was found, and the open ones after it was changed or taken off
module _ (id : PacketId) (ones value : List HeldTicket) (log : List TicketChange) (found : Bool) (kept : IsKept ones log) (view : after_changes log ≡ value) (finds : found ≡ is_some (held id.0 ones)) where
  pub told_open : found ≡ is_some (open_ticket id.0 value)
  told_open = finds ∙ ap is_some (found_open id.0 ones value log kept view)

  pub look_keeps : (r : ℕ) (ones' : List HeldTicket) (log' : List TicketChange) → found ≡ true → ones' ≡ changed id.0 (seeing r) ones → log' ≡ log ++ Saw id r ∷ [] → IsKept ones' log'
  look_keeps r ones' log' is changes more = saw_keeps id r ones ones' value log log' more kept view (sym told_open ∙ is) changes

  pub look_missed : (r : ℕ) (ones' : List HeldTicket) → found ≡ false → ones' ≡ changed id.0 (seeing r) ones → IsKept ones' log
  look_missed r ones' none changes = subst (λ (xs : List HeldTicket). IsKept xs log) (sym (changes ∙ unheld_changed id.0 (seeing r) ones (sym finds ∙ none))) kept

  pub published_missed : (ones' : List HeldTicket) → found ≡ false → ones' ≡ without id.0 ones → IsKept ones' log
  published_missed ones' none rests = subst (λ (xs : List HeldTicket). IsKept xs log) (sym (rests ∙ unheld_without id.0 ones (sym finds ∙ none))) kept

  pub published_keeps : (r : ℕ) (words : List ℕ) (changes : List TicketChange) (ones' : List HeldTicket) (log' : List TicketChange) → found ≡ true → ones' ≡ without id.0 ones → HasEightWords id.0 ones
      → changes ≡ publication_changes id r words → log' ≡ log ++ changes → IsKept ones' log'
  published_keeps r words changes ones' log' is rests eight are more =
      subst (λ (l : List TicketChange). IsKept ones' l) (sym (more ∙ ap (λ cs. log ++ cs) are))
      (subst (λ (xs : List HeldTicket). IsKept xs (log ++ publication_changes id r words)) (sym rests)
      (whole_keeps id r words ones log (kept, (sym (has_open id.0 ones log kept) ∙ sym finds ∙ is), eight)))

  -- the tickets after some changes
  pub changes_show : (changes log' : List TicketChange) → log' ≡ log ++ changes → after_changes log' ≡ fold after_change value changes
  changes_show changes log' more =
      ap after_changes more ∙ fold-append after_change [] log changes ∙ ap (λ (xs : List HeldTicket). fold after_change xs changes) view
