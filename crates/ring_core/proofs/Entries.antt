-- Where a ticket stands in a list of tickets, and what a change of it does.
use Rattle.std.proofs.Common.{◌≡◌, ◌≢◌, ℕ, zero, suc, ◌+◌, ◌<◌, ◌≤◌, true, false, List, [], ◌∷◌, length, get_or, set, eqb, refl, ap, ◌∙◌, sym, arith, inl, inr, subst}
use Rattle.std.specs.Prelude.{Some, None}
use Rattle.std.proofs.lemmas.List.{get_or_read, get_or_default}
use Rattle.std.proofs.lemmas.Bool.Decides.{nat_tests, eqb_tells, leb_tells}
use Rattle.ring_core.specs.declared.ticket.Ticket.{Ticket}
use Rattle.ring_core.specs.declared.ticket.HeldTicket.{HeldTicket}
use Rattle.std.specs.List.{remove}
use Rattle.ring_core.specs.Tickets.{held, changed, without, unnamed, HasEightWords, IsPlaceOf, IsAscending}

eqb_same : (a b : ℕ) → a ≡ b → eqb a b ≡ true
eqb_same a b e = grind (arith, nat_tests)

eqb_other : (a b : ℕ) → a ≢ b → eqb a b ≡ false
eqb_other a b e = grind (arith, nat_tests)

-- the first entry under an id is the one that is held and changed
pub held_at : (id : ℕ) (xs : List HeldTicket) (i : ℕ) → i < length xs → (get_or xs i unnamed).id.0 ≡ id → ((k : ℕ) → k < i → (get_or xs k unnamed).id.0 ≢ id) → held id xs ≡ Some (get_or xs i unnamed).ticket
held_at id [] i lt same first = absurd (omega arith)
held_at id (x ∷ xs) zero lt same first = rw (eqb_same x.id.0 id same) refl
held_at id (x ∷ xs) (suc i) lt same first =
    rw (eqb_other x.id.0 id (first 0 (omega arith))) (held_at id xs i (omega arith) same (λ k h. first (suc k) (omega arith)))

pub changed_at : (id : ℕ) (change : Ticket → Ticket) (xs : List HeldTicket) (i : ℕ) → i < length xs → (get_or xs i unnamed).id.0 ≡ id → ((k : ℕ) → k < i → (get_or xs k unnamed).id.0 ≢ id) → changed id change xs ≡ set xs i (record { id = (get_or xs i unnamed).id; ticket = change (get_or xs i unnamed).ticket })
changed_at id change [] i lt same first = absurd (omega arith)
changed_at id change (x ∷ xs) zero lt same first = rw (eqb_same x.id.0 id same) refl
changed_at id change (x ∷ xs) (suc i) lt same first =
    rw (eqb_other x.id.0 id (first 0 (omega arith))) (ap (λ ys. x ∷ ys) (changed_at id change xs i (omega arith) same (λ k h. first (suc k) (omega arith))))

-- where there is none, nothing is held or changed
pub held_none : (id : ℕ) (xs : List HeldTicket) → ((k : ℕ) → k < length xs → (get_or xs k unnamed).id.0 ≢ id) → held id xs ≡ None
held_none id [] other = refl
held_none id (x ∷ xs) other = rw (eqb_other x.id.0 id (other 0 (omega arith))) (held_none id xs (λ k h. other (suc k) (omega arith)))

pub changed_none : (id : ℕ) (change : Ticket → Ticket) (xs : List HeldTicket) → ((k : ℕ) → k < length xs → (get_or xs k unnamed).id.0 ≢ id) → changed id change xs ≡ xs
changed_none id change [] other = refl
changed_none id change (x ∷ xs) other = rw (eqb_other x.id.0 id (other 0 (omega arith))) (ap (λ ys. x ∷ ys) (changed_none id change xs (λ k h. other (suc k) (omega arith))))

-- the same, as a search of the list and a read at the place that it found tell it
pub held_read : (id : ℕ) (slice items value : List HeldTicket) (i : ℕ) (x : HeldTicket) → slice ≡ items → items ≡ value → IsPlaceOf id slice (Some i) → x ≡ get_or items i x → Some x.ticket ≡ held id value
held_read id slice items value i x e f place read =
    let lt : i < length slice = place.0 in
    let r : x ≡ get_or slice i x = rw e read in
    let s : get_or slice i unnamed ≡ x = sym (get_or_read slice i x lt r unnamed) in
    let h : held id slice ≡ Some (get_or slice i unnamed).ticket = held_at id slice i place.0 place.1 place.2 in
    cc

pub held_missed : (id : ℕ) (slice items value : List HeldTicket) → slice ≡ items → items ≡ value → IsPlaceOf id slice None → held id value ≡ None
held_missed id slice items value e f place =
    let h : held id slice ≡ None = held_none id slice place in cc

pub changed_read : (id : ℕ) (change : Ticket → Ticket) (slice items value : List HeldTicket) (i : ℕ) (x : HeldTicket) → slice ≡ items → items ≡ value → IsPlaceOf id slice (Some i) → x ≡ get_or items i x → set items i (record { id = x.id; ticket = change x.ticket }) ≡ changed id change value
changed_read id change slice items value i x e f place read =
    let lt : i < length slice = place.0 in
    let r : x ≡ get_or slice i x = rw e read in
    let s : get_or slice i unnamed ≡ x = sym (get_or_read slice i x lt r unnamed) in
    let h : changed id change slice ≡ set slice i (record { id = (get_or slice i unnamed).id; ticket = change (get_or slice i unnamed).ticket }) = changed_at id change slice i place.0 place.1 place.2 in
    cc

pub changed_missed : (id : ℕ) (change : Ticket → Ticket) (slice items value : List HeldTicket) → slice ≡ items → items ≡ value → IsPlaceOf id slice None → value ≡ changed id change value
changed_missed id change slice items value e f place =
    let h : changed id change slice ≡ slice = changed_none id change slice place in cc

-- ---- ids that rise

-- what is known at one place of a list whose ids rise holds below it, or above it
pub rise_below : (xs : List HeldTicket) (m id : ℕ) (d : HeldTicket) → IsAscending xs → m < length xs → (get_or xs m d).id.0 < id → (k : ℕ) → k < m + 1 → (get_or xs k unnamed).id.0 < id
rise_below xs m id d rise lt less k near =
    let e : (get_or xs m d).id.0 ≡ (get_or xs m unnamed).id.0 = ap (λ r. r.id.0) (get_or_default xs m d unnamed lt) in
    elim (eqb_tells k m) [
      | inl h ↦ subst (λ (i : ℕ). (get_or xs i unnamed).id.0 < id) (sym h.1) (omega (arith, e, less))
      | inr h ↦ let b : (get_or xs k unnamed).id.0 < (get_or xs m unnamed).id.0 = rise k m (omega (arith, h.1)) lt in omega (arith, b, e, less)
    ]

pub rise_above : (xs : List HeldTicket) (m id : ℕ) (d : HeldTicket) → IsAscending xs → m < length xs → id ≤ (get_or xs m d).id.0 → (k : ℕ) → m ≤ k → k < length xs → id ≤ (get_or xs k unnamed).id.0
rise_above xs m id d rise lt less k near inside =
    let e : (get_or xs m d).id.0 ≡ (get_or xs m unnamed).id.0 = ap (λ r. r.id.0) (get_or_default xs m d unnamed lt) in
    elim (eqb_tells k m) [
      | inl h ↦ subst (λ (i : ℕ). id ≤ (get_or xs i unnamed).id.0) (sym h.1) (omega (arith, e, less))
      | inr h ↦ let b : (get_or xs m unnamed).id.0 < (get_or xs k unnamed).id.0 = rise m k (omega (arith, h.1)) inside in omega (arith, b, e, less)
    ]

-- an id that isn't where it would stand is nowhere
pub rise_missed : (xs : List HeldTicket) (low id : ℕ) (d : HeldTicket) → IsAscending xs → ((k : ℕ) → k < low → (get_or xs k unnamed).id.0 < id) → ((k : ℕ) → low ≤ k → k < length xs → id ≤ (get_or xs k unnamed).id.0) → (low < length xs → (get_or xs low d).id.0 ≢ id) → (k : ℕ) → k < length xs → (get_or xs k unnamed).id.0 ≢ id
rise_missed xs low id d rise below above missed k inside same =
    elim (leb_tells low k) [
      | inr h ↦ let b : (get_or xs k unnamed).id.0 < id = below k h.1 in omega (arith, b, same)
      | inl h ↦
          let lt : low < length xs = omega (arith, h.1) in
          let e : (get_or xs low d).id.0 ≡ (get_or xs low unnamed).id.0 = ap (λ r. r.id.0) (get_or_default xs low d unnamed lt) in
          let a : id ≤ (get_or xs low unnamed).id.0 = above low (omega arith) lt in
          let ne : (get_or xs low d).id.0 ≢ id = missed lt in
          elim (eqb_tells k low) [
            | inl g ↦ let f : (get_or xs low unnamed).id.0 ≡ id = subst (λ (i : ℕ). (get_or xs i unnamed).id.0 ≡ id) g.1 same in ne (e ∙ f)
            | inr g ↦ let b : (get_or xs low unnamed).id.0 < (get_or xs k unnamed).id.0 = rise low k (omega (arith, h.1, g.1)) inside in omega (arith, a, b, same)
          ]
    ]

-- ---- the entry under an id, taken off

without_at : (id : ℕ) (xs : List HeldTicket) (i : ℕ) → i < length xs → (get_or xs i unnamed).id.0 ≡ id → ((k : ℕ) → k < i → (get_or xs k unnamed).id.0 ≢ id) → without id xs ≡ remove xs i
without_at id [] i lt same first = absurd (omega arith)
without_at id (x ∷ xs) zero lt same first = rw (eqb_same x.id.0 id same) refl
without_at id (x ∷ xs) (suc i) lt same first =
    rw (eqb_other x.id.0 id (first 0 (omega arith))) (ap (λ ys. x ∷ ys) (without_at id xs i (omega arith) same (λ k h. first (suc k) (omega arith))))

without_none : (id : ℕ) (xs : List HeldTicket) → ((k : ℕ) → k < length xs → (get_or xs k unnamed).id.0 ≢ id) → without id xs ≡ xs
without_none id [] other = refl
without_none id (x ∷ xs) other = rw (eqb_other x.id.0 id (other 0 (omega arith))) (ap (λ ys. x ∷ ys) (without_none id xs (λ k h. other (suc k) (omega arith))))

pub without_read : (id : ℕ) (slice items rest : List HeldTicket) (i : ℕ) → slice ≡ items → IsPlaceOf id slice (Some i) → rest ≡ remove items i → rest ≡ without id items
without_read id slice items rest i e place rests =
    let h : without id slice ≡ remove slice i = without_at id slice i place.0 place.1 place.2 in
    cc

pub without_missed : (id : ℕ) (slice items : List HeldTicket) → slice ≡ items → IsPlaceOf id slice None → items ≡ without id items
without_missed id slice items e place =
    let h : without id slice ≡ slice = without_none id slice place in
    cc

pub eight_read : (id : ℕ) (slice items : List HeldTicket) (i : ℕ) (x : HeldTicket) → slice ≡ items → IsPlaceOf id slice (Some i) → x ≡ get_or items i x → length x.ticket.words ≡ 8 → HasEightWords id items
eight_read id slice items i x e place read eight ticket is =
    let h : Some x.ticket ≡ held id items = held_read id slice items items i x e refl place read in
    let same : x.ticket ≡ ticket = cc in
    ap (λ (t : Ticket). length t.words) (sym same) ∙ eight

pub eight_missed : (id : ℕ) (slice items : List HeldTicket) → slice ≡ items → IsPlaceOf id slice None → HasEightWords id items
eight_missed id slice items e place ticket is =
    let h : held id items ≡ None = held_missed id slice items items e refl place in
    absurd (cc)

pub held_here : (id : ℕ) (xs : List HeldTicket) (i : ℕ) (d : HeldTicket) → IsPlaceOf id xs (Some i) → Some (get_or xs i d).ticket ≡ held id xs
held_here id xs i d place = held_read id xs xs xs i (get_or xs i d) refl refl place (get_or_default xs i d (get_or xs i d) place.0)
