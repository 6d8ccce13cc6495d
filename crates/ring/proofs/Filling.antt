-- What a producer knows while it fills the slot of a ticket.
use Rattle.std.proofs.Common.{◌≡◌, ◌≢◌, ℕ, zero, suc, ◌+◌, ◌<◌, Bool, true, false, List, [], ◌∷◌, ◌++◌, length, set, refl, ap, ◌∙◌, sym, arith, get_or-set_other}
use Rattle.std.specs.Prelude.{Option, Some, None, is_some, slice_index, ◌&&◌, not}
use Rattle.std.proofs.lemmas.Bool.Decides.{nat_tests}
use Rattle.ring_core.specs.declared.ticket.Ticket.{Ticket}
use Rattle.ring_core.specs.declared.ticket.HeldTicket.{HeldTicket}
use Rattle.ring_core.specs.declared.access.Access.TheVariants.{StoreBody, StoreHeader}
use Rattle.ring_core.specs.declared.access.Made.{Made}
use Rattle.ring_core.specs.declared.part.SeatPart.{SeatPart}
use Rattle.ring_core.specs.declared.part.SeatPart.TheVariants.{Producer}
use Rattle.ring_core.specs.declared.part.ProducerPart.{ProducerPart}
use Rattle.ring_core.specs.Words.{is_body, has_body, is_invalid}
use Rattle.ring_core.specs.Tickets.{held, changed, only_open, open_ticket, is_published, writing, shows_room}
use Rattle.ring_core.specs.Parts.{may_make, after_producing, passes}
use Rattle.ring_core.specs.Machine.{word_place}
use Rattle.ring_core.proofs.Seats.{held_changed_same, held_changed_other}
use Rattle.ring_core.specs.Runs.{after_own}
use Rattle.ring.specs.Made.{WereMade, knowing_all, stored}
use Rattle.ring.specs.inner.Halfway.{body_stored}

-- ---- steps in turn

pub knowing_append : (part : SeatPart) (xs ys : List Made) → knowing_all part (xs ++ ys) ≡ knowing_all (knowing_all part xs) ys
knowing_append part [] ys = refl
knowing_append part (x ∷ xs) ys = knowing_append (after_own part x) xs ys

pub were_append : (size producers number : ℕ) (part : SeatPart) (xs ys : List Made) → WereMade size producers number part xs → WereMade size producers number (knowing_all part xs) ys → WereMade size producers number part (xs ++ ys)
were_append size producers number part [] ys a b = b
were_append size producers number part (x ∷ xs) ys a b = (a.0, were_append size producers number (after_own part x) xs ys a.1 b)

-- ---- tickets

pub open_held : (o : Option Ticket) (t : Ticket) → only_open o ≡ Some t → (o ≡ Some t) × (is_published t ≡ false)
open_held None t e = absurd (cc)
open_held (Some u) t e =
    elim (is_published u) as (λ b. is_published u ≡ b → (Some u ≡ Some t) × (is_published t ≡ false)) [
      | true ↦ λ p. absurd (let f : only_open (Some u) ≡ None = rw p refl in cc)
      | false ↦ λ p. let f : only_open (Some u) ≡ Some u = rw p refl in let g : u ≡ t = cc in (ap Some g, ap is_published (sym g) ∙ p)
    ] refl

pub some_ticket : (o : Option Ticket) → is_some o ≡ true → (t : Ticket) × (o ≡ Some t)
some_ticket None h = absurd (cc)
some_ticket (Some t) h = (t, refl)

still_open : (t : Ticket) → is_published t ≡ false → only_open (Some t) ≡ Some t
still_open t p = rw p refl

pub change_open : (id : ℕ) (change : Ticket → Ticket) (xs : List HeldTicket) (t : Ticket) → open_ticket id xs ≡ Some t → is_published (change t) ≡ is_published t → open_ticket id (changed id change xs) ≡ Some (change t)
change_open id change xs t e same =
    let h = open_held (held id xs) t e in
    ap only_open (held_changed_same id change xs t h.0) ∙ still_open (change t) (same ∙ h.1)

pub change_other : (id j : ℕ) (change : Ticket → Ticket) (xs : List HeldTicket) → j ≢ id → open_ticket j (changed id change xs) ≡ open_ticket j xs
change_other id j change xs ne = ap only_open (held_changed_other id j change xs ne)

body_leaves_header : (t : Ticket) (k w : ℕ) → is_published (writing (suc k) w t) ≡ is_published t
body_leaves_header t k w = ap is_some (get_or-set_other t.words (suc k) 0 (Some w) None (λ e. absurd (omega (arith, e))))

-- ---- the seven body words

abbrev pub filled : List ℕ → Ticket → ℕ → Ticket
filled words t zero = t
filled words t (suc k) = writing (suc k) (slice_index words (suc k)) (filled words t k)

pub filled_saw : (words : List ℕ) (t : Ticket) (k : ℕ) → (filled words t k).saw ≡ t.saw
filled_saw words t zero = refl
filled_saw words t (suc k) = filled_saw words t k

pub record Filled (id : ℕ) (words : List ℕ) (p : ProducerPart) (t : Ticket) (k : ℕ) : Type 0 where
  pub part : ProducerPart
  pub is : knowing_all (Producer p) (body_stored id words k) ≡ Producer part
  pub ticket : open_ticket id part.tickets ≡ Some (filled words t k)
  pub left : part.allowance ≡ p.allowance
  pub others : (j : ℕ) → j ≢ id → open_ticket j part.tickets ≡ open_ticket j p.tickets

pub filling : (id : ℕ) (words : List ℕ) (p : ProducerPart) (t : Ticket) → open_ticket id p.tickets ≡ Some t → (k : ℕ) → Filled id words p t k
filling id words p t opens zero = record { part = p; is = refl; ticket = opens; left = refl; others = λ j ne. refl }
filling id words p t opens (suc k) =
    let h = filling id words p t opens k in
    let w : ℕ = slice_index words (suc k) in
    record {
      part = after_producing h.part (StoreBody (record { 0 = id }) (suc k) w) 0;
      is = knowing_append (Producer p) (body_stored id words k) (stored (StoreBody (record { 0 = id }) (suc k) w) ∷ []) ∙ ap (λ u. after_own u (stored (StoreBody (record { 0 = id }) (suc k) w))) h.is;
      ticket = change_open id (writing (suc k) w) h.part.tickets (filled words t k) h.ticket (body_leaves_header (filled words t k) k w);
      left = h.left;
      others = λ j ne. change_other id j (writing (suc k) w) h.part.tickets ne ∙ h.others j ne;
    }

-- a ticket with a whole body may be published
pub body_whole : (words : List ℕ) (t : Ticket) → length t.words ≡ 8 → has_body (filled words t 7).words ≡ true
body_whole words t n = whole t.words n
  where
    whole : (ws : List (Option ℕ)) → length ws ≡ 8 → has_body (set (set (set (set (set (set (set ws 1 (Some (slice_index words 1))) 2 (Some (slice_index words 2))) 3 (Some (slice_index words 3))) 4 (Some (slice_index words 4))) 5 (Some (slice_index words 5))) 6 (Some (slice_index words 6))) 7 (Some (slice_index words 7))) ≡ true
    whole (a ∷ b ∷ c ∷ d ∷ e ∷ f ∷ g ∷ h ∷ []) n = refl
    whole (a ∷ b ∷ c ∷ d ∷ e ∷ f ∷ g ∷ h ∷ i ∷ xs) n = absurd (omega arith)
    whole [] n = absurd (omega arith)
    whole (a ∷ []) n = absurd (omega arith)
    whole (a ∷ b ∷ []) n = absurd (omega arith)
    whole (a ∷ b ∷ c ∷ []) n = absurd (omega arith)
    whole (a ∷ b ∷ c ∷ d ∷ []) n = absurd (omega arith)
    whole (a ∷ b ∷ c ∷ d ∷ e ∷ []) n = absurd (omega arith)
    whole (a ∷ b ∷ c ∷ d ∷ e ∷ f ∷ []) n = absurd (omega arith)
    whole (a ∷ b ∷ c ∷ d ∷ e ∷ f ∷ g ∷ []) n = absurd (omega arith)

-- what a producer with such a ticket may do
two : (a b : Bool) → a ≡ true → b ≡ true → (a && b) ≡ true
two a b e f = rw (e, f) refl

pub may_store_body : (size id k : ℕ) (w : ℕ) (p : ProducerPart) (t : Ticket) → k < 7 → open_ticket id p.tickets ≡ Some t → shows_room size id t.saw ≡ true → may_make size (Producer p) (StoreBody (record { 0 = id }) (k + 1) w) ≡ true
may_store_body size id k w p t lt opens room =
    let b : is_body (k + 1) ≡ true = grind (arith, nat_tests) in
    two (is_body (k + 1)) (passes (λ u. shows_room size id u.saw) (open_ticket id p.tickets)) b (ap (passes (λ u. shows_room size id u.saw)) opens ∙ room)

pub may_store_header : (size id w : ℕ) (p : ProducerPart) (t : Ticket) → open_ticket id p.tickets ≡ Some t → has_body t.words ≡ true → is_invalid w ≡ false → may_make size (Producer p) (StoreHeader (record { 0 = id }) w) ≡ true
may_store_header size id w p t opens body valid = two (not (is_invalid w)) (passes (λ u. has_body u.words) (open_ticket id p.tickets)) (ap not valid) (ap (passes (λ u. has_body u.words)) opens ∙ body)

-- word k of a slot lies k behind its header
pub place_from : (size id k : ℕ) → word_place size id 0 + k ≡ word_place size id k
unfolding word_place
place_from size id k = omega arith
