-- Steps of one seat in turn: those that its part may make, over the words that they find.
use Rattle.std.proofs.Common.{◌≡◌, ◌≢◌, ℕ, zero, suc, ◌+◌, ◌<◌, ◌≤◌, ◌^◌, Bool, true, false, List, [], ◌∷◌, ◌++◌, length, map, get_or, set, refl, ap, ◌∙◌, sym, subst, arith, cond, length-set, get_or-set_same, get_or-set_other}
use Rattle.std.specs.Prelude.{⊤, Option, Some, None, is_some, not, nat_lt, ◌&&◌, unwrap_or, slice_index, if◌then◌else◌}
use Rattle.std.specs.List.{fold, list_all}
use Rattle.std.proofs.lemmas.List.{get_or_read}
use Rattle.ring_core.specs.declared.access.Access.{Access}
use Rattle.ring_core.specs.declared.access.Access.TheVariants.{LoadReadIndex, StoreBody, StoreHeader, LoadHeader, LoadBody, ClearHeader, RaiseReadIndex}
use Rattle.ring_core.specs.declared.access.Made.{Made}
use Rattle.ring_core.specs.declared.access.Seen.TheVariants.{Read}
use Rattle.ring_core.specs.declared.part.SeatPart.{SeatPart}
use Rattle.ring_core.specs.declared.part.SeatPart.TheVariants.{Producer, Processor}
use Rattle.ring_core.specs.declared.part.ProducerPart.{ProducerPart}
use Rattle.ring_core.specs.declared.part.ProcessorPart.{ProcessorPart}
use Rattle.ring_core.specs.declared.ticket.Ticket.{Ticket}
use Rattle.ring_core.specs.declared.ticket.HeldTicket.{HeldTicket}
use Rattle.ring_core.specs.Words.{word, is_body, has_body, is_invalid}
use Rattle.ring_core.specs.Tickets.{blank, seeing, writing, is_published, shows_room, has_room, held, open_ticket, only_open, changed}
use Rattle.ring_core.specs.Parts.{after_processing, after_producing, may_make, part_after, nobody, seen_by, passes}
use Rattle.ring_core.specs.Machine.{Machine, producers_of, place_of, word_after, word_place, is_allowed, made}
use Rattle.ring_core.specs.Rule.{AreSeats, IsRing, all_tickets, processor_of, tickets_of, times, ticket_of}
use Rattle.ring_core.specs.Runs.{after_own, word_read}
use Rattle.ring_core.specs.Calls.{body_places, made_of, publication, showing, retiring}
use Rattle.ring_core.specs.InTurn.{MadeInTurn, step_by, publishing, stored_if, look_if, collecting}
use Rattle.ring_core.specs.inner.Together.{after_all, packet_in, packet_put}
use Rattle.ring_core.proofs.Own.{after_seen}
use Rattle.ring_core.proofs.Kept.{both, open_held, some_ticket}
use Rattle.ring_core.proofs.Places.{low_kept}
use Rattle.ring_core.proofs.Tied.{body_place}
use Rattle.ring_core.proofs.Seats.{seat_held, held_changed_same}
use Rattle.ring_core.proofs.States.{fits_by, raises, ring_steps}
use Rattle.ring_core.proofs.Gathering.{eight}

abbrev pub M : ℕ → List ℕ → List SeatPart → Machine
M size words parts = record { size = size; words = words; parts = parts }

-- a part may make each of these accesses, in turn
abbrev pub MayEach : ℕ → SeatPart → List Made → Type 0
MayEach size part [] = ⊤
MayEach size part (one ∷ more) = (may_make size part one.access ≡ true) × MayEach size (after_own part one) more

-- the words of a ring after an access, wherever it goes
abbrev pub words_after : ℕ → List ℕ → Access → List ℕ
words_after size words access =
    set words (place_of size (get_or words 1 0) access) (word_after access (get_or words (place_of size (get_or words 1 0) access) 0))

-- each of these accesses reads what it says, in turn, and together they leave these words
abbrev pub FindEach : ℕ → List ℕ → List Made → List ℕ → Type 0
FindEach size words [] last = last ≡ words
FindEach size words (one ∷ more) last =
    (one.seen ≡ seen_by one.access (get_or words (place_of size (get_or words 1 0) one.access) 0)) × FindEach size (words_after size words one.access) more last

-- ---- lists

pub set_twice : {X : Type 0} (xs : List X) (i : ℕ) (a b : X) → set (set xs i a) i b ≡ set xs i b
set_twice [] i a b = refl
set_twice (x ∷ xs) zero a b = refl
set_twice (x ∷ xs) (suc i) a b = ap (λ ys. x ∷ ys) (set_twice xs i a b)

set_read : {X : Type 0} (xs : List X) (i : ℕ) (d : X) → set xs i (get_or xs i d) ≡ xs
set_read [] i d = refl
set_read (x ∷ xs) zero d = refl
set_read (x ∷ xs) (suc i) d = ap (λ ys. x ∷ ys) (set_read xs i d)

-- ---- the steps

-- what a part may do and what words tell is what the machine's steps are
pub in_turn : (size : ℕ) (words last : List ℕ) (parts : List SeatPart) (seat : ℕ) (mades : List Made) → seat < length parts → MayEach size (get_or parts seat nobody) mades → FindEach size words mades last
    → MadeInTurn (M size words parts) seat mades (M size last (set parts seat (fold after_own (get_or parts seat nobody) mades)))
in_turn size words last parts seat [] lt may finds = λ i. M size (finds i) (set_read parts seat nobody i)
in_turn size words last parts seat (one ∷ more) lt may finds =
    let part : SeatPart = get_or parts seat nobody in
    let old : ℕ = get_or words (place_of size (get_or words 1 0) one.access) 0 in
    let parts1 : List SeatPart = set parts seat (part_after part one.access old) in
    let own : after_own part one ≡ part_after part one.access old = ap (λ s. part_after part one.access (word_read s)) finds.0 ∙ after_seen part one.access old in
    let here : get_or parts1 seat nobody ≡ after_own part one = get_or-set_same parts seat (part_after part one.access old) nobody lt ∙ sym own in
    let lt1 : seat < length parts1 = omega (arith, lt, length-set parts seat (part_after part one.access old)) in
    let may1 : MayEach size (get_or parts1 seat nobody) more = subst (λ (p : SeatPart). MayEach size p more) (sym here) may.1 in
    let rest : MadeInTurn (M size (words_after size words one.access) parts1) seat more (M size last (set parts1 seat (fold after_own (get_or parts1 seat nobody) more))) =
    in_turn size (words_after size words one.access) last parts1 seat more lt1 may1 finds.1 in
    let ends : set parts1 seat (fold after_own (get_or parts1 seat nobody) more) ≡ set parts seat (fold after_own (after_own part one) more) =
    set_twice parts seat (part_after part one.access old) (fold after_own (get_or parts1 seat nobody) more) ∙ ap (λ (p : SeatPart). set parts seat (fold after_own p more)) here in (
      record { allowed = may.0; told = finds.0; leads = refl },
      subst (λ (ps : List SeatPart). MadeInTurn (M size (words_after size words one.access) parts1) seat more (M size last ps)) ends rest,
    )

-- they keep what is kept of a ring state
pub turn_keeps : (machine : Machine) (seat : ℕ) (mades : List Made) (last : Machine) → IsRing machine → MadeInTurn machine seat mades last → IsRing last
turn_keeps machine seat [] last h turn = subst (λ (m : Machine). IsRing m) (sym turn) h
turn_keeps machine seat (one ∷ more) last h turn =
    turn_keeps (made machine (step_by seat one.access)) seat more last (ring_steps machine (step_by seat one.access) h turn.0.allowed) turn.1

-- ---- what a producer may do with its ticket

-- a ticket that stays stands
stays_open : (id : ℕ) (change : Ticket → Ticket) (tickets : List HeldTicket) (t : Ticket) → open_ticket id tickets ≡ Some t → is_published (change t) ≡ is_published t
    → open_ticket id (changed id change tickets) ≡ Some (change t)
stays_open id change tickets t stands same =
    let h = open_held (held id tickets) t stands in
    let still : is_published (change t) ≡ false = same ∙ h.1 in
    ap only_open (held_changed_same id change tickets t h.0) ∙ ap (λ (b : Bool). if b then None else Some (change t)) still

-- the words of a ticket with some of a packet's written
abbrev with_written : List (Option ℕ) → List ℕ → List ℕ → List (Option ℕ)
with_written written words places = fold (λ (all : List (Option ℕ)) (k : ℕ). set all k (Some (slice_index words k))) written places

-- the stores of body words, whatever the word was before, and what a part knows after them
abbrev body_stores : ℕ → ℕ → List ℕ → List ℕ → List Made
body_stores id seen words places = map (λ k. made_of (StoreBody (record { 0 = id }) k (slice_index words k)) seen) places

body_high : (k : ℕ) → is_body k ≡ true → 0 ≢ k
body_high zero body = absurd (cc)
body_high (suc k) body = λ e. absurd (cc)

-- the stores of a body and of the header may be made, where the ticket saw room
body_may : (size id seen : ℕ) (words : List ℕ) (places : List ℕ) (p : ProducerPart) (t : Ticket) → list_all is_body places ≡ true → open_ticket id p.tickets ≡ Some t → shows_room size id t.saw ≡ true
    → is_invalid (slice_index words 0) ≡ false → has_body (with_written t.words words places) ≡ true
    → MayEach size (Producer p) (body_stores id seen words places ++ made_of (StoreHeader (record { 0 = id }) (slice_index words 0)) seen ∷ [])
body_may size id seen words [] p t body stands room valid whole =
    let may : may_make size (Producer p) (StoreHeader (record { 0 = id }) (slice_index words 0)) ≡ true =
    ap (λ (b : Bool). not b && passes (λ u. has_body u.words) (open_ticket id p.tickets)) valid ∙ ap (passes (λ u. has_body u.words)) stands ∙ whole in
    (may, tt)
body_may size id seen words (k ∷ places) p t body stands room valid whole =
    let b = both (is_body k) (list_all is_body places) body in
    let w : ℕ = slice_index words k in
    let may : may_make size (Producer p) (StoreBody (record { 0 = id }) k w) ≡ true =
    ap (λ (b : Bool). b && passes (λ u. shows_room size id u.saw) (open_ticket id p.tickets)) b.0 ∙ ap (passes (λ u. shows_room size id u.saw)) stands ∙ room in
    let same : is_published (writing k w t) ≡ is_published t = ap is_some (get_or-set_other t.words k 0 (Some w) None (body_high k b.0)) in
    let stands1 : open_ticket id (changed id (writing k w) p.tickets) ≡ Some (writing k w t) = stays_open id (writing k w) p.tickets t stands same in
    (may, body_may size id seen words places _ (writing k w t) b.1 stands1 room valid whole)

publication_may : (size id seen : ℕ) (words : List ℕ) (p : ProducerPart) (t : Ticket) → open_ticket id p.tickets ≡ Some t → length t.words ≡ 8 → has_room size id seen ≡ true → is_invalid (slice_index words 0) ≡ false
    → MayEach size (Producer p) (publication id seen words)
publication_may size id seen words p t stands n room valid =
    let may : may_make size (Producer p) (LoadReadIndex (record { 0 = id })) ≡ true = ap is_some stands in
    let stands1 : open_ticket id (changed id (seeing seen) p.tickets) ≡ Some (seeing seen t) = stays_open id (seeing seen) p.tickets t stands refl in
    let whole : has_body (with_written t.words words body_places) ≡ true =
    subst (λ (ws : List (Option ℕ)). has_body (with_written ws words body_places) ≡ true) (sym (eight None t.words n)) refl in
    (may, body_may size id seen words body_places (after_producing p (LoadReadIndex (record { 0 = id })) seen) (seeing seen t) refl stands1 room valid whole)

-- a ticket of a seat has eight words
own_eight : (size : ℕ) (words : List ℕ) (parts : List SeatPart) (seat id : ℕ) (p : ProducerPart) (t : Ticket) → IsRing (M size words parts) → get_or parts seat nobody ≡ Producer p → open_ticket id p.tickets ≡ Some t → length t.words ≡ 8
own_eight size words parts seat id p t h here stands =
    let mine : held id (tickets_of (get_or parts seat nobody)) ≡ Some t = ap (λ (u : SeatPart). held id (tickets_of u)) here ∙ (open_held (held id p.tickets) t stands).0 in
    let few : times id (all_tickets parts) ≤ 1 = at_most (nat_lt id (get_or words 0 0)) (times id (all_tickets parts)) (h.rule.shared.named id) in
    let is : ticket_of parts id ≡ t = ap (λ o. unwrap_or o blank) (seat_held id parts seat t few mine) in
    ap (λ (u : Ticket). length u.words) (sym is) ∙ h.rule.tied.eight id
  where
    at_most : (b : Bool) (n : ℕ) → n ≡ cond {A = ℕ} b 1 0 → n ≤ 1
    at_most true n e = omega (arith, e)
    at_most false n e = omega (arith, e)

-- a seat that may look for room may make what a publication makes
pub publishing_may : (size : ℕ) (words : List ℕ) (parts : List SeatPart) (seat id seen : ℕ) (packet : List ℕ) → IsRing (M size words parts) → is_invalid (slice_index packet 0) ≡ false
    → may_make size (get_or parts seat nobody) (LoadReadIndex (record { 0 = id })) ≡ true → MayEach size (get_or parts seat nobody) (publishing size id seen packet)
publishing_may size words parts seat id seen packet h valid may = by_part (get_or parts seat nobody) refl may
  where
    by_part : (part : SeatPart) → get_or parts seat nobody ≡ part → may_make size part (LoadReadIndex (record { 0 = id })) ≡ true → MayEach size part (publishing size id seen packet)
    by_part (Processor q) here may = absurd (cc)
    by_part (Producer p) here may =
        let stands = some_ticket (open_ticket id p.tickets) may in
        by_room (has_room size id seen) refl (own_eight size words parts seat id p stands.0 h here stands.1)
      where
        by_room : (b : Bool) → has_room size id seen ≡ b → length (some_ticket (open_ticket id p.tickets) may).0.words ≡ 8
            → MayEach size (Producer p) (if b then publication id seen packet else made_of (LoadReadIndex (record { 0 = id })) seen ∷ [])
        by_room true room n = let stands = some_ticket (open_ticket id p.tickets) may in publication_may size id seen packet p stands.0 stands.1 n room valid
        by_room false room n = (may, tt)

-- ---- what the processor may do

known_first : (collected : List (Option ℕ)) (w : ℕ) → length collected ≡ 8 → is_some (word (set collected 0 (Some w)) 0) ≡ true
known_first collected w n = ap is_some (get_or-set_same collected 0 (Some w) None (omega (arith, n)))

-- once the header is known, the body may be read
loads_may : (size : ℕ) (words places : List ℕ) (q : ProcessorPart) → list_all is_body places ≡ true → is_some (word q.collected 0) ≡ true
    → MayEach size (Processor q) (map (λ k. made_of (LoadBody k) (slice_index words k)) places)
loads_may size words [] q body known = tt
loads_may size words (k ∷ places) q body known =
    let b = both (is_body k) (list_all is_body places) body in
    let may : may_make size (Processor q) (LoadBody k) ≡ true = ap (λ (b : Bool). b && is_some (word q.collected 0)) b.0 ∙ known in
    let still : is_some (word (set q.collected k (Some (slice_index words k))) 0) ≡ true = ap is_some (get_or-set_other q.collected k 0 (Some (slice_index words k)) None (body_high k b.0)) ∙ known in
    (may, loads_may size words places _ b.1 still)

collecting_of : (size : ℕ) (words : List ℕ) (q : ProcessorPart) → length q.collected ≡ 8 → may_make size (Processor q) LoadHeader ≡ true → (b : Bool) → is_invalid (slice_index words 0) ≡ b
    → MayEach size (Processor q) (if b then made_of LoadHeader (slice_index words 0) ∷ [] else showing words)
collecting_of size words q n may true invalid = (may, tt)
collecting_of size words q n may false valid =
    let known : is_some (word (if is_invalid (slice_index words 0) then q.collected else set q.collected 0 (Some (slice_index words 0))) 0) ≡ true =
    ap (λ (b : Bool). is_some (word (if b then q.collected else set q.collected 0 (Some (slice_index words 0))) 0)) valid ∙ known_first q.collected (slice_index words 0) n in
    (may, loads_may size words body_places (after_processing q LoadHeader (slice_index words 0)) refl known)

pub collecting_may : (size : ℕ) (words : List ℕ) (part : SeatPart) → (may_make size part LoadHeader ≡ true) → ((q : ProcessorPart) → part ≡ Processor q → length q.collected ≡ 8) → MayEach size part (collecting words)
collecting_may size words (Producer p) may n = absurd (cc)
collecting_may size words (Processor q) may n = collecting_of size words q (n q refl) may (is_invalid (slice_index words 0)) refl

-- a header that may be cleared is cleared, and then the read index raised
pub retiring_may : (size index : ℕ) (part : SeatPart) → may_make size part ClearHeader ≡ true → MayEach size part (retiring index)
retiring_may size index (Producer p) may = absurd (cc)
retiring_may size index (Processor q) may = (may, (refl, tt))

-- ---- what is found

-- the look finds the read index, and the stores leave the packet in its slot
stores_find : (size id seen : ℕ) (packet : List ℕ) (words : List ℕ) (places : List ℕ) →
    FindEach size words (body_stores id seen packet places ++ made_of (StoreHeader (record { 0 = id }) (slice_index packet 0)) seen ∷ [])
    (set (fold (λ (ws : List ℕ) (k : ℕ). set ws (word_place size id k) (slice_index packet k)) words places) (word_place size id 0) (slice_index packet 0))
stores_find size id seen packet words [] = (refl, refl)
stores_find size id seen packet words (k ∷ places) = (refl, stores_find size id seen packet (set words (word_place size id k) (slice_index packet k)) places)

place_from : (size id k : ℕ) → word_place size id 0 + k ≡ word_place size id k
unfolding word_place
place_from size id k = omega arith

put_from : (size id : ℕ) (packet words places : List ℕ) →
    fold (λ (ws : List ℕ) (k : ℕ). set ws (word_place size id 0 + k) (slice_index packet k)) words places
    ≡ fold (λ (ws : List ℕ) (k : ℕ). set ws (word_place size id k) (slice_index packet k)) words places
put_from size id packet words places =
    ap (λ (f : ℕ → ℕ). fold (λ (ws : List ℕ) (k : ℕ). set ws (f k) (slice_index packet k)) words places) (λ i k. place_from size id k i)

publication_finds : (size id : ℕ) (packet words : List ℕ) → FindEach size words (publication id (get_or words 1 0) packet) (packet_put words (word_place size id 0) packet)
publication_finds size id packet words = (
  refl,
  subst (λ (ws : List ℕ). FindEach size ws (body_stores id (get_or words 1 0) packet body_places ++ made_of (StoreHeader (record { 0 = id }) (slice_index packet 0)) (get_or words 1 0) ∷ []) (packet_put words (word_place size id 0) packet))
      (sym (set_read words 1 0))
      (subst (λ (ws : List ℕ). FindEach size words (body_stores id (get_or words 1 0) packet body_places ++ made_of (StoreHeader (record { 0 = id }) (slice_index packet 0)) (get_or words 1 0) ∷ []) (set ws (word_place size id 0) (slice_index packet 0)))
      (sym (put_from size id packet words body_places)) (stores_find size id (get_or words 1 0) packet words body_places)),
)

pub publishing_finds : (size id : ℕ) (packet words : List ℕ) (b : Bool) → FindEach size words
    (if b then publication id (get_or words 1 0) packet else made_of (LoadReadIndex (record { 0 = id })) (get_or words 1 0) ∷ [])
    (if b then packet_put words (word_place size id 0) packet else words)
publishing_finds size id packet words true = publication_finds size id packet words
publishing_finds size id packet words false = (refl, sym (set_read words 1 0))

-- the packet in a slot, word by word
in_place : (size : ℕ) (words : List ℕ) (r k : ℕ) → is_body k ≡ true → slice_index (packet_in words (word_place size r 0)) k ≡ get_or words (word_place size r k) 0
in_place size words r zero body = absurd (cc)
in_place size words r (suc zero) body = ap (λ i. get_or words i 0) (place_from size r 1)
in_place size words r (suc (suc zero)) body = ap (λ i. get_or words i 0) (place_from size r 2)
in_place size words r (suc (suc (suc zero))) body = ap (λ i. get_or words i 0) (place_from size r 3)
in_place size words r (suc (suc (suc (suc zero)))) body = ap (λ i. get_or words i 0) (place_from size r 4)
in_place size words r (suc (suc (suc (suc (suc zero))))) body = ap (λ i. get_or words i 0) (place_from size r 5)
in_place size words r (suc (suc (suc (suc (suc (suc zero)))))) body = ap (λ i. get_or words i 0) (place_from size r 6)
in_place size words r (suc (suc (suc (suc (suc (suc (suc zero))))))) body = ap (λ i. get_or words i 0) (place_from size r 7)
in_place size words r (suc (suc (suc (suc (suc (suc (suc (suc k)))))))) body = let b = body_place (suc (suc (suc (suc (suc (suc (suc (suc k)))))))) body in absurd (omega (arith, b.1))

-- loads leave the words, and read those of the packet in the slot
loads_find : (size : ℕ) (words : List ℕ) (places : List ℕ) → list_all is_body places ≡ true →
    FindEach size words (map (λ k. made_of (LoadBody k) (slice_index (packet_in words (word_place size (get_or words 1 0) 0)) k)) places) words
loads_find size words [] body = refl
loads_find size words (k ∷ places) body =
    let r : ℕ = get_or words 1 0 in
    let b = both (is_body k) (list_all is_body places) body in (
      ap (λ w. seen_by (LoadBody k) w) (in_place size words r k b.0),
      subst (λ (ws : List ℕ). FindEach size ws (map (λ j. made_of (LoadBody j) (slice_index (packet_in words (word_place size r 0)) j)) places) words) (sym (set_read words (word_place size r k) 0))
          (loads_find size words places b.1),
    )

showing_finds : (size : ℕ) (words : List ℕ) → FindEach size words (showing (packet_in words (word_place size (get_or words 1 0) 0))) words
showing_finds size words =
    let r : ℕ = get_or words 1 0 in (
      refl,
      subst (λ (ws : List ℕ). FindEach size ws (map (λ j. made_of (LoadBody j) (slice_index (packet_in words (word_place size r 0)) j)) body_places) words) (sym (set_read words (word_place size r 0) 0))
          (loads_find size words body_places refl),
    )

pub collecting_finds : (size : ℕ) (words : List ℕ) (b : Bool) → FindEach size words
    (if b then made_of LoadHeader (slice_index (packet_in words (word_place size (get_or words 1 0) 0)) 0) ∷ [] else showing (packet_in words (word_place size (get_or words 1 0) 0))) words
collecting_finds size words true = (refl, sym (set_read words (word_place size (get_or words 1 0) 0) 0))
collecting_finds size words false = showing_finds size words

-- the header is cleared, which leaves the read index as it was
pub retiring_finds : (size : ℕ) (words : List ℕ) → FindEach size words (retiring (get_or words 1 0)) (set (set words (word_place size (get_or words 1 0) 0) 1) 1 (get_or words 1 0 + 1))
retiring_finds size words =
    let r : ℕ = get_or words 1 0 in
    let kept : get_or (set words (word_place size r 0) 1) 1 0 ≡ r = low_kept words size r 0 1 1 (omega arith) in
    (refl, (ap (λ w. seen_by RaiseReadIndex w) (sym kept), ap (λ w. set (set words (word_place size r 0) 1) 1 (w + 1)) (sym kept)))

-- ---- what the code of a call knows of the fields that it reads

pub slot_within : (size : ℕ) (words : List ℕ) (parts : List SeatPart) (id : ℕ) → IsRing (M size words parts) → word_place size id 0 + 8 ≤ length words
unfolding word_place
slot_within size words parts id h = let n = h.rule.words in let some = h.rule.slots in omega (arith, n, some)

-- `part` is the part at a seat, `makes` whether it may make the first access
module _ (size : ℕ) (words : List ℕ) (parts : List SeatPart) (value : Machine) (seat : ℕ) (part : SeatPart) (makes : Bool) (access : Access)
    (view : M size words parts ≡ value) (h : IsRing (M size words parts)) (lt : seat < length parts) (has : part ≡ get_or parts seat part) (may : makes ≡ may_make size part access) where
  here : part ≡ get_or parts seat nobody
  here = get_or_read parts seat part lt has nobody

  pub may_here : makes ≡ true → may_make size (get_or parts seat nobody) access ≡ true
  may_here is = ap (λ (p : SeatPart). may_make size p access) (sym here) ∙ sym may ∙ is

  -- it makes them all
  pub together : (mades : List Made) (last : List ℕ) (part' : SeatPart) → MayEach size (get_or parts seat nobody) mades → FindEach size words mades last → part' ≡ fold after_own part mades
      → MadeInTurn value seat mades (M size last (set parts seat part'))
  together mades last part' each finds noted =
      let all : MadeInTurn (M size words parts) seat mades (M size last (set parts seat (fold after_own (get_or parts seat nobody) mades))) = in_turn size words last parts seat mades lt each finds in
      subst (λ (m : Machine). MadeInTurn m seat mades (M size last (set parts seat part'))) view
      (subst (λ (p : SeatPart). MadeInTurn (M size words parts) seat mades (M size last (set parts seat p))) (sym (noted ∙ ap (λ (p : SeatPart). fold after_own p mades) here)) all)

pub read_is : (size : ℕ) (words : List ℕ) (parts : List SeatPart) (r : ℕ) → IsRing (M size words parts) → r ≡ get_or words 1 r → r ≡ get_or words 1 0
read_is size words parts r h reads =
    let n = h.rule.words in
    let some = h.rule.slots in
    get_or_read words 1 r (omega (arith, n, some)) reads 0

first_seat : (n : ℕ) (parts : List SeatPart) → AreSeats n parts → 0 < length parts
first_seat n [] seats = absurd seats
first_seat n (Producer p ∷ rest) seats = absurd seats
first_seat n (Processor q ∷ rest) seats = omega arith

pub processor_in : (size : ℕ) (words : List ℕ) (parts : List SeatPart) → IsRing (M size words parts) → 0 < length parts
processor_in size words parts h = first_seat _ parts h.rule.shared.seats

first_eight : (parts : List SeatPart) (q : ProcessorPart) → get_or parts 0 nobody ≡ Processor q → length (processor_of parts).collected ≡ 8 → length q.collected ≡ 8
first_eight [] q is n = absurd (cc)
first_eight (Producer p ∷ rest) q is n = absurd (cc)
first_eight (Processor p ∷ rest) q is n = let same : p ≡ q = cc in ap (λ (u : ProcessorPart). length u.collected) (sym same) ∙ n

all_made : (part part' : SeatPart) (mades : List Made) (makes : Bool) → makes ≡ true → part' ≡ after_all makes part mades → part' ≡ fold after_own part mades
all_made part part' mades makes is noted = noted ∙ ap (λ (b : Bool). after_all b part mades) is

-- one of two lists, by a test
pub kept_words : (b : Bool) (put words : List ℕ) → b ≡ false → words ≡ (if b then put else words)
kept_words b put words is = sym (ap (λ (c : Bool). if c then put else words) is)

pub put_words : (b : Bool) (put words last : List ℕ) → b ≡ true → last ≡ put → last ≡ (if b then put else words)
put_words b put words last is puts = puts ∙ sym (ap (λ (c : Bool). if c then put else words) is)

-- what a look came to, in a ring as its contracts see it
pub look_is : (s : Machine) (value : Machine) (room b : Bool) (id seen : ℕ) → s ≡ value → room ≡ has_room s.size id seen → room ≡ b
    → look_if b seen ≡ look_if (has_room value.size id seen) seen
look_is s value room b id seen view is at =
    ap (λ (c : Bool). look_if c seen) (sym at ∙ is ∙ ap (λ (m : Machine). has_room m.size id seen) view)

-- a publication
module _ (size : ℕ) (words : List ℕ) (parts : List SeatPart) (value : Machine) (seat id : ℕ) (part part' : SeatPart) (makes : Bool) (seen : ℕ) (room : Bool) (packet last : List ℕ)
    (view : M size words parts ≡ value) (h : IsRing (M size words parts)) (lt : seat < length parts) (has : part ≡ get_or parts seat part)
    (may : makes ≡ may_make size part (LoadReadIndex (record { 0 = id }))) (valid : is_invalid (slice_index packet 0) ≡ false) (is : makes ≡ true)
    (reads : seen ≡ get_or words 1 seen) (shows : room ≡ has_room size id seen) (noted : part' ≡ after_all makes part (stored_if room id seen packet))
    (puts : last ≡ (if room then packet_put words (word_place size id 0) packet else words)) where
  published_each : MayEach size (get_or parts seat nobody) (publishing size id seen packet)
  published_each = publishing_may size words parts seat id seen packet h valid (may_here size words parts value seat part makes (LoadReadIndex (record { 0 = id })) view h lt has may is)

  published_finds : FindEach size words (publishing size id seen packet) last
  published_finds =
      subst (λ (ws : List ℕ). FindEach size words (publishing size id seen packet) ws)
      (sym (puts ∙ ap (λ (b : Bool). if b then packet_put words (word_place size id 0) packet else words) shows))
      (subst (λ (r : ℕ). FindEach size words (publishing size id r packet) (if has_room size id r then packet_put words (word_place size id 0) packet else words)) (sym (read_is size words parts seen h reads))
      (publishing_finds size id packet words (has_room size id (get_or words 1 0))))

  published_all : MadeInTurn value seat (publishing size id seen packet) (M size last (set parts seat part'))
  published_all =
      together size words parts value seat part makes (LoadReadIndex (record { 0 = id })) view h lt has may (publishing size id seen packet) last part' published_each published_finds
      (all_made part part' (publishing size id seen packet) makes is (noted ∙ ap (λ (b : Bool). after_all makes part (stored_if b id seen packet)) shows))

  pub published_call : MadeInTurn value seat (publishing value.size id seen packet) (M size last (set parts seat part'))
  published_call = subst (λ (n : ℕ). MadeInTurn value seat (publishing n id seen packet) (M size last (set parts seat part'))) (ap (λ (m : Machine). m.size) view) published_all

  pub published_ring : IsRing (M size last (set parts seat part'))
  published_ring = turn_keeps value seat (publishing size id seen packet) (M size last (set parts seat part')) (subst (λ (m : Machine). IsRing m) view h) published_all

-- a packet is collected
module _ (size : ℕ) (words : List ℕ) (parts : List SeatPart) (value : Machine) (part part' : SeatPart) (makes : Bool) (r slot : ℕ) (packet : List ℕ)
    (view : M size words parts ≡ value) (h : IsRing (M size words parts)) (has : part ≡ get_or parts 0 part)
    (may : makes ≡ may_make size part LoadHeader) (is : makes ≡ true)
    (reads : r ≡ get_or words 1 r) (at : slot ≡ word_place size r 0) (found : packet ≡ packet_in words slot) (noted : part' ≡ after_all makes part (collecting packet)) where
  collected_finds : FindEach size words (collecting packet) words
  collected_finds =
      let there : packet ≡ packet_in words (word_place size (get_or words 1 0) 0) = found ∙ ap (packet_in words) (at ∙ ap (λ (i : ℕ). word_place size i 0) (read_is size words parts r h reads)) in
      subst (λ (ps : List ℕ). FindEach size words (collecting ps) words) (sym there)
      (collecting_finds size words (is_invalid (slice_index (packet_in words (word_place size (get_or words 1 0) 0)) 0)))

  pub collected_call : MadeInTurn value 0 (collecting packet) (M size words (set parts 0 part'))
  collected_call =
      let lt : 0 < length parts = processor_in size words parts h in
      together size words parts value 0 part makes LoadHeader view h lt has may (collecting packet) words part'
      (collecting_may size packet (get_or parts 0 nobody) (may_here size words parts value 0 part makes LoadHeader view h lt has may is) (λ q here. first_eight parts q here h.rule.tied.eight_collected))
      collected_finds (all_made part part' (collecting packet) makes is noted)

  pub collected_ring : IsRing (M size words (set parts 0 part'))
  collected_ring = turn_keeps value 0 (collecting packet) (M size words (set parts 0 part')) (subst (λ (m : Machine). IsRing m) view h) collected_call

-- a packet is retired
module _ (size : ℕ) (words : List ℕ) (parts : List SeatPart) (value : Machine) (part part' : SeatPart) (makes : Bool) (index slot : ℕ)
    (view : M size words parts ≡ value) (h : IsRing (M size words parts)) (has : part ≡ get_or parts 0 part)
    (may : makes ≡ may_make size part ClearHeader) (is : makes ≡ true)
    (reads : index ≡ get_or words 1 index) (at : slot ≡ word_place size index 0) (noted : part' ≡ after_all makes part (retiring index)) where
  retired_finds : FindEach size words (retiring index) (set (set words slot 1) 1 (index + 1))
  retired_finds =
      subst (λ (s : ℕ). FindEach size words (retiring index) (set (set words s 1) 1 (index + 1))) (sym at)
      (subst (λ (r : ℕ). FindEach size words (retiring r) (set (set words (word_place size r 0) 1) 1 (r + 1))) (sym (read_is size words parts index h reads)) (retiring_finds size words))

  pub retired_call : MadeInTurn value 0 (retiring index) (M size (set (set words slot 1) 1 (index + 1)) (set parts 0 part'))
  retired_call =
      let lt : 0 < length parts = processor_in size words parts h in
      together size words parts value 0 part makes ClearHeader view h lt has may (retiring index) (set (set words slot 1) 1 (index + 1)) part'
      (retiring_may size index (get_or parts 0 nobody) (may_here size words parts value 0 part makes ClearHeader view h lt has may is))
      retired_finds (all_made part part' (retiring index) makes is noted)

  pub retired_ring : IsRing (M size (set (set words slot 1) 1 (index + 1)) (set parts 0 part'))
  retired_ring = turn_keeps value 0 (retiring index) _ (subst (λ (m : Machine). IsRing m) view h) retired_call

  pub retired_fits : index + 1 < 2 ^ 64
  retired_fits = fits_after (made value (step_by 0 ClearHeader)) (ring_steps value (step_by 0 ClearHeader) (subst (λ (m : Machine). IsRing m) view h) retired_call.0.allowed) retired_call.1.0.told retired_call.1.0.allowed
    where
      fits_after : (m : Machine) → IsRing m → Read index ≡ Read (get_or m.words 1 0) → is_allowed m (step_by 0 RaiseReadIndex) ≡ true → index + 1 < 2 ^ 64
      fits_after m ring told allowed =
          let same : index ≡ get_or m.words 1 0 = cc in
          let fits : get_or m.words 1 0 + 1 < 2 ^ 64 = fits_by m RaiseReadIndex ring (λ e. raises (producers_of m) m.size m.parts 0 ring.rule.shared.seats allowed) in
          omega (arith, fits, same)
