-- What a producer's calls say of its pass (own).
use Rattle.std.specs.Prelude.{◌≡◌, ℕ, true, false, List, [], ◌∷◌, length, get_or, Some, is_some, ⊤}
use Rattle.atomic_table.specs.Table.{Me}
use Rattle.ring_core.specs.declared.ticket.Ticket.{Ticket}
use Rattle.ring_core.specs.declared.access.Access.TheVariants.{LoadReadIndex}
use Rattle.ring_core.specs.declared.access.Made.{Made}
use Rattle.ring_core.specs.declared.part.SeatPart.TheVariants.{Producer}
use Rattle.ring_core.specs.declared.part.ProducerPart.{ProducerPart}
use Rattle.ring_core.specs.Words.{is_invalid}
use Rattle.ring_core.specs.Tickets.{open_ticket, has_room, shows_room}
use Rattle.ring.specs.declared.share.Numbered.{Numbered}
use Rattle.ring.specs.declared.producer.Publication.{Publication}
use Rattle.ring.specs.declared.producer.Publication.TheVariants.{Published, SlotBusy, NotPublishable}
use Rattle.ring.specs.Shares.{alone}
use Rattle.ring.specs.Passes.{RingSeen, ProducerSeen}
use Rattle.ring.specs.Made.{read, Gained, publication}
use Rattle.ring.specs.Steps.{only_number}

-- a pass has an open ticket under an id
abbrev pub IsOpen : ℕ → ProducerSeen → Type 0
IsOpen id pass = is_some (open_ticket id pass.part.tickets) ≡ true

-- a pass gained just these steps, in turn; it is for the same table, with the same number
abbrev pub ProducerGains : RingSeen → ProducerSeen → List Made → ProducerSeen → Type 0
ProducerGains ring old made new =
    (new.table ≡ old.table) × (new.number ≡ old.number)
    × Gained ring.size ring.producers old.number (Producer old.part) made (Producer new.part)

-- a seat of one producer's part has an open ticket that saw room
pub record IsFillable {S : Type 0} (size : ℕ) (me : Me S (List Numbered)) (id : ℕ) : Type 0 where
  pub part : ProducerPart
  pub ticket : Ticket
  pub one : me ≡ (alone (only_number me.0) (Producer part), [])
  pub opened : open_ticket id part.tickets ≡ Some ticket
  pub room : shows_room size id ticket.saw ≡ true
  pub eight : length ticket.words ≡ 8

-- what became of a packet of these words under a ticket, of which type, and which steps the pass gained:
-- none for one of type INVALID; else the look for room; and, just where that read a read index that shows
-- room, the seven body words and then the header
abbrev pub HasPublished : RingSeen → ProducerSeen → ℕ → List ℕ → Publication → ProducerSeen → Type 0
HasPublished ring old id words (NotPublishable ticket) new =
    (ticket.id.0 ≡ id) × (is_invalid (get_or words 0 0) ≡ true) × (new ≡ old)
HasPublished ring old id words (SlotBusy ticket seen) new =
    (ticket.id.0 ≡ id) × (is_invalid (get_or words 0 0) ≡ false) × (has_room ring.size id seen ≡ false)
    × ProducerGains ring old (read (LoadReadIndex (record { 0 = id })) seen ∷ []) new
HasPublished ring old id words (Published packet) new =
    (packet.0 ≡ id) × (is_invalid (get_or words 0 0) ≡ false)
    × ((seen : ℕ) × (has_room ring.size id seen ≡ true) × ProducerGains ring old (publication id seen words) new)

-- a ticket that comes back is open
abbrev pub IsGivenBack : Publication → ProducerSeen → Type 0
IsGivenBack (Published packet) pass = ⊤
IsGivenBack (SlotBusy ticket seen) pass = IsOpen ticket.id.0 pass
IsGivenBack (NotPublishable ticket) pass = IsOpen ticket.id.0 pass
