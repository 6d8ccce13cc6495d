-- The calls on a queue's ring, as the code makes them: their steps in turn, or the refusal of the first.
use Rattle.std.specs.Prelude.{◌≡◌, ◌⊎◌, ℕ, Bool, true, false, List, length, option_map, Option, Some, None, Result, Ok, Err}
use Rattle.aql_packet.specs.declared.ids.PacketId.{PacketId}
use Rattle.aql_packet.specs.declared.ids.QueueId.{QueueId}
use Rattle.core_model.specs.declared.refusal.Refusal.TheVariants as why
use Rattle.ring_core.specs.declared.access.Access.{Access}
use Rattle.ring_core.specs.declared.access.Access.TheVariants.{Reserve, LoadReadIndex, LoadHeader, ClearHeader}
use Rattle.ring_core.specs.declared.access.Made.{Made}
use Rattle.ring_core.specs.declared.state.Look.{Look}
use Rattle.ring_core.specs.declared.state.Look.TheVariants.{Published, Busy}
use Rattle.ring_core.specs.Calls.{has_room, retiring}
use Rattle.ring_core.specs.InTurn.{MadeInTurn, collecting, look_if, packet_among, publishing, step_by}
use Rattle.ring_core.specs.Machine.{found, read_index}
use Rattle.world.specs.declared.lane.Sent.{Sent}
use Rattle.world.specs.declared.lane.Sent.TheVariants as sent
use Rattle.world.specs.declared.lane.Shown.{Shown}
use Rattle.world.specs.declared.queue_ring.QueueRing.{QueueRing}
use Rattle.world.specs.declared.reply.Refusal.{Refusal}
use Rattle.world.specs.declared.reply.Refusal.TheVariants as refusal
use Rattle.world.specs.Dues.{hindrance}
use Rattle.world.specs.Lanes.{shown_as}
use Rattle.world.specs.Making.{ring_made, with_queue_ring}

-- the first step of a call is refused, and the ring stays
abbrev pub RefusesOn : QueueRing → ℕ → Access → Refusal → QueueRing → Type 0
RefusesOn old seat access why new = (hindrance old.decided old.ring (step_by seat access) ≡ Some why) × (new ≡ old)

-- the steps of a call were made in turn, and then this is known of the packet at the read index
abbrev pub MakesInTurn : QueueRing → ℕ → List Made → Bool → QueueRing → Type 0
MakesInTurn old seat mades decided new = MadeInTurn old.ring seat mades new.ring × (new.decided ≡ decided) × (new.queue ≡ old.queue)

-- the packet at the read index is collected, and shown with its id, if it is published
abbrev pub CollectsOn : QueueRing → Result (Option Shown) Refusal → QueueRing → Type 0
CollectsOn old (Ok shown) new =
    (words : List ℕ) × (length words ≡ 8) × (shown ≡ option_map (shown_as (record { 0 = read_index old.ring })) (packet_among words))
    × MakesInTurn old 0 (collecting words) old.decided new
CollectsOn old (Err why) new = RefusesOn old 0 LoadHeader why new

-- the packet at the read index is retired, which was launched or denied
abbrev pub RetiresOn : QueueRing → Result ℕ Refusal → QueueRing → Type 0
RetiresOn old (Ok index) new = (old.decided ≡ true) × MakesInTurn old 0 (retiring index) false new
RetiresOn old (Err why) new = RefusesOn old 0 ClearHeader why new

-- a packet is published, or its slot is still taken: so the look for room says
abbrev pub sent_as : PacketId → Look → Sent
sent_as ticket Published = sent.Published ticket
sent_as ticket (Busy seen) = sent.Busy ticket seen

abbrev pub PublishesOn : ℕ → PacketId → List ℕ → QueueRing → Result Sent Refusal → QueueRing → Type 0
PublishesOn producer ticket words old (Ok told) new =
    (seen : ℕ) × (told ≡ sent_as ticket (look_if (has_room old.ring.size ticket.0 seen) seen)) × MakesInTurn old producer (publishing old.ring.size ticket.0 seen words) old.decided new
PublishesOn producer ticket words old (Err why) new = RefusesOn old producer (LoadReadIndex ticket) why new

-- a ticket is reserved: one step, which read it, unless it is hindered or memory was wanted
abbrev pub ReservesWhere : Option Refusal → ℕ → QueueRing → Result ℕ Refusal → QueueRing → Type 0
ReservesWhere (Some why) producer old result new = (result ≡ Err why) × (new ≡ old)
ReservesWhere None producer old result new =
    ((result ≡ Ok (found old.ring (step_by producer Reserve))) × (new ≡ ring_made old (step_by producer Reserve)))
    ⊎ ((result ≡ Err (refusal.Core why.OutOfMemory)) × (new ≡ old))

abbrev pub ReservesOn : ℕ → QueueRing → Result ℕ Refusal → QueueRing → Type 0
ReservesOn producer old result new = ReservesWhere (hindrance old.decided old.ring (step_by producer Reserve)) producer old result new

-- a call on the ring of a queue, if it is open (own)
abbrev pub CallsAt : {X : Type 0} → (QueueRing → Result X Refusal → QueueRing → Type 0) → Option QueueRing → QueueId → List QueueRing → Result X Refusal → List QueueRing → Type 0
CallsAt call None queue old result new = (result ≡ Err (refusal.Core why.UnknownQueue)) × (new ≡ old)
CallsAt call (Some ring) queue old result new = (after : QueueRing) × call ring result after × (new ≡ with_queue_ring old queue after)
