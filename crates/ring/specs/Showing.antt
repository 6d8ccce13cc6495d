-- What the processor's calls say of its pass (own).
use Rattle.std.specs.Prelude.{◌≡◌, ℕ, true, false, List, [], ◌∷◌, length, get_or, Option, Some, None}
use Rattle.atomic_table.specs.Table.{Me}
use Rattle.ring_core.specs.declared.access.Access.TheVariants.{LoadHeader}
use Rattle.ring_core.specs.declared.access.Made.{Made}
use Rattle.ring_core.specs.declared.part.SeatPart.TheVariants.{Processor}
use Rattle.ring_core.specs.declared.part.ProcessorPart.{ProcessorPart}
use Rattle.aql_packet.specs.Layout.{Are64Bytes}
use Rattle.ring_core.specs.Words.{is_invalid}
use Rattle.ring_core.specs.Parts.{collected_packet}
use Rattle.ring.specs.declared.share.Numbered.{Numbered}
use Rattle.ring.specs.declared.processor.Shown.{Shown}
use Rattle.ring.specs.declared.processor.Peeked.{Peeked}
use Rattle.ring.specs.declared.processor.Peeked.TheVariants as peeked
use Rattle.ring.specs.Bytes.{words_of}
use Rattle.ring.specs.Shares.{alone}
use Rattle.ring.specs.Passes.{RingSeen, ProcessorSeen}
use Rattle.ring.specs.Made.{read, Gained, showing}
use Rattle.ring.specs.Steps.{only_number, HasGained}

-- the pass has collected just this packet, whole and under its next id, and not retired it
abbrev pub IsShownBy : Shown → ProcessorSeen → Type 0
IsShownBy shown pass =
    (collected_packet pass.part ≡ Some (words_of shown.bytes)) × (shown.id.0 ≡ length pass.part.retired)

-- the pass gained just these steps, in turn; it is for the same table
abbrev pub ProcessorGains : RingSeen → ProcessorSeen → List Made → ProcessorSeen → Type 0
ProcessorGains ring old made new =
    (new.table ≡ old.table) × Gained ring.size ring.producers 0 (Processor old.part) made (Processor new.part)

-- what the processor found: a header of type INVALID; or a header of another type and the body under it,
-- which are the packet, and are from then on collected under the read index
abbrev pub HasPeeked : RingSeen → ProcessorSeen → Peeked → ProcessorSeen → Type 0
HasPeeked ring old peeked.Empty new =
    (header : ℕ) × (is_invalid header ≡ true) × ProcessorGains ring old (read LoadHeader header ∷ []) new
HasPeeked ring old (peeked.Shown shown) new =
    (is_invalid (get_or (words_of shown.bytes) 0 0) ≡ false)
    × (shown.id.0 ≡ length old.part.retired)
    × ProcessorGains ring old (showing (words_of shown.bytes)) new
    × IsShownBy shown new

-- a packet that the pass was shown, and has not retired, is shown again
abbrev pub ShowsAgain : ProcessorSeen → Peeked → Type 0
ShowsAgain old found = (shown : Shown) → Are64Bytes shown.bytes → IsShownBy shown old → found ≡ peeked.Shown shown

-- a seat of the processor's part, which does not stand between clearing and raising
pub record IsLoadable {S : Type 0} (me : Me S (List Numbered)) (next : ℕ) : Type 0 where
  pub part : ProcessorPart
  pub one : me ≡ (alone (only_number me.0) (Processor part), [])
  pub index : next ≡ length part.retired
  pub resting : part.raising ≡ false

-- what it loaded
abbrev pub HasLoaded : {S : Type 0} → ℕ → ℕ → Me S (List Numbered) → Option (List ℕ) → Me S (List Numbered) → Type 0
HasLoaded size producers me None after =
    (header : ℕ) × (is_invalid header ≡ true) × HasGained size producers me (read LoadHeader header ∷ []) after
HasLoaded size producers me (Some words) after =
    (length words ≡ 8) × (is_invalid (get_or words 0 0) ≡ false)
    × HasGained size producers me (showing words) after
