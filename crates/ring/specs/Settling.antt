-- What a ring came to, once its passes have come back (own).
use Rattle.std.specs.Prelude.{◌≡◌, ℕ, zero, suc, ◌==◌, ◌&&◌, Bool, true, List, ◌∷◌, get_or, All}
use Rattle.std.specs.List.{list_any}
use Rattle.ring_core.specs.declared.access.Step.{Step}
use Rattle.ring_core.specs.declared.part.SeatPart.{SeatPart}
use Rattle.ring_core.specs.declared.part.SeatPart.TheVariants.{Producer, Processor}
use Rattle.ring_core.specs.Parts.{nobody}
use Rattle.ring_core.specs.Machine.{machine_of, Replays}
use Rattle.ring_core.specs.Rule.{IsRule}
use Rattle.ring.specs.declared.share.Numbered.{Numbered}
use Rattle.ring.specs.Shares.{AreOf}
use Rattle.ring.specs.Passes.{RingSeen, ProducerSeen, ProcessorSeen}

-- the pass of the producer with a number is among these
abbrev pub has_pass : ℕ → List ProducerSeen → Bool
has_pass number passes = list_any (λ pass. pass.number == number) passes

-- the passes of the producers 1 to n are
abbrev pub has_passes : ℕ → List ProducerSeen → Bool
has_passes zero passes = true
has_passes (suc n) passes = has_passes n passes && has_pass (suc n) passes

-- what the pass of a producer has, as a share
abbrev pub share_of : ProducerSeen → Numbered
share_of pass = record { number = pass.number; part = Producer pass.part }

-- the words are those of a machine to which some list of steps leads from the opening, and which has
-- these parts
abbrev pub IsClosed : RingSeen → List Numbered → List ℕ → Type 0
IsClosed ring share words =
    (steps : List Step) × (parts : List SeatPart)
    × Replays ring.size ring.producers steps (machine_of ring.size words parts) × AreOf parts share

-- the indices and the slots are those of a machine that meets the ring rule, in which the processor and
-- each producer know what their passes know
pub record IsSettled (ring : RingSeen) (passes : List ProducerSeen) (processor : ProcessorSeen) (write_index read_index : ℕ) (slots : List ℕ) : Type 0 where
  pub steps : List Step
  pub parts : List SeatPart
  pub replays : Replays ring.size ring.producers steps (machine_of ring.size (write_index ∷ read_index ∷ slots) parts)
  pub rule : IsRule ring.producers (machine_of ring.size (write_index ∷ read_index ∷ slots) parts)
  pub retired : get_or parts 0 nobody ≡ Processor processor.part
  pub published : All (λ pass. get_or parts pass.number nobody ≡ Producer pass.part) passes
