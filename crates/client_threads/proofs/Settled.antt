-- What a lane served, once its ring is settled.
use Rattle.std.proofs.Common.{◌≡◌, ℕ, suc, zero, ◌<◌, true, false, List, [], ◌∷◌, length, map, get_or, refl, ap, ◌∙◌, sym, arith}
use Rattle.std.specs.Prelude.{Some, slice_index, slice_index_or}
use Rattle.ring_core.specs.declared.part.SeatPart.{SeatPart}
use Rattle.ring_core.specs.declared.part.SeatPart.TheVariants.{Producer, Processor}
use Rattle.ring_core.specs.declared.part.ProcessorPart.{ProcessorPart}
use Rattle.ring_core.specs.Parts.{nobody}
use Rattle.ring_core.specs.Machine.{machine_of}
use Rattle.ring_core.specs.Rule.{processor_of}
use Rattle.ring.specs.Passes.{RingSeen, ProducerSeen}
use Rattle.ring.specs.Bytes.{words_of}
use Rattle.ring.specs.Settling.{IsSettled}
use Rattle.core_model.specs.declared.served.Served.{Served}
use Rattle.client_threads.specs.Lanes.{LaneSeen, IsLane, words_served}
use Rattle.client_threads.specs.Settling.{AreServed}
use Rattle.client_threads.proofs.KeptLanes.{map_length}

its_part : (parts : List SeatPart) (p : ProcessorPart) → get_or parts 0 nobody ≡ Processor p → processor_of parts ≡ p
its_part [] p e = absurd cc
its_part (Producer q ∷ ps) p e = absurd cc
its_part (Processor q ∷ ps) p e = cc

served_at : (served : List Served) (id : ℕ) (d : Served) → id < length served → get_or (map words_served served) id [] ≡ words_of (slice_index_or served id d).bytes
served_at [] id d lt = absurd (omega (arith, lt))
served_at (s ∷ ss) zero d lt = refl
served_at (s ∷ ss) (suc id) d lt = served_at ss id d (omega (arith, lt))

pub are_served : (ring : RingSeen) (passes : List ProducerSeen) (lane : LaneSeen) (w r : ℕ) (slots : List ℕ) → IsLane lane → (settled : IsSettled ring passes lane.pass w r slots) → AreServed (machine_of ring.size (w ∷ r ∷ slots) settled.parts) r lane.served
are_served ring passes lane w r slots kept settled =
    let part : processor_of settled.parts ≡ lane.pass.part = its_part settled.parts lane.pass.part settled.retired in
    let packets : (processor_of settled.parts).retired ≡ map words_served lane.served = ap (λ p. p.retired) part ∙ sym kept.retired in
    let resting : (processor_of settled.parts).raising ≡ false = ap (λ p. p.raising) part ∙ kept.resting in
    let count : length lane.served ≡ r = sym (map_length lane.served) ∙ ap length (sym packets) ∙ settled.rule.tied.count in
    record {
      count = count;
      each = λ id k d lt small. settled.rule.tied.retired id k lt small ∙ ap (λ ps. Some (slice_index (get_or ps id []) k)) packets ∙ ap (λ ws. Some (slice_index ws k)) (served_at lane.served id d (omega (arith, lt, count)));
      stands = λ id k word le is. settled.rule.tied.live id k word le is (λ raising. absurd (let no : true ≡ false = sym raising ∙ resting in cc));
    }
