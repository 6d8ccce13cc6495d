-- The rules of the layout come first, then those of the packet's fields.
use Rattle.std.proofs.Common.{sym, ◌∙◌, ap, Some}
use Rattle.packet_processor.specs.Asked.{AskedPacket}
use Rattle.packet_processor.proofs.FirstFailing.{first_failing-refused, judged-decoded}
use Rattle.packet_processor.proofs.judging.verdict.Goals as goal

pub returns-in-Err : goal.returns-in-Err
returns-in-Err c = first_failing-refused _ _ _ c.in-Err.ensures.exact ∙ ap Some (sym c.from.ensures)

pub returns-in-Ok : goal.returns-in-Ok
returns-in-Ok c =
    judged-decoded _ _ c.of.result _ (c.in-Ok.ensures.exact ∙ ap (λ (asked : AskedPacket). Some asked.packet) (sym c.of.ensures))
    (ap (λ (asked : AskedPacket). asked.agent) c.of.ensures) c.judge.ensures
