-- A refusal leaves the rings as they are.
use Rattle.world.proofs.Handing.{handed_refused}
use Rattle.world.proofs.serving.hand_over.Goals as goal

pub returns-in-Err : goal.returns-in-Err
returns-in-Err c =
    handed_refused c.args.core.now.history c.take.new.self.history c.args.rings.now.items c.args.queue c.requires.next.0 c.args.next c.bytes_of-bytes.result c.in-Err.why c.requires.next.1 c.requires.next.2 c.bytes_of-bytes.ensures.value c.in-Err.ensures.met
