use Rattle.threads_load.proofs.Handing.{handed_legal}
use Rattle.threads_load.proofs.running.rotate_next.Goals as goal

pub returns-clause-part : goal.returns-clause-part
returns-clause-part g c = handed_legal g.B.Room.opened c.args.front.now c.rotate.new.front c.rotate.result c.rotate.ensures.section
