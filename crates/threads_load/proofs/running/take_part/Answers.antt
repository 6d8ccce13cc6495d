use Rattle.core_model.specs.Rotation.{entries_in}
use Rattle.threads_load.proofs.Handing.{all_legal, counted_with, settled_legal}
use Rattle.threads_load.proofs.running.take_part.Goals as goal

pub returns-in-Ok-clause-parts : goal.returns-in-Ok-clause-parts
returns-in-Ok-clause-parts g c = settled_legal g.B.Room.opened.history.kernels c.args.settled.now c.settle_part.new.settled c.settle_part.result c.args.part c.settle_part.ensures.parts c.requires.parts c.requires.part

pub returns-in-Ok-clause-left : goal.returns-in-Ok-clause-left
returns-in-Ok-clause-left g c = all_legal g.B.Room.opened.history.kernels c.args.settled.now c.settle_part.new.settled c.settle_part.result c.args.part c.settle_part.ensures.parts c.requires.parts c.requires.part

pub returns-in-Ok-clause-counts : goal.returns-in-Ok-clause-counts
returns-in-Ok-clause-counts g c = λ queues are.
    counted_with queues c.args.settled.now c.settle_part.new.settled c.settle_part.result c.args.part c.show_and_count.new.counts.items c.settle_part.ensures.parts (c.in-Ok.ensures (entries_in c.args.settled.now) queues are)
