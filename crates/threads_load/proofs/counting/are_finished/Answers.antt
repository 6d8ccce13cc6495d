use Rattle.threads_load.proofs.Counted.{finished_by}
use Rattle.threads_load.proofs.counting.are_finished.Goals as goal

pub returns : goal.returns
returns c = λ entries queues are. finished_by entries c.args.wanted queues c.args.counts.now c.all_counted.result c.all_counted.ensures are
