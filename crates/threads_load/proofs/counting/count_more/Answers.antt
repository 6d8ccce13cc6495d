use Rattle.threads_load.proofs.Sums.{both_counts}
use Rattle.threads_load.proofs.counting.count_more.Goals as goal

pub returns : goal.returns
returns c = λ before same.
    both_counts c.args.queue.0 before c.args.entries.now c.args.counts c.count_packets.result c.sum_of.result same c.count_packets.ensures c.sum_of.ensures
