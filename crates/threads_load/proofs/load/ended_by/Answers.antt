use Rattle.std.proofs.Common.{List, ◌++◌, length, subst, sym}
use Rattle.core_model.specs.Rotation.{entries_in}
use Rattle.access_core.specs.Cores.{Core}
use Rattle.client_threads.specs.Settling.{core_of}
use Rattle.threads_load.specs.declared.counting.PacketCounts.{PacketCounts}
use Rattle.threads_load.specs.Counts.{AreCounts}
use Rattle.threads_load.specs.Rounds.{parts_of}
use Rattle.threads_load.proofs.load.ended_by.Goals as goal

pub returns-in-Ok-clause-counts : goal.returns-in-Ok-clause-counts
returns-in-Ok-clause-counts c = λ queues are.
    subst (λ (core : Core). AreCounts (entries_in (parts_of c.args.out) ++ core.history.entries) queues c.count_last.new.counts.items) (sym c.core_of.ensures)
    (c.in-Ok.ensures (entries_in (parts_of c.args.out)) queues are)

pub returns-in-Ok-clause-ends : goal.returns-in-Ok-clause-ends
returns-in-Ok-clause-ends c = λ plan are.
    let parts = parts_of c.args.out in
    c.ending_of-ending.ensures plan parts
    (subst (λ (cs : List PacketCounts). AreCounts (entries_in parts ++ (core_of c.args.settlement).history.entries) (length plan) cs) (sym c.as_slice.ensures.value)
    (c.in-Ok.ensures (entries_in parts) (length plan) are))
