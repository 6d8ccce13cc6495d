use Rattle.std.proofs.Common.{List, ◌++◌, length, string_bytes, subst, sym}
use Rattle.core_model.specs.Rotation.{entries_in}
use Rattle.threads_load.specs.declared.counting.PacketCounts.{PacketCounts}
use Rattle.threads_load.specs.Counts.{AreCounts}
use Rattle.threads_load.specs.Loads.{parts_in}
use Rattle.threads_load.proofs.Endings.{tells_plan}
use Rattle.threads_load.proofs.load.tell.Goals as goal

pub returns : goal.returns
returns c = λ opened producers packets wanted ends.
    let ended = c.args.ended in
    let counts : AreCounts (entries_in (parts_in ended) ++ ended.core.history.entries) (length c.args.plan.now) c.as_slice-counts.result.now =
    subst (λ (cs : List PacketCounts). AreCounts (entries_in (parts_in ended) ++ ended.core.history.entries) (length c.args.plan.now) cs) (sym c.as_slice-counts.ensures.value) ends.counts in
    tells_plan opened c.args.plan.now producers packets wanted ended string_bytes c.report_load-report.result c.load_of.result (λ load. load.report) ends (c.report_load-report.ensures (entries_in (parts_in ended)) counts) c.load_of.ensures
