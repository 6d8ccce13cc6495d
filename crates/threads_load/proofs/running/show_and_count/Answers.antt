use Rattle.std.proofs.Common.{rules, ◌≡◌, List, ◌++◌, subst}
use Rattle.core_model.specs.declared.entry.Entry.{Entry}
use Rattle.threads_load.specs.Counts.{AreCounts}
use Rattle.threads_load.proofs.running.show_and_count.Goals as goal

pub returns-in-Ok : goal.returns-in-Ok
returns-in-Ok g c = λ before queues are.
    let own : c.entries-2.result.now ≡ c.args.part.now.entries = search rules in
    subst (λ (es : List Entry). AreCounts (before ++ es) queues c.count_on.new.counts.items) own (c.in-Ok.ensures before queues are)
