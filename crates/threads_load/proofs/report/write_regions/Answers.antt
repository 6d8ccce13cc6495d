use Rattle.std.proofs.Common.{◌+◌, refl, string_bytes}
use Rattle.core_model.specs.History.{beginning}
use Rattle.threads_load.specs.Reports.{text_of_used}
use Rattle.threads_load.proofs.Ranges.{gathered_more}
use Rattle.threads_load.proofs.report.write_regions.Goals as goal

pub loop-before-preserved : goal.loop-before-preserved
loop-before-preserved c =
    gathered_more (text_of_used (beginning c.args.core.now.history) c.args.core.now.history.entries c.args.plan.now) c.loop-before.before (c.loop-before.before + 1)
    (string_bytes c.args.out.now) (string_bytes c.loop-before.out) (string_bytes c.write_used.new.out)
    refl c.loop-before.invariant c.in_ok-write_used.ensures
