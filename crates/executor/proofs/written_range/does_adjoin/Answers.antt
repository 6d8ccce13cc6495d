use Rattle.std.proofs.Common.{◌-◌, length, sym, ◌∙◌, arith}
use Rattle.executor.proofs.RunLemmas.{adjoins_at}
use Rattle.executor.proofs.written_range.does_adjoin.Goals as goal

pub returns-then-count-gt0 : goal.returns-then-count-gt0
returns-then-count-gt0 c =
    c.adjoins.ensures ∙ sym (adjoins_at c.args.runs.now c.args.address (length c.args.runs.now - 1) c.index-runs-count.result (omega arith) c.index-runs-count.is)
