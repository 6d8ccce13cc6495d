use Rattle.std.proofs.Common.{◌∙◌, ap, sym}
use Rattle.executor.specs.inner.Held.{contents}
use Rattle.executor.specs.Locations.{count_of}
use Rattle.executor.specs.Runs.{input_of}
use Rattle.executor.specs.declared.location.Location.{Location}
use Rattle.executor.proofs.GroupEnds.{finished, failed_as}
use Rattle.executor.proofs.group.run_program.Goals as goal

pub returns-in-Err-clause-err : goal.returns-in-Err-clause-err
returns-in-Err-clause-err c =
    failed_as (input_of c.args.program.now c.args.dispatch.now c.args.group c.args.view.now) c.new.result c.count_of-count.result (contents c.in_ok-memory.memory)
    (c.new.ensures ∙ c.location_of-location.ensures.value) (c.count_of-count.ensures.value ∙ ap (λ (l : Location). count_of l.current_size) (sym c.new.ensures))
    c.count_of-count.ensures.few c.in_ok-memory.ensures c.in-Err.fault c.in-Err.ensures.err

pub returns-clause-ok : goal.returns-clause-ok
returns-clause-ok c =
    finished (input_of c.args.program.now c.args.dispatch.now c.args.group c.args.view.now) c.new.result c.count_of-count.result (contents c.in_ok-memory.memory)
    (c.new.ensures ∙ c.location_of-location.ensures.value) (c.count_of-count.ensures.value ∙ ap (λ (l : Location). count_of l.current_size) (sym c.new.ensures))
    c.count_of-count.ensures.few c.in_ok-memory.ensures (contents c.run_items.new.memory) c.in_ok-runs.runs
    c.in_default.ensures.ok c.in_ok-runs.ensures.runs c.in_ok-runs.ensures.value
