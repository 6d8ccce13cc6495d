use Rattle.std.proofs.Common.{◌≡◌, Some, ap, sym, ◌∙◌}
use Rattle.std.specs.Prelude.{slice_get}
use Rattle.executor.specs.inner.Held.{contents, surroundings}
use Rattle.executor.proofs.GroupLemmas.{acts_turn}
use Rattle.executor.proofs.Maps.{get_read}
use Rattle.executor.proofs.item_run.turn.Goals as goal

pub returns-in-Some : goal.returns-in-Some
returns-in-Some c =
    let found : slice_get c.args.program.now.steps c.args.item.now.next ≡ Some c.in-Some.step.now = ap (λ xs. slice_get xs c.args.item.now.next) (sym c.steps.ensures.value) ∙ get_read c.steps.result.now c.args.item.now.next c.in-Some.step.now c.in-Some.ensures.lookup.1 c.in-Some.ensures.lookup.3.0 in
    acts_turn (surroundings c.args.context.now) c.args.program.now.steps c.args.item.now c.act.new.item (contents c.args.memory.now) (contents c.act.new.memory)
    c.in-Some.step.now c.act.result found c.act.ensures
