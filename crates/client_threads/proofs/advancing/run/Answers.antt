use Rattle.std.proofs.Common.{◌≡◌}
use Rattle.client_threads.proofs.Unfinished.{done_leaves, unfinished}
use Rattle.client_threads.proofs.advancing.run.Goals as goal

pub returns-in-Ok-Done : goal.returns-in-Ok-Done
returns-in-Ok-Done c = done_leaves c.args.queue c.args.id c.args.core.now.history c.run_next.new.self.history (rw c.in-Ok-Done.field-0-is at c.in-Ok-Done.ensures.met)

pub returns-in-Ok-Ran : goal.returns-in-Ok-Ran
returns-in-Ok-Ran c =
    let met = rw c.in-Ok-Ran.field-0-is at c.in-Ok-Ran.ensures.met in
    (met, unfinished c.args.queue c.args.id c.args.core.now.history c.run_next.new.self.history _ (λ e. absurd cc) met)

pub returns-in-Ok-Faulted : goal.returns-in-Ok-Faulted
returns-in-Ok-Faulted c =
    let met = rw c.in-Ok-Faulted.field-0-is at c.in-Ok-Faulted.ensures.met in
    (met, unfinished c.args.queue c.args.id c.args.core.now.history c.run_next.new.self.history _ (λ e. absurd cc) met)
