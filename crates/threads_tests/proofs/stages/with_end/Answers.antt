use Rattle.std.proofs.Common.{List, sym, subst}
use Rattle.std.specs.Prelude.{All}
use Rattle.std.proofs.lemmas.List.Elements.{All-push}
use Rattle.client_threads.specs.declared.client_end.ClientEnd.{ClientEnd}
use Rattle.client_threads.specs.Running.{IsEndOf}
use Rattle.threads_tests.proofs.stages.with_end.Goals as goal

pub returns-in-Ok : goal.returns-in-Ok
returns-in-Ok g c = record {
  front = c.requires.stage.front;
  ends = subst (λ (ends : List ClientEnd). All (λ end. IsEndOf c.args.stage.broker end) ends) (sym c.in-Ok.ensures.items)
      (All-push (λ end. IsEndOf c.args.stage.broker end) c.args.stage.ends.items c.args.end c.requires.stage.ends c.requires.end);
  lanes = c.requires.stage.lanes;
  settled = c.requires.stage.settled;
  shares = c.requires.stage.shares;
}
