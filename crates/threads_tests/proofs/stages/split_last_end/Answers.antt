-- The last end that is taken off is of its broker, and so are those before it.
use Rattle.std.proofs.Common.{List, Some, ◌++◌, ◌≡◌}
use Rattle.std.specs.Prelude.{All, IfSome, Option, option_to_list}
use Rattle.std.proofs.lemmas.List.Elements.{All-pop}
use Rattle.client_threads.specs.declared.client_end.ClientEnd.{ClientEnd}
use Rattle.client_threads.specs.Rings.{QueueRing}
use Rattle.client_threads.specs.Running.{IsEndOf}
use Rattle.threads_tests.proofs.stages.split_last_end.Goals as goal

before_last : (rings : List QueueRing) (ends rest : List ClientEnd) (popped : Option ClientEnd) → ends ≡ rest ++ option_to_list popped
    → All (λ end. IsEndOf rings end) ends → All (λ end. IsEndOf rings end) rest
before_last rings ends rest popped are all = (All-pop (λ end. IsEndOf rings end) ends rest popped are all).0

last : (rings : List QueueRing) (ends rest : List ClientEnd) (popped : Option ClientEnd) → ends ≡ rest ++ option_to_list popped
    → All (λ end. IsEndOf rings end) ends → IfSome popped (λ end. IsEndOf rings end)
last rings ends rest popped are all = (All-pop (λ end. IsEndOf rings end) ends rest popped are all).1

pub returns-clause-stage : goal.returns-clause-stage
returns-clause-stage g c = record {
  front = c.requires.front;
  ends = before_last c.args.stage.broker c.args.stage.ends.items c.pop.new.self.items c.pop.result c.pop.ensures.items c.requires.ends;
  lanes = c.requires.lanes;
  settled = c.requires.settled;
  shares = c.requires.shares;
}

pub returns-clause-end : goal.returns-clause-end
returns-clause-end g c = last c.args.stage.broker c.args.stage.ends.items c.pop.new.self.items (Some c.in_ok-last.last) c.in_ok-last.ensures.items c.requires.ends
