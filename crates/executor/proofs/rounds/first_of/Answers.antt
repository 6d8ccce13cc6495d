use Rattle.std.proofs.Common.{◌∙◌, ap}
use Rattle.executor.specs.declared.location.Location.{Location}
use Rattle.executor.specs.inner.Held.{surroundings}
use Rattle.executor.proofs.PlaceLemmas.{first_at}
use Rattle.executor.proofs.rounds.first_of.Goals as goal

pub returns : goal.returns
returns c =
    let a = surroundings c.args.context.now in
    ap (λ (l : Location). record a { location = l }) c.first.ensures ∙ first_at a
