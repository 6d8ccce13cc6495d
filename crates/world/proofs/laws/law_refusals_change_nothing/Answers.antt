use Rattle.world.proofs.Refusing.{refused_stays}
use Rattle.world.proofs.laws.law_refusals_change_nothing.Goals as goal

pub returns : goal.returns
returns c = λ old new asked why served. refused_stays old new asked why served
