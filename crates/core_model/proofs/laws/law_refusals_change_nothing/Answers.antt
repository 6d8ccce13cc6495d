use Rattle.core_model.proofs.ServedLaw.{refused-stays}
use Rattle.core_model.proofs.laws.law_refusals_change_nothing.Goals as goal

pub returns : goal.returns
returns c = λ old new asked why served. refused-stays old new asked why served
