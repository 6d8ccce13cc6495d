use Rattle.world.proofs.Closed.{closed_since}
use Rattle.world.proofs.laws.law_closed_rings_were_in_step.Goals as goal

pub returns : goal.returns
returns c = λ first prior queue ring told requests replies old mid new h found is are.
    closed_since first prior old h queue ring found told mid is requests replies new are
