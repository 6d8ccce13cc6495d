use Rattle.core_model.proofs.Entered.{grant-effects}
use Rattle.core_model.proofs.Launching.{legal-at}
use Rattle.core_model.proofs.laws.law_each_grant_is_allowed.Goals as goal

pub returns : goal.returns
returns c = λ start entries before client on rights told effects legal place.
    let made = grant-effects start before told effects client on rights (legal-at start entries before _ legal place).1 in
    (made.1, made.0.effects_are)
