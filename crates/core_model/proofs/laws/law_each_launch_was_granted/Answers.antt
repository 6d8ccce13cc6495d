use Rattle.core_model.proofs.Launching.{legal-at, launch-granted}
use Rattle.core_model.proofs.laws.law_each_launch_was_granted.Goals as goal

pub returns : goal.returns
returns c = λ start entries before queue id bytes effects legal place.
    let granted = launch-granted start before queue id bytes effects (legal-at start entries before _ legal place).1 in
    (granted.opening, granted.packet, granted.allowed, granted.effects_are)
