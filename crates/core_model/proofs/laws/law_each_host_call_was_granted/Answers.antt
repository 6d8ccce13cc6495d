use Rattle.core_model.proofs.Entered.{write-entered, change-entered}
use Rattle.core_model.proofs.Launching.{legal-at}
use Rattle.core_model.proofs.laws.law_each_host_call_was_granted.Goals as goal

pub returns-clause-write : goal.returns-clause-write
returns-clause-write c = λ start entries before client address bytes told effects legal place.
    let made = write-entered start before told effects client address bytes (legal-at start entries before _ legal place).1 in
    (record { lies_whole = made.whole; granted = made.granted }, made.effects_are, made.outcome_is)

pub returns-clause-change : goal.returns-clause-change
returns-clause-change c = λ start entries before client signal operation told effects legal place.
    let made = change-entered start before told effects client signal operation (legal-at start entries before _ legal place).1 in
    (made.granted, made.old, made.was, made.effects_are, made.outcome_is)
