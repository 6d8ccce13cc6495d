use Rattle.executor.proofs.TurnFootprints.{touches_as_named}
use Rattle.executor.proofs.laws.law_turns_touch_what_their_steps_name.Goals as goal

pub returns : goal.returns
returns c = touches_as_named
