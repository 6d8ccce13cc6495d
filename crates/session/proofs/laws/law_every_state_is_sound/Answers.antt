use Rattle.session.proofs.Steady.{all_sound, starting_sound}
use Rattle.session.proofs.laws.law_every_state_is_sound.Goals as goal

pub returns : goal.returns
returns c = λ limits users places calls. all_sound _ calls (starting_sound limits users places)
