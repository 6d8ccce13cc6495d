use Rattle.kernel_check.proofs.WordLemmas.{comes_to}
use Rattle.kernel_check.proofs.laws.law_steps_do_what_words_say.Goals as goal

pub returns : goal.returns
returns c = comes_to
