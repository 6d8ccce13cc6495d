use Rattle.client_threads.proofs.OwnEntries.{turn_enters_own}
use Rattle.client_threads.proofs.laws.law_turns_enter_their_own.Goals as goal

pub returns : goal.returns
returns c = turn_enters_own
