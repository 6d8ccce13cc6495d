use Rattle.client_threads.proofs.Places.{entered_there, stands_within, state_before, state_behind}
use Rattle.client_threads.proofs.laws.law_sections_keep_their_places.Goals as goal

pub returns-clause-states : goal.returns-clause-states
returns-clause-states c = λ opened before core left begins. (state_before opened before core left begins, state_behind opened before core left begins, stands_within opened before core left begins)

pub returns-clause-entered : goal.returns-clause-entered
returns-clause-entered c = entered_there
