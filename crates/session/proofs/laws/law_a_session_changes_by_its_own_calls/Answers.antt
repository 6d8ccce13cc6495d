use Rattle.session.proofs.Untouched.{all_untouched}
use Rattle.session.proofs.laws.law_a_session_changes_by_its_own_calls.Goals as goal

pub returns : goal.returns
returns c = all_untouched
