use Rattle.session.proofs.Absent.{all_gone}
use Rattle.session.proofs.laws.law_a_gone_session_stays_gone.Goals as goal

pub returns : goal.returns
returns c = λ s calls session given absent. (all_gone s calls session (record { given = given; absent = absent })).absent
