use Rattle.script.proofs.Reaching.{ends_reach, runs_reach}
use Rattle.script.proofs.laws.watched_runs_are_requests.Goals as goal

pub returns-clause-runs : goal.returns-clause-runs
returns-clause-runs g c = λ later old lines text new ran. runs_reach g.S.Voice.tells g.V.Watch.watching later old new lines text ran

pub returns-clause-ends : goal.returns-clause-ends
returns-clause-ends g c = λ later old line last new ended. ends_reach g.S.Voice.tells g.V.Watch.watching later old new line last ended
