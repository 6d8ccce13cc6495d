-- A run is requests in turn, however it ends.
use Rattle.uses.proofs.whole_run.run.Goals as goal

pub returns : goal.returns
returns g c = c.law_scripts_are_requests.ensures.run _ _ _ _ _ _ _ _ c.run_script-ended.ensures.outcome
