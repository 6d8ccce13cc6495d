use Rattle.kernel_check.specs.Programs.{IsSound}
use Rattle.executor.proofs.RightRuns.{at_place, runs_right}
use Rattle.executor.proofs.laws.law_checked_kernels_run_right.Goals as goal

pub returns : goal.returns
returns c = λ index input is.
    runs_right input (at_place IsSound c.args.checked.now index input.program c.law_are_sound.ensures.sound is)
