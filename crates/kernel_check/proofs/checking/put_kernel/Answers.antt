use Rattle.kernel_check.specs.Checks.{body_checks, program_of}
use Rattle.kernel_check.specs.Faults.{first_fault}
use Rattle.kernel_check.proofs.FlatLemmas.{sound_as_well}
use Rattle.kernel_check.proofs.checking.put_kernel.Goals as goal

pub returns-clause-sound : goal.returns-clause-sound
returns-clause-sound c =
    sound_as_well c.in_ok-program.program (program_of c.args.kernel.now) (first_fault (body_checks c.args.kernel.now)) c.in_ok-program.ensures
    c.law_is_sound.ensures
