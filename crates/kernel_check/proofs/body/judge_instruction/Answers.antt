use Rattle.kernel_check.specs.Names.{find}
use Rattle.kernel_check.proofs.ClassLemmas.{has_its_classes}
use Rattle.kernel_check.proofs.body.judge_instruction.Goals as goal

pub returns-in_ok-push-in-None-clause-classes : goal.returns-in_ok-push-in-None-clause-classes
returns-in_ok-push-in-None-clause-classes c =
    has_its_classes (find c.args.variables.now) (find c.args.labels.now) c.args.instruction.now.operation c.operations_are_of_rows.ensures
