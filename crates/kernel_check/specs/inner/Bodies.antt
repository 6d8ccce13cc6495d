-- What the code keeps of a kernel's items (own).
use Rattle.kernel_check.specs.declared.body.Body.{Body}
use Rattle.kernel_check.specs.Checks.{Worked}

abbrev pub body_worked : Body → Worked
body_worked body = record { steps = body.steps.items; group_bytes = body.group_bytes }
