-- The names so far are written.
use Rattle.std.proofs.Common.{string_bytes}
use Rattle.policy.specs.Rights.{has, all_rights}
use Rattle.policy.specs.RightNames.{name_of_right}
use Rattle.script.proofs.Commas.{IsListed}
use Rattle.script.proofs.rights.write_rights.Given as goal

abbrev pub invariant-loop-right : goal.invariant-loop-right
invariant-loop-right l = IsListed (has l.rights) name_of_right all_rights l.right-index (string_bytes l.fn.out) (string_bytes l.out) l.any
