use Rattle.std.proofs.Common.{◌≡◌, ◌≤◌, [], ◌++◌, drop}
use Rattle.kernel_check.specs.Checks.{argument_checks}
use Rattle.kernel_check.specs.Faults.{first_fault}
use Rattle.kernel_check.specs.Layout.{placed_from, end_from, wide_from}
use Rattle.kernel_check.proofs.kernarg.place_arguments.Given as goal

abbrev pub invariant-arguments : goal.invariant-arguments
invariant-arguments l = record {
  faults : first_fault (argument_checks l.names l.end (drop l.argument-index l.arguments)) ≡ first_fault (argument_checks [] 0 l.arguments);
  names : l.names ++ placed_from l.end (drop l.argument-index l.arguments) ≡ placed_from 0 l.arguments;
  wide : l.offsets.items ++ wide_from l.end (drop l.argument-index l.arguments) ≡ wide_from 0 l.arguments;
  end : end_from l.end (drop l.argument-index l.arguments) ≡ end_from 0 l.arguments;
  bound : l.end ≤ 4096;
}
