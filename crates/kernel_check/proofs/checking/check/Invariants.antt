use Rattle.std.proofs.Common.{◌≡◌, ◌≤◌, [], ◌++◌, drop, length, map}
use Rattle.kernel_check.specs.Checks.{module_checks, program_of}
use Rattle.std.specs.List.{All}
use Rattle.kernel_check.specs.Faults.{first_fault}
use Rattle.kernel_check.specs.Programs.{IsSound}
use Rattle.kernel_check.proofs.checking.check.Given as goal

abbrev pub invariant-kernels : goal.invariant-kernels
invariant-kernels l = record {
  faults : first_fault (module_checks l.before (drop l.kernel-index l.kernel-items)) ≡ first_fault (module_checks [] l.kernel-items);
  programs : l.programs.items ++ map program_of (drop l.kernel-index l.kernel-items) ≡ map program_of l.kernel-items;
  same : length l.before ≡ length l.programs.items;
  room : length l.programs.items ≤ 64;
  sound : All IsSound l.programs.items;
}
