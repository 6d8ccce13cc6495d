-- The lines of the regions so far stand behind the rest.
use Rattle.std.proofs.Common.{◌≡◌, ◌++◌, string_bytes, flat_map}
use Rattle.std.specs.List.{range_with_len}
use Rattle.core_model.specs.History.{beginning}
use Rattle.threads_load.specs.Reports.{text_of_used}
use Rattle.threads_load.proofs.report.write_regions.Given as goal

abbrev pub invariant-loop-before : goal.invariant-loop-before
invariant-loop-before l =
    string_bytes l.out ≡ string_bytes l.fn.out ++ flat_map (text_of_used (beginning l.core.history) l.core.history.entries l.plan) (range_with_len 1 l.before)
