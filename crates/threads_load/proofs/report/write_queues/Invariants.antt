-- The lines of the queues so far, with those of the queues that are left, are all.
use Rattle.std.proofs.Common.{◌≡◌, ◌++◌, string_bytes, drop}
use Rattle.threads_load.specs.Reports.{text_of_lines}
use Rattle.threads_load.proofs.report.write_queues.Given as goal

abbrev pub invariant-loop-planned : goal.invariant-loop-planned
invariant-loop-planned l =
    (l.place ≡ l.planned-index)
    × (string_bytes l.out ++ text_of_lines l.policy l.counts l.place (drop l.planned-index l.plan) ≡ string_bytes l.fn.out ++ text_of_lines l.policy l.counts 0 l.plan)
