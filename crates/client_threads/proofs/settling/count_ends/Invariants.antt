use Rattle.std.proofs.Common.{◌≡◌, ◌+◌, ◌≤◌, length, drop}
use Rattle.client_threads.specs.Settling.{passes_of}
use Rattle.client_threads.proofs.settling.count_ends.Given as goal

abbrev pub invariant-loop-end : goal.invariant-loop-end
invariant-loop-end l = (l.count + length (passes_of l.queue.0 (drop l.end-index l.ends)) ≡ length (passes_of l.queue.0 l.ends)) × (l.count ≤ l.end-index)
