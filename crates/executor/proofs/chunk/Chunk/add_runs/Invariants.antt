use Rattle.std.proofs.Common.{◌*◌, ◌^◌, ◌-◌, ◌≤◌}
use Rattle.executor.specs.inner.Pages.{chunk_byte}
use Rattle.executor.specs.inner.Told.{Gathers}
use Rattle.executor.proofs.chunk.Chunk.add_runs.Given as goal

abbrev pub invariant-loop-index : goal.invariant-loop-index
invariant-loop-index l = (l.index ≤ 128) × Gathers l.base (2 ^ 13) (chunk_byte l.self) (l.index * 64) l.fn.runs.items l.runs.items

abbrev pub decreases-loop-index : goal.decreases-loop-index
decreases-loop-index l = 128 - l.index
