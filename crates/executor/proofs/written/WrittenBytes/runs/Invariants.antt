use Rattle.std.proofs.Common.{◌*◌, ◌^◌}
use Rattle.executor.specs.inner.Pages.{byte_at}
use Rattle.executor.specs.inner.Told.{Told}
use Rattle.executor.proofs.ChunkLemmas.{floor_of}
use Rattle.executor.proofs.written.WrittenBytes.runs.Given as goal

abbrev pub invariant-loop-index : goal.invariant-loop-index
invariant-loop-index l = Told (byte_at l.self) (floor_of 0 l.self l.index * 2 ^ 13) l.runs.items
