-- What stands before the bytes that are left was taken, and its replies handed over.
use Rattle.std.proofs.Common.{◌≡◌, length}
use Rattle.script.specs.Runs.{law}
use Rattle.script.proofs.Blocks.{BlockFront}
use Rattle.script.proofs.run.take_block.Given as goal

abbrev pub invariant-loop-rest : goal.invariant-loop-rest
invariant-loop-rest g l =
    BlockFront (law g.L.Style.answering g.V.Watch.watching l.later)
    l.initial.world l.world (g.W.Sink.contents l.initial.writer) (g.W.Sink.contents l.writer) l.initial.session l.session l.bytes l.rest
    × (g.W.Sink.failed l.writer ≡ g.W.Sink.failed l.initial.writer)

abbrev pub decreases-loop-rest : goal.decreases-loop-rest
decreases-loop-rest g l = length l.rest
