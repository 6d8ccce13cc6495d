-- The lines that ended in what was read are done, and no reply waits.
use Rattle.std.proofs.Common.{◌≡◌, ◌+◌, ◌*◌, ◌≤◌, ◌^◌, []}
use Rattle.script.specs.Runs.{law}
use Rattle.script.specs.Sessions.{pending}
use Rattle.script.proofs.Blocks.{Going}
use Rattle.script.proofs.run.run_watched.Given as goal

abbrev pub invariant-loop : goal.invariant-loop
invariant-loop g l =
    Going (law g.L.Style.answering g.V.Watch.watching l.later)
    l.initial.world l.world (g.W.Sink.contents l.initial.writer) (g.W.Sink.contents l.writer)
    (g.R.Source.remaining l.initial.reader) (g.R.Source.remaining l.reader) l.session
    × (pending l.session ≡ [])
    × (l.session.number ≤ 4096 * l.counter + 1)
    × (l.counter ≤ 2 ^ 40)
    × (g.R.Source.failed l.reader ≡ g.R.Source.failed l.initial.reader)
    × (g.W.Sink.failed l.writer ≡ g.W.Sink.failed l.initial.writer)
