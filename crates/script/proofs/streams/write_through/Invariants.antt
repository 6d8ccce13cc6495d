-- So many bytes are taken, and the writer holds them.
use Rattle.std.proofs.Common.{◌≡◌, ◌≤◌, length, take}
use Rattle.std.specs.Io.KnownBytes.{Appends}
use Rattle.script.proofs.streams.write_through.Given as goal

abbrev pub invariant-loop : goal.invariant-loop
invariant-loop g l =
    (l.taken ≤ length l.bytes)
    × Appends (g.W.Sink.contents l.initial.writer) (g.W.Sink.contents l.writer) (take l.taken l.bytes)
    × (g.W.Sink.failed l.writer ≡ g.W.Sink.failed l.initial.writer)
