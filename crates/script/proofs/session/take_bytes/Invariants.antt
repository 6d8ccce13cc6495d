-- What stands before the bytes that are left was taken.
use Rattle.std.proofs.Common.{length}
use Rattle.script.specs.Runs.{law}
use Rattle.script.proofs.Running.{TookFront}
use Rattle.script.proofs.session.take_bytes.Given as goal

abbrev pub invariant-loop-line : goal.invariant-loop-line
invariant-loop-line g l =
    TookFront (law g.L.Style.answering g.V.Watch.watching l.later)
    l.initial.world l.world l.initial.session l.session l.bytes l.rest

abbrev pub decreases-loop-line : goal.decreases-loop-line
decreases-loop-line g l = length l.rest
