use Rattle.std.proofs.Common.{arith}
use Rattle.executor.proofs.ChunkLemmas.{written_number, written_page}
use Rattle.executor.proofs.written.WrittenBytes.read_whole.Goals as goal

pub returns-in-Some-read_whole-clause-number : goal.returns-in-Some-read_whole-clause-number
returns-in-Some-read_whole-clause-number c =
    written_number c.args.self.now _ c.self.view_is _ _ _ _ c.self.invariant c.args.address c.in-Some.chunk c.index.result.now c.in-Some.ensures c.index.ensures
    c.args.size c.in-Some-read_whole.whole.number (omega (arith, c.in-Some-read_whole.ensures.fits)) c.in-Some-read_whole.ensures.number

pub returns-in-Some-read_whole-clause-place : goal.returns-in-Some-read_whole-clause-place
returns-in-Some-read_whole-clause-place c =
    written_page c.args.self.now _ c.self.view_is _ _ _ _ c.self.invariant c.args.address c.in-Some.chunk c.index.result.now c.in-Some.ensures c.index.ensures
    c.in-Some-read_whole.whole.page c.in-Some-read_whole.ensures.page c.in-Some-read_whole.ensures.own
