use Rattle.std.proofs.Common.{take, arith}
use Rattle.std.specs.Int.{w64, to_le_bytes}
use Rattle.executor.proofs.ChunkLemmas.{written_over, written_whole}
use Rattle.executor.proofs.WordLemmas.{length_low}
use Rattle.executor.proofs.written.WrittenBytes.overwrite_at_hand.Goals as goal

pub invariant_of-self : goal.invariant_of-self
invariant_of-self c =
    written_whole c.args.self.now _ c.self.view_is _ _ _ _ c.self.invariant c.args.address c.in-Some.chunk c.index_mut.result.now c.in-Some.ensures c.index_mut.ensures.value
    c.overwrite.new.self c.overwrite.ensures.number

pub returns-in-Some : goal.returns-in-Some
returns-in-Some c =
    written_over c.args.self.now _ c.self.view_is _ _ _ _ c.self.invariant c.args.address c.in-Some.chunk c.index_mut.result.now c.in-Some.ensures c.index_mut.ensures.value
    c.overwrite.new.self c.overwrite.ensures.number (take c.args.size (to_le_bytes w64 c.args.value)) c.overwrite.result
    (omega (arith, length_low c.args.size c.args.value c.requires.few, c.requires.page)) c.overwrite.ensures.bytes
