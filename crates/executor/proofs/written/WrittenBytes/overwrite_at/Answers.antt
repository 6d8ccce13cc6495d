use Rattle.std.proofs.Common.{true, take, arith}
use Rattle.std.specs.Int.{w64, to_le_bytes}
use Rattle.executor.proofs.ChunkLemmas.{page_found, written_over, written_whole}
use Rattle.executor.proofs.WordLemmas.{length_low}
use Rattle.executor.proofs.written.WrittenBytes.overwrite_at.Goals as goal

pub invariant_of-self : goal.invariant_of-self
invariant_of-self c =
    written_whole c.args.self.now _ c.self.view_is _ _ _ _ c.self.invariant c.args.address c.args.chunk c.index_mut.result.now c.requires.place.stands c.index_mut.ensures.value
    c.overwrite_at.new.self c.overwrite_at.ensures.number

pub returns : goal.returns
returns c =
    written_over c.args.self.now _ c.self.view_is _ _ _ _ c.self.invariant c.args.address c.args.chunk c.index_mut.result.now c.requires.place.stands c.index_mut.ensures.value
    c.overwrite_at.new.self c.overwrite_at.ensures.number (take c.args.size (to_le_bytes w64 c.args.value)) true
    (omega (arith, length_low c.args.size c.args.value c.requires.few, c.requires.page)) c.overwrite_at.ensures.bytes

pub overwrite_at-requires-clause-stands : goal.overwrite_at-requires-clause-stands
overwrite_at-requires-clause-stands c =
    page_found c.args.self.now _ c.self.view_is _ _ _ _ c.self.invariant c.args.address c.args.chunk c.index_mut.result.now c.requires.place.stands c.index_mut.ensures.value
    c.args.page c.requires.place
