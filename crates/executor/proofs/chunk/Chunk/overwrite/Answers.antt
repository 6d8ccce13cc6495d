use Rattle.std.proofs.Common.{◌<◌, ◌/◌, get_or, take, arith, rules}
use Rattle.std.specs.Int.{w64, to_le_bytes}
use Rattle.executor.proofs.ChunkLemmas.{chunk_laid}
use Rattle.executor.proofs.WordLemmas.{length_low}
use Rattle.executor.proofs.chunk.Chunk.overwrite.Goals as goal

pub returns-clause-bytes : goal.returns-clause-bytes
returns-clause-bytes c =
    let own : 0 < get_or c.self.inside.places (c.args.place / 64) 0 = search rules in
    chunk_laid c.args.self.now _ c.self.view_is c.self.invariant c.args.place c.index_mut.result.now c.index_mut.ensures.value c.write.new.self own
    (take c.args.size (to_le_bytes w64 c.args.value)) (omega (arith, length_low c.args.size c.args.value c.requires.few, c.requires.page)) c.write.ensures
