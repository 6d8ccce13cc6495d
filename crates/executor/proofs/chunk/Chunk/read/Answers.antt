use Rattle.executor.proofs.ChunkLemmas.{chunk_read}
use Rattle.executor.proofs.chunk.Chunk.read.Goals as goal

pub returns : goal.returns
returns c =
    chunk_read c.args.self.now _ c.self.view_is c.self.invariant c.args.place c.index.result.now c.index.ensures
    c.args.below.now c.read.result c.requires.page c.read.ensures
