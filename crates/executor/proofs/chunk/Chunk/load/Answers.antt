use Rattle.executor.proofs.ChunkLemmas.{chunk_loaded}
use Rattle.executor.proofs.chunk.Chunk.load.Goals as goal

pub returns : goal.returns
returns c =
    chunk_loaded c.args.self.now _ c.self.view_is c.self.invariant c.args.place c.index.result.now c.index.ensures
    c.args.buffer.now c.load.new.buffer c.requires.page c.load.ensures
