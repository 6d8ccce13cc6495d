use Rattle.executor.proofs.ChunkLemmas.{chunk_own, chunk_whole}
use Rattle.executor.proofs.chunk.Chunk.read_whole.Goals as goal

pub returns-in-Some-clause-number : goal.returns-in-Some-clause-number
returns-in-Some-clause-number c =
    chunk_whole c.args.self.now _ c.self.view_is c.self.invariant c.args.place c.index.result.now c.index.ensures c.args.size c.in-Some.number c.in-Some.ensures.page
    c.in-Some.ensures.number

pub returns-in-Some-clause-own : goal.returns-in-Some-clause-own
returns-in-Some-clause-own c =
    chunk_own c.args.self.now _ c.self.view_is c.self.invariant c.args.place c.index.result.now c.index.ensures c.in-Some.ensures.written
