use Rattle.executor.proofs.ChunkLemmas.{chunk_stored}
use Rattle.executor.proofs.chunk.Chunk.store.Goals as goal

pub returns-clause-ok : goal.returns-clause-ok
returns-clause-ok c =
    chunk_stored c.page_made.new.self _ c.self.view_is c.self.invariant c.args.place c.in_ok-page.page c.in_ok-page.ensures.place c.in_ok-page.ensures.own
    c.store.new.self c.args.self.now c.in_ok-page.ensures.bytes c.index_mut.result.now c.index_mut.ensures.value
    c.args.bytes.now c.requires.page c.store.ensures
