use Rattle.std.proofs.Common.{◌≡◌, ℕ, slice_set}
use Rattle.executor.specs.inner.Pages.{byte_at}
use Rattle.executor.proofs.ChunkLemmas.{written_stays, written_stored, written_whole}
use Rattle.executor.proofs.Maps.{always_err}
use Rattle.executor.proofs.written.WrittenBytes.store_in_page.Goals as goal

pub invariant_of-self : goal.invariant_of-self
invariant_of-self c =
    written_whole c.chunk_made.new.self _ c.self.view_is _ _ _ _ c.self.invariant c.args.address c.in_ok-chunk.chunk c.index_mut.result.now c.in_ok-chunk.ensures.place c.index_mut.ensures.value
    c.store.new.self c.store.ensures.number

pub returns-in_err-store-clause-err : goal.returns-in_err-store-clause-err
returns-in_err-store-clause-err c =
    always_err c.from_residual-in_err-store.result ((x : ℕ) → byte_at (slice_set c.self.inside.chunks.items c.in_ok-chunk.chunk c.store.new.self) x ≡ byte_at c.args.self.now x)
    (written_stays c.chunk_made.new.self _ c.args.self.now c.self.view_is c.in_ok-chunk.ensures.bytes _ _ _ _ c.self.invariant c.args.address c.in_ok-chunk.chunk c.in_ok-chunk.ensures.place
    c.index_mut.result.now c.store.new.self c.index_mut.ensures.value c.store.ensures.number c.in_err-store.ensures.err)

pub invariant_of-self-2 : goal.invariant_of-self-2
invariant_of-self-2 c =
    written_whole c.chunk_made.new.self _ c.self.view_is _ _ _ _ c.self.invariant c.args.address c.in_ok-chunk.chunk c.index_mut.result.now c.in_ok-chunk.ensures.place c.index_mut.ensures.value
    c.store.new.self c.store.ensures.number

pub returns-clause-ok : goal.returns-clause-ok
returns-clause-ok c =
    written_stored c.chunk_made.new.self _ c.args.self.now c.self.view_is c.in_ok-chunk.ensures.bytes _ _ _ _ c.self.invariant c.args.address c.in_ok-chunk.chunk c.in_ok-chunk.ensures.place
    c.index_mut.result.now c.store.new.self c.index_mut.ensures.value c.store.ensures.number c.args.bytes.now c.requires c.in_ok-store.ensures.ok
