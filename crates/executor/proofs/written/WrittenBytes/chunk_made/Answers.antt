use Rattle.executor.proofs.ChunkLemmas.{made_bytes, made_kept, made_stands}
use Rattle.executor.proofs.written.WrittenBytes.chunk_made.Goals as goal

pub invariant_of-self-2 : goal.invariant_of-self-2
invariant_of-self-2 c =
    made_kept c.args.self.now _ c.self.view_is _ _ _ _ c.args.number c.place_from-place.result c.in_ok-chunk.chunk c.self.invariant c.requires c.place_from-place.ensures c.in_default.ensures
    c.in_ok-chunk.ensures.number _ c.in_ok-insert.ensures.items _ _ c.min-self-inside.ensures c.max-self-inside.ensures

pub returns-clause-bytes : goal.returns-clause-bytes
returns-clause-bytes c =
    made_bytes c.args.self.now _ c.self.view_is _ _ _ _ c.args.number c.place_from-place.result c.in_ok-chunk.chunk c.self.invariant c.requires c.place_from-place.ensures c.in_default.ensures
    c.in_ok-chunk.ensures.number _ c.in_ok-insert.ensures.items c.in_ok-chunk.ensures.bytes

pub returns-clause-place : goal.returns-clause-place
returns-clause-place c =
    made_stands c.args.self.now _ c.self.view_is _ _ _ _ c.args.number c.place_from-place.result c.in_ok-chunk.chunk c.self.invariant c.requires c.place_from-place.ensures c.in_default.ensures
    c.in_ok-chunk.ensures.number _ c.in_ok-insert.ensures.items
