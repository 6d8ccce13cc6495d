use Rattle.std.proofs.Common.{refl, take, arith}
use Rattle.std.specs.Int.{w64, to_le_bytes}
use Rattle.executor.proofs.ChunkLemmas.{chunk_stored}
use Rattle.executor.proofs.WordLemmas.{length_low}
use Rattle.executor.proofs.chunk.Chunk.overwrite_at.Goals as goal

pub returns-clause-bytes : goal.returns-clause-bytes
returns-clause-bytes c =
    chunk_stored c.args.self.now _ c.self.view_is c.self.invariant c.args.place c.args.page c.requires.stands c.requires.own
    c.write.new.self c.args.self.now (λ x. refl) c.index_mut.result.now c.index_mut.ensures.value
    (take c.args.size (to_le_bytes w64 c.args.value)) (omega (arith, length_low c.args.size c.args.value c.requires.few, c.requires.page)) c.write.ensures
