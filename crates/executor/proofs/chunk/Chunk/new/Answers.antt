use Rattle.std.proofs.Common.{refl, ap, ◌++◌, ◌∷◌, [], ◌∙◌}
use Rattle.executor.proofs.ChunkLemmas.{chunk_empty}
use Rattle.executor.proofs.chunk.Chunk.new.Goals as goal

pub invariant_of-result : goal.invariant_of-result
invariant_of-result c =
    chunk_empty c.args.number _ _ c.new.result c.push.new.self.items refl refl refl
    (c.in_ok-push.ensures.items ∙ ap (λ ps. ps ++ c.new.result ∷ []) c.in_ok-pages.ensures.items) c.new.ensures
