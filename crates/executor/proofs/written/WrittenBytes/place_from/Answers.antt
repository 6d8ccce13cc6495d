use Rattle.std.proofs.Common.{◌≡◌, ltb, ◌∙◌, subst, sym, rules, of_calls}
use Rattle.std.proofs.lemmas.List.Sorted.{IsPartitionPoint-from_clause, IsPartitionedBy-ltb}
use Rattle.executor.specs.inner.Pages.{ChunkSeen, Parts, Rises}
use Rattle.executor.proofs.ChunkLemmas.{numbers_rise, parts_of}
use Rattle.executor.proofs.written.WrittenBytes.place_from.Goals as goal

pub returns : goal.returns
returns c =
    let chunks = c.as_slice.result.now in
    let same : chunks ≡ c.self.inside.chunks.items = c.as_slice.ensures.value in
    let rise : Rises 0 c.self.inside.end chunks = subst (λ xs. Rises 0 c.self.inside.end xs) (sym same) c.self.invariant.rises in
    let parted = IsPartitionedBy-ltb (λ (chunk : ChunkSeen). chunk.number) chunks c.args.number (numbers_rise 0 c.self.inside.end chunks rise) in
    let point = IsPartitionPoint-from_clause (λ (chunk : ChunkSeen). ltb chunk.number c.args.number) _ _ c.partition_point.ensures.partitioned parted (λ a r q k. search (rules, of_calls)) in
    subst (λ xs. Parts xs c.args.number c.partition_point.result) (same ∙ c.self.view_is) (parts_of chunks c.args.number c.partition_point.result c.partition_point.ensures.bound point)
