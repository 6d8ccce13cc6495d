use Rattle.std.proofs.Common.{◌≡◌, get_or, length, arith, rules}
use Rattle.executor.proofs.ChunkLemmas.{chunk_made}
use Rattle.executor.proofs.chunk.Chunk.page_made.Goals as goal

pub invariant_of-self-2 : goal.invariant_of-self-2
invariant_of-self-2 c =
    let unknown : get_or c.self.inside.places c.args.index 0 ≡ 0 = search rules in
    let count : c.len-page.result ≡ length c.self.inside.pages.items = omega (arith, c.len-page.ensures, c.self.inside.pages.ok.0) in
    chunk_made _ c.self.invariant c.args.index c.new.result c.requires unknown c.new.ensures _ _ count c.in_ok-push.ensures.items
