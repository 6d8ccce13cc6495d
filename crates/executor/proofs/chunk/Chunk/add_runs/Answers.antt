use Rattle.std.proofs.Common.{◌≡◌, ◌+◌, ◌*◌, ◌^◌, subst, arith}
use Rattle.executor.specs.inner.Pages.{chunk_byte}
use Rattle.executor.specs.inner.Told.{Gathers}
use Rattle.executor.proofs.ChunkLemmas.{pages_more, pages_skipped}
use Rattle.executor.proofs.RunLemmas.{gathers_none}
use Rattle.executor.proofs.chunk.Chunk.add_runs.Goals as goal

pub loop-index-init : goal.loop-index-init
loop-index-init c =
    let runs = c.args.runs.now.items in
    let first = c.next_from-index.ensures in (
      first.ends,
      pages_skipped c.args.self.now _ c.self.view_is c.self.invariant c.args.base 0 c.next_from-index.result runs runs (omega arith) first.ends first.none
          (gathers_none c.args.base (2 ^ 13) (chunk_byte c.args.self.now) runs),
    )

pub loop-index-preserved : goal.loop-index-preserved
loop-index-preserved c =
    let next = c.next_from-index-in-loop-index.ensures in
    let runs = c.args.runs.now.items in (
      next.ends,
      pages_skipped c.args.self.now _ c.self.view_is c.self.invariant c.args.base (c.loop-index.index + 1) c.next_from-index-in-loop-index.result runs c.add_runs.new.runs.items next.begins next.ends next.none
          (pages_more c.args.self.now _ c.self.view_is c.self.invariant c.args.base c.loop-index.index c.index.result.now runs c.loop-index.runs.items c.add_runs.new.runs.items
          c.index.ensures c.loop-index-test.true c.loop-index.invariant.1 c.in_ok-add_runs.ensures),
    )

pub returns : goal.returns
returns c =
    let all : c.loop-index.index * 64 ≡ 2 ^ 13 = omega (arith, c.loop-index-test.false, c.loop-index.invariant.0) in
    subst (λ n. Gathers c.args.base (2 ^ 13) (chunk_byte c.args.self.now) n c.args.runs.now.items c.loop-index.runs.items) all c.loop-index.invariant.1
