use Rattle.std.proofs.Common.{◌≡◌, ◌*◌, ◌^◌, ◌<◌, sym, subst, ap, length, arith}
use Rattle.executor.specs.inner.Pages.{byte_at}
use Rattle.executor.specs.Written.{AreRuns}
use Rattle.executor.specs.Told.{runs_of}
use Rattle.executor.specs.inner.Told.{Told}
use Rattle.executor.proofs.ChunkLemmas.{floor_of, all_told, all_value, number_few, told_begun, told_more}
use Rattle.executor.proofs.OnlyRuns.{only_runs}
use Rattle.executor.proofs.written.WrittenBytes.runs.Goals as goal
use Rattle.executor.proofs.written.WrittenBytes.runs.Goals.{After-from_vec}

pub loop-index-init : goal.loop-index-init
loop-index-init c =
    subst (λ rs. Told (byte_at c.args.self.now) (floor_of 0 c.args.self.now 0 * 2 ^ 13) rs) (sym c.new-runs.ensures.items) (told_begun c.args.self.now)

pub overflow_mul-number : goal.overflow_mul-number
overflow_mul-number c =
    let few : c.index-chunk.result.now.number < 2 ^ 51 =
    number_few c.args.self.now _ c.self.view_is _ _ _ _ c.self.invariant c.loop-index.index c.index-chunk.result.now (omega (arith, ap length c.self.view_is)) c.index-chunk.ensures in
    omega (arith, few, c.number.ensures)

pub add_runs-requires : goal.add_runs-requires
add_runs-requires c =
    let few : c.index-chunk.result.now.number < 2 ^ 51 =
    number_few c.args.self.now _ c.self.view_is _ _ _ _ c.self.invariant c.loop-index.index c.index-chunk.result.now (omega (arith, ap length c.self.view_is)) c.index-chunk.ensures in
    omega (arith, few, c.number.ensures)

pub loop-index-preserved : goal.loop-index-preserved
loop-index-preserved c =
    told_more c.args.self.now _ c.self.view_is _ _ _ _ c.self.invariant c.loop-index.index c.index-chunk.result.now (omega (arith, ap length c.self.view_is)) c.index-chunk.ensures
    c.number.result c.loop-index.runs.items c.add_runs.new.runs.items c.number.ensures c.loop-index.invariant c.in_ok-add_runs.ensures

gathered : (c : After-from_vec) → AreRuns (byte_at c.args.self.now) c.from_vec.result
gathered c =
    subst (λ rs. AreRuns (byte_at c.args.self.now) rs) (sym c.from_vec.ensures)
    (all_told c.args.self.now _ c.self.view_is _ _ _ _ c.self.invariant c.loop-index.index c.loop-index.runs.items (omega (arith, ap length c.self.view_is)) c.loop-index.invariant)

pub returns-clause-runs : goal.returns-clause-runs
returns-clause-runs c = gathered c

pub returns-clause-only : goal.returns-clause-only
returns-clause-only c = λ others are. only_runs (byte_at c.args.self.now) others c.from_vec.result are (gathered c)

pub returns-clause-value : goal.returns-clause-value
returns-clause-value c =
    subst (λ rs. rs ≡ runs_of (byte_at c.args.self.now)) (sym c.from_vec.ensures)
    (all_value c.args.self.now _ c.self.view_is _ _ _ _ c.self.invariant c.loop-index.index c.loop-index.runs.items (omega (arith, ap length c.self.view_is)) c.loop-index.invariant)
