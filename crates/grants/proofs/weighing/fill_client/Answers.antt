-- The places of the four kinds are all of the client's.
use Rattle.std.proofs.Common.{◌≡◌, ◌+◌, ◌*◌, subst, arith}
use Rattle.grants.proofs.Terms.{boxed_slice_items, object_count}
use Rattle.grants.specs.inner.Weighing.{IsFilled}
use Rattle.grants.proofs.weighing.fill_client.Goals as goal

pub returns-clause-filled : goal.returns-clause-filled
returns-clause-filled c = λ rows granted denied so_far.
    let grid = c.args.rules.now in
    let row = c.args.before * object_count grid in
    let none : row ≡ row + 0 = omega arith in
    let agents : row + (0 + grid.agents) ≡ row + grid.agents = omega arith in
    let whole : row + (grid.agents + grid.regions + grid.signals + grid.kernels) ≡ (c.args.before + 1) * object_count grid = omega arith in
    subst (λ n. IsFilled grid rows n (boxed_slice_items c.fill_kind-4.new.allowed)) whole
    (c.fill_kind-4.ensures.filled rows granted denied (c.fill_kind-3.ensures.filled rows granted denied (c.fill_kind-2.ensures.filled rows granted denied
    (subst (λ n. IsFilled grid rows n (boxed_slice_items c.fill_kind.new.allowed)) agents (c.fill_kind.ensures.filled rows granted denied
    (subst (λ n. IsFilled grid rows n (boxed_slice_items c.args.allowed.now)) none so_far))))))
