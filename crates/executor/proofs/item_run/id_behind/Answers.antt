use Rattle.std.proofs.Common.{◌≡◌, ◌+◌, arith}
use Rattle.executor.proofs.PlaceLemmas.{along_x, along_y, along_z}
use Rattle.executor.proofs.item_run.id_behind.Goals as goal

pub returns-then-x-sizes : goal.returns-then-x-sizes
returns-then-x-sizes c = λ n is. along_x c.args.sizes.now n c.args.id.now is (omega (arith, c.if-x-sizes.true))

pub returns-then-y-sizes : goal.returns-then-y-sizes
returns-then-y-sizes c = λ n is.
    along_y c.args.sizes.now n c.args.id.now is (omega (arith, c.requires.x, c.if-x-sizes.false)) (omega (arith, c.if-y-sizes.true))

pub returns : goal.returns
returns c = λ n is.
    along_z c.args.sizes.now n c.args.id.now is (omega (arith, c.requires.x, c.if-x-sizes.false)) (omega (arith, c.requires.y, c.if-y-sizes.false))
