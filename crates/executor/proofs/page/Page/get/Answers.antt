use Rattle.std.proofs.Common.{arith}
use Rattle.executor.proofs.Maps.{page_read}
use Rattle.executor.proofs.page.Page.get.Goals as goal

pub returns-then-self-place-eq1 : goal.returns-then-self-place-eq1
returns-then-self-place-eq1 c = page_read c.args.self.now c.args.place c.if-self-place-eq1.true (omega arith)
