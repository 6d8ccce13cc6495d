use Rattle.std.proofs.Common.{◌≡◌}
use Rattle.executor.specs.inner.Pages.{page_byte}
use Rattle.executor.proofs.Maps.{seen_part}
use Rattle.executor.proofs.page.Page.load.Given as goal

abbrev pub invariant-loop-index : goal.invariant-loop-index
invariant-loop-index l = l.buffer ≡ seen_part (page_byte l.self) l.place l.index l.fn.buffer
