use Rattle.std.proofs.Common.{◌-◌, ◌≤◌}
use Rattle.executor.specs.inner.Pages.{page_byte}
use Rattle.executor.specs.inner.Told.{Gathers}
use Rattle.executor.proofs.page.Page.add_runs.Given as goal

abbrev pub invariant-loop-place : goal.invariant-loop-place
invariant-loop-place l = (l.place ≤ 64) × Gathers l.base 64 (page_byte l.self) l.place l.fn.runs.items l.runs.items

abbrev pub decreases-loop-place : goal.decreases-loop-place
decreases-loop-place l = 64 - l.place
