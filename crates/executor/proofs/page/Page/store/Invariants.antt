use Rattle.std.proofs.Common.{◌≡◌, ℕ, take, length}
use Rattle.executor.specs.inner.Pages.{page_byte}
use Rattle.executor.specs.Written.{laid}
use Rattle.executor.proofs.page.Page.store.Given as goal

abbrev pub invariant-loop-index : goal.invariant-loop-index
invariant-loop-index l =
    (length l.self.bytes ≡ 64) × ((x : ℕ) → page_byte (record { mask = l.mask; bytes = l.self.bytes }) x ≡ laid (page_byte l.fn.self) l.place (take l.index l.bytes) x)
