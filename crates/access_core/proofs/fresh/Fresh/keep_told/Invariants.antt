-- No room was taken so far.
use Rattle.access_core.specs.inner.Ready.{Spends}
use Rattle.access_core.proofs.fresh.Fresh.keep_told.Given as goal

abbrev pub invariant-loop-left : goal.invariant-loop-left
invariant-loop-left l = Spends 0 l.fn.self l.self
