-- The soonest of the blocks so far.
use Rattle.std.proofs.Common.{◌≡◌, fold, take}
use Rattle.std.specs.Option.{option_copied}
use Rattle.access_core.specs.inner.Origins.{sooner}
use Rattle.access_core.proofs.access.rotating.soonest.Given as goal

abbrev pub invariant-loop-block : goal.invariant-loop-block
invariant-loop-block l = option_copied l.next ≡ fold (sooner l.from) (option_copied l.other) (take l.block-index l.blocks)
