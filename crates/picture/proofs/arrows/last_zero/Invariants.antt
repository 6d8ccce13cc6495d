-- What the zeros so far tell is found.
use Rattle.std.proofs.Common.{◌≡◌, drop, None}
use Rattle.picture.specs.Arrows.{last_zero}
use Rattle.picture.proofs.arrows.last_zero.Given as goal

abbrev pub invariant-zeros : goal.invariant-zeros
invariant-zeros l = last_zero l.signal None l.zeros ≡ last_zero l.signal l.found (drop l.index l.zeros)
