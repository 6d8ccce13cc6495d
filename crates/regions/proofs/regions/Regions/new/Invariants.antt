use Rattle.std.proofs.Common.{◌≡◌, take}
use Rattle.regions.specs.Memory.{zeros}
use Rattle.regions.proofs.regions.Regions.new.Given as goal

abbrev pub invariant-loop-length : goal.invariant-loop-length
invariant-loop-length l = l.regions.items ≡ zeros (take l.length-index l.lengths)
