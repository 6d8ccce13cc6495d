use Rattle.std.proofs.Common.{◌≡◌, take}
use Rattle.regions.proofs.regions.Regions.copy.Given as goal

-- the regions so far are copied
abbrev pub invariant-loop-region : goal.invariant-loop-region
invariant-loop-region l = l.regions.items ≡ take l.region-index l.self
