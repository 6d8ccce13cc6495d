-- the segments of the kernels so far
use Rattle.std.proofs.Common.{◌≡◌, map, take}
use Rattle.access_core.proofs.Terms.{program_of, segments_of}
use Rattle.access_core.proofs.access.opening.segments.Given as goal

abbrev pub invariant-loop-kernel : goal.invariant-loop-kernel
invariant-loop-kernel l = l.segments.items ≡ map segments_of (map program_of (take l.kernel-index l.kernels))
