-- None of the fates behind is that of the packet.
use Rattle.std.proofs.Common.{◌≡◌, drop, false}
use Rattle.std.specs.List.{list_any}
use Rattle.readable.specs.Fates.{is_of}
use Rattle.readable.proofs.fates.place_of.Given as goal

abbrev pub invariant-loop-place : goal.invariant-loop-place
invariant-loop-place l = list_any (is_of l.queue l.packet) (drop l.place l.fates) ≡ false
