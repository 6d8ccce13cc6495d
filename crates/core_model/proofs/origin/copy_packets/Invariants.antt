-- The packets so far were copied.
use Rattle.std.proofs.Common.{◌≡◌, take}
use Rattle.core_model.proofs.origin.copy_packets.Given as goal

abbrev pub invariant-loop-packet : goal.invariant-loop-packet
invariant-loop-packet l = l.copies ≡ take l.packet-index l.packets
