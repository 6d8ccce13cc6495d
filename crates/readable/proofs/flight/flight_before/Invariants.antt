-- The packets so far are put.
use Rattle.std.proofs.Common.{◌≡◌, map, take}
use Rattle.readable.proofs.flight.flight_before.Given as goal

abbrev pub invariant-loop-packet : goal.invariant-loop-packet
invariant-loop-packet l = l.flight.items ≡ map (λ packet. packet.flying) (take l.packet-index l.packets)
