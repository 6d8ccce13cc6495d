-- Of none before the packet is told.
use Rattle.std.proofs.Common.{◌≡◌, ◌<◌, ℕ, false, get_or}
use Rattle.core_model.specs.declared.origin.PacketOrigin.{PacketOrigin}
use Rattle.access_core.proofs.Retelling.{is_told_of}
use Rattle.access_core.proofs.access.truncating.index_in.Given as goal

abbrev pub invariant-packets : goal.invariant-packets
invariant-packets l = (k : ℕ) (d : PacketOrigin) → k < l.index → is_told_of l.queue l.packet (get_or l.packets k d) ≡ false
