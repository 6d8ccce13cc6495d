-- The bytes so far and the digits left make the bytes of all.
use Rattle.std.proofs.Common.{◌≡◌, length}
use Rattle.words.proofs.Checking.{AreRead}
use Rattle.words.proofs.packets.packet_bytes.Given as goal

abbrev pub invariant-loop-part : goal.invariant-loop-part
invariant-loop-part l = AreRead l.word l.bytes l.part × (length l.bytes ≡ 64)
