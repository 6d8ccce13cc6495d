-- Bytes that are refused lay out no packet.
use Rattle.std.proofs.Common.{◌≡◌, ℕ, List, Some, None, refl}
use Rattle.aql_packet.specs.declared.packet.CodecRule.{CodecRule}
use Rattle.aql_packet.specs.Reading.{refusal, decoded}

pub refused : (bytes : List ℕ) (rule : CodecRule) → refusal bytes ≡ Some rule → decoded bytes ≡ None
unfolding decoded
refused bytes rule e = rw e refl
