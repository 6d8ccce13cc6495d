-- The byte at an address after a write, as the history tells it.
use Rattle.std.proofs.Common.{◌≡◌, ℕ, ◌-◌, List, Some, ◌∙◌, arith}
use Rattle.access_core.proofs.Terms.{Address, IsWritten, Write, byte_after, byte_at, slice_get-get_or}

-- what was written there, or the byte before
pub byte_at-written : (old new : List (List ℕ)) (address : Address) (bytes : List ℕ) (x byte : ℕ) → IsWritten old address.0 bytes new → byte_at old x ≡ Some byte
    → byte_at new x ≡ Some (byte_after x byte (Write address bytes))
byte_at-written old new address bytes x byte written before = written x ∙ (grind (arith, slice_get-get_or bytes (x - address.0) 0))
