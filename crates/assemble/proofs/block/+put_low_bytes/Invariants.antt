-- The number of bytes to put falls.
use Rattle.assemble.proofs.block.+put_low_bytes.Given as goal

abbrev pub decreases-put_low_bytes : goal.decreases-put_low_bytes
decreases-put_low_bytes l = l.count
