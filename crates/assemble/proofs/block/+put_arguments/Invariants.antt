-- The places to fill become fewer.
use Rattle.std.proofs.Common.{length}
use Rattle.assemble.proofs.block.+put_arguments.Given as goal

abbrev pub decreases-put_arguments : goal.decreases-put_arguments
decreases-put_arguments l = length l.places.now
