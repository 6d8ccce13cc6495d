use Rattle.journal.proofs.Ranges.{bytes_in_range}
use Rattle.journal.proofs.fitting.bytes_fit.Goals as goal

pub returns : goal.returns
returns c = bytes_in_range c.args._bytes.now c.type_inv._bytes
