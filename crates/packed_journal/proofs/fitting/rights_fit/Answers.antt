use Rattle.packed_journal.proofs.Ranges.{rights_in_range}
use Rattle.packed_journal.proofs.fitting.rights_fit.Goals as goal

pub returns : goal.returns
returns c = rights_in_range c.args._rights.0 c.requires
