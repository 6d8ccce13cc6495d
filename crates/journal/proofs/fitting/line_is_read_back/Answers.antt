use Rattle.journal.proofs.LineLaws.{line_read}
use Rattle.journal.proofs.fitting.line_is_read_back.Goals as goal

pub returns : goal.returns
returns c = line_read c.args.chain.now c.args.entry.now c.requires c.entry_fits.ensures
