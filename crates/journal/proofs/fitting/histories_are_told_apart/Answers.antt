use Rattle.journal.proofs.LineLaws.{lines_apart}
use Rattle.journal.proofs.fitting.histories_are_told_apart.Goals as goal

pub returns : goal.returns
returns c same = lines_apart c.args.chain.now c.args.one.now c.args.other.now c.entries_fit.ensures c.entries_fit-2.ensures c.requires.one c.requires.other same
