use Rattle.journal.proofs.Ranges.{rule_has_no_blank}
use Rattle.journal.proofs.fitting.rule_fits.Goals as goal

pub returns : goal.returns
returns c = rule_has_no_blank c.args._rule
