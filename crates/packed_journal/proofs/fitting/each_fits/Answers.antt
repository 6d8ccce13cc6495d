use Rattle.std.proofs.Common.{rules}
use Rattle.packed_journal.proofs.Ranges.{each_below}
use Rattle.packed_journal.proofs.fitting.each_fits.Goals as goal

pub returns : goal.returns
returns c = each_below c.args.bytes.now (λ place. search rules)
