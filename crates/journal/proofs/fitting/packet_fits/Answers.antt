use Rattle.std.proofs.Common.{rules}
use Rattle.journal.proofs.Ranges.{packet_in_range}
use Rattle.journal.proofs.fitting.packet_fits.Goals as goal

pub returns : goal.returns
returns c = packet_in_range c.args.bytes.now (search rules) c.bytes_fit.ensures
