use Rattle.packed_journal.proofs.Ranges.{packet_in_range}
use Rattle.packed_journal.proofs.fitting.packet_fits.Goals as goal

pub returns : goal.returns
returns c = packet_in_range c.args.bytes.now c.told-bytes c.each_fits.ensures
