-- What was read is as long as was asked.
use Rattle.hobbydresser_c.proofs.Reading.{read_long}
use Rattle.hobbydresser_c.proofs.host.read.Goals as goal

pub returns-clause-long : goal.returns-clause-long
returns-clause-long c = read_long c.args.core.now.history (record { 0 = c.args.client }) (record { 0 = c.args.address }) c.args.size c.host_read.result c.host_read.ensures
