use Rattle.toml.proofs.Views.{table_get}
use Rattle.policy.proofs.read.values.find.Goals as goal

pub returns : goal.returns
returns c = table_get c.get.result c.args.key.now c.args.row.now.entries c.get.ensures.value
