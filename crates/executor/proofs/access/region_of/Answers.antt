use Rattle.std.proofs.Common.{ap, ◌∙◌}
use Rattle.std.specs.Prelude.{option_map}
use Rattle.executor.specs.Items.{lent_region}
use Rattle.executor.proofs.ViewLemmas.{found_lent}
use Rattle.executor.proofs.access.region_of.Goals as goal

pub returns : goal.returns
returns c = ap (option_map lent_region) c.find.ensures ∙ found_lent c.args.view.now c.args.address
