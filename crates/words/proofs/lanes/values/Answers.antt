use Rattle.words.proofs.Valuing.{sixteen_values}
use Rattle.words.proofs.lanes.values.Goals as goal

pub returns : goal.returns
returns c = sixteen_values c.args.digits c.fits-digits.0
