use Rattle.std.proofs.Common.{◌∙◌}
use Rattle.signals.proofs.ValueLemmas.{same_values}
use Rattle.signals.proofs.signals.Signals.is_same.Goals as goal

pub returns : goal.returns
returns c = same_values c.as_slice.result.now c.as_slice-2.result.now c.args.self.now c.args.other.now c.eq.result c.eq.ensures (c.as_slice.ensures.value ∙ c.self.view_is) (c.as_slice-2.ensures.value ∙ c.other.view_is)
