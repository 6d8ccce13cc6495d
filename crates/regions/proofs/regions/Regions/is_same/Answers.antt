use Rattle.std.proofs.Common.{◌∙◌}
use Rattle.regions.proofs.Copies.{same_regions}
use Rattle.regions.proofs.regions.Regions.is_same.Goals as goal

pub returns : goal.returns
returns c = same_regions c.as_slice.result.now c.as_slice-2.result.now c.args.self.now c.args.other.now c.eq.result c.eq.ensures (c.as_slice.ensures.value ∙ c.self.view_is) (c.as_slice-2.ensures.value ∙ c.other.view_is)
