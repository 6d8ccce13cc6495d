use Rattle.words.proofs.Checking.{sixteen_some, sixteen_none}
use Rattle.words.proofs.lanes.sixteen_bytes.Goals as goal

pub returns-then-others-eq0 : goal.returns-then-others-eq0
returns-then-others-eq0 c =
    sixteen_some c.args.digits.now c.values-high.result c.values-low.result c.requires c.type_inv.digits c.values-high.ensures c.values-low.ensures c.if-others-eq0.true

pub returns-else-others-eq0 : goal.returns-else-others-eq0
returns-else-others-eq0 c =
    sixteen_none c.args.digits.now c.values-high.result c.values-low.result c.requires c.type_inv.digits c.values-high.ensures c.values-low.ensures c.if-others-eq0.false
