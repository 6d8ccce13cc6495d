use Rattle.std.proofs.Common.{sym}
use Rattle.std.proofs.lemmas.Bool.Decides.{Decides-at}
use Rattle.policy.proofs.CopyLemmas.{both_decide, takes_decide, numbers_decide, values_decide, units_decide, sources_decide, declared_alike}
use Rattle.policy.proofs.policy.Policy.declares_as.Goals as goal

pub returns : goal.returns
returns c =
    declared_alike c.self.inside c.other.inside c.args.self.now c.args.other.now c.self.view_is c.other.view_is _
    (both_decide _ c.is_same-5.result
    (both_decide _ c.is_same-4.result
    (both_decide _ c.is_same-3.result
    (both_decide c.is_same.result c.is_same-2.result (c.is_same.ensures units_decide) (c.is_same-2.ensures takes_decide))
    (c.is_same-3.ensures numbers_decide))
    (c.is_same-4.ensures values_decide))
    (c.is_same-5.ensures sources_decide))
