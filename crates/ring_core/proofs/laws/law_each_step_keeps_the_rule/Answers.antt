use Rattle.std.proofs.Common.{sym, subst}
use Rattle.ring_core.specs.Machine.{Machine}
use Rattle.ring_core.specs.Rule.{IsRule}
use Rattle.ring_core.proofs.Kept.{keeps}
use Rattle.ring_core.proofs.laws.law_each_step_keeps_the_rule.Goals as goal

pub returns : goal.returns
returns c = λ producers machine next step seen rule makes. subst (λ (m : Machine). IsRule producers m) (sym makes.leads) (keeps producers machine step rule makes.allowed)
