-- A set without bits has no right.
use Rattle.std.proofs.Common.{◌∙◌, ap, sym}
use Rattle.policy.proofs.PairLemmas.{same_number}
use Rattle.policy.proofs.RightsLemmas.{has-none}
use Rattle.grants.proofs.Terms.{has}
use Rattle.grants.proofs.sets.is_none.Goals as goal

pub returns : goal.returns
returns c = λ is right. ap (λ n. has (record { 0 = n }) right) (same_number c.args.rights.0 0 (sym (c.is_empty.ensures tt) ∙ is)) ∙ has-none right
