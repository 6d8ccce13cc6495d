-- The rights of the one set that aren't in the other.
use Rattle.std.proofs.Common.{◌≡◌, ap, ◌∙◌, ◌<◌, ◌^◌, rules}
use Rattle.bitflags.specs.Sets.{without}
use Rattle.policy.specs.Rights.{has}
use Rattle.policy.proofs.SetLemmas.{has-without}
use Rattle.policy.proofs.rights.Rights.without.Goals as goal

pub returns : goal.returns
returns c = λ right.
    let bits : c.difference.result.0 ≡ without 8 c.args.self.0 c.args.taken.0 = c.difference.ensures tt in
    let fits : c.args.taken.0 < 2 ^ 8 = search rules in
    ap (λ n. has (record { 0 = n }) right) bits ∙ has-without c.args.self c.args.taken right fits
