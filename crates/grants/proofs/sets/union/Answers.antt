-- The rights of both sets.
use Rattle.std.proofs.Common.{◌≡◌, ap, ◌∙◌, bit_or}
use Rattle.grants.proofs.Terms.{has, has-or}
use Rattle.grants.proofs.sets.union.Goals as goal

pub returns : goal.returns
returns c = λ right.
    let bits : c.union.result.0 ≡ bit_or c.args.rights.0 c.args.more.0 = c.union.ensures tt in
    ap (λ n. has (record { 0 = n }) right) bits ∙ has-or c.args.rights c.args.more right
