use Rattle.std.proofs.Common.{take}
use Rattle.grants.proofs.Terms.{IsFirstTo, holds_one}
use Rattle.grants.proofs.hold.first_holder.Given as goal

-- the first holder so far
abbrev pub invariant-loop-hold : goal.invariant-loop-hold
invariant-loop-hold l = IsFirstTo (holds_one (take l.hold-index l.holds) l.client l.object l.rights) l.first
