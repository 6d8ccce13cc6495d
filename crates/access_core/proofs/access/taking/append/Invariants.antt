-- those that were looked at stand behind the others
use Rattle.std.proofs.Common.{◌≡◌, ◌++◌, take}
use Rattle.access_core.proofs.access.taking.append.Given as goal

abbrev pub invariant-loop-one : goal.invariant-loop-one
invariant-loop-one l = l.rights ≡ l.initial.rights ++ take l.one-index l.more
