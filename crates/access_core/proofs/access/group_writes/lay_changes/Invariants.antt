-- the changes so far are laid over memory, and its regions are as long as before
use Rattle.std.proofs.Common.{◌≡◌, take}
use Rattle.access_core.proofs.Terms.{IsChanged, lengths_of}
use Rattle.access_core.proofs.access.group_writes.lay_changes.Given as goal

abbrev pub invariant-loop-change : goal.invariant-loop-change
invariant-loop-change l =
    IsChanged l.initial.memory (take l.change-index l.changes) l.memory × (lengths_of l.memory ≡ lengths_of l.initial.memory)
