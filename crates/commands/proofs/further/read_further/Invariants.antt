-- The texts so far declare the policies.
use Rattle.std.proofs.Common.{take}
use Rattle.commands.specs.Further.{DeclareEach}
use Rattle.commands.proofs.further.read_further.Given as goal

abbrev pub invariant-loop-text : goal.invariant-loop-text
invariant-loop-text l = DeclareEach (take l.text-index l.texts) l.policies.items
