-- None of the policies so far has the rows.
use Rattle.std.proofs.Common.{take}
use Rattle.replay.specs.Replays.{NoneHasRows}
use Rattle.replay.proofs.rows.policy_with.Given as goal

abbrev pub invariant-loop-policy : goal.invariant-loop-policy
invariant-loop-policy l = NoneHasRows l.declared l.rows (take l.policy-index l.policies)
