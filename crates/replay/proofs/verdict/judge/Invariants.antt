-- The entries so far are a whole legal history, and the replay has taken them.
use Rattle.std.proofs.Common.{map, take}
use Rattle.access_core.specs.Opening.{program_of}
use Rattle.replay.specs.Verdicts.{IsReplayed}
use Rattle.replay.proofs.verdict.judge.Given as goal

abbrev pub invariant-entries : goal.invariant-entries
invariant-entries l = IsReplayed l.fn.policy (map program_of l.fn.kernels.items) l.fn.further (take l.place l.entries) l.replay
