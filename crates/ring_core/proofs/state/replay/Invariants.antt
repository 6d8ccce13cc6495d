use Rattle.std.proofs.Common.{take}
use Rattle.ring_core.specs.Machine.{Leads, opened}
use Rattle.ring_core.proofs.state.replay.Given as goal

abbrev pub invariant-loop-index : goal.invariant-loop-index
invariant-loop-index l = Leads (opened l.size l.producers) (take l.index l.steps) l.ring
