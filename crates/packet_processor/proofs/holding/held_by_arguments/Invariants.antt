-- What is still to be held, of the arguments that are left.
use Rattle.std.proofs.Common.{◌≡◌, ◌++◌, drop}
use Rattle.packet_processor.specs.Judged.{facts_seen}
use Rattle.packet_processor.proofs.HeldByPointer.{all_pointed}
use Rattle.packet_processor.proofs.holding.held_by_arguments.Given as goal

abbrev pub invariant-offsets : goal.invariant-offsets
invariant-offsets l =
    l.held ++ all_pointed (facts_seen l.facts).in_force (facts_seen l.facts).lengths l.block (drop l.offset-index l.offsets)
    ≡ all_pointed (facts_seen l.facts).in_force (facts_seen l.facts).lengths l.block l.offsets
