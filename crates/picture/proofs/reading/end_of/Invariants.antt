-- None of the entries so far ends the packet.
use Rattle.std.proofs.Common.{◌≡◌, ◌+◌, drop}
use Rattle.picture.specs.Reading.{end_of}
use Rattle.picture.proofs.reading.end_of.Given as goal

abbrev pub invariant-entries : goal.invariant-entries
invariant-entries l = end_of l.queue l.packet l.at l.after ≡ end_of l.queue l.packet (l.at + l.index) (drop l.index l.after)
