-- None of the entries so far closes the queue.
use Rattle.std.proofs.Common.{◌≡◌, ◌+◌, drop}
use Rattle.picture.specs.Reading.{close_of}
use Rattle.picture.proofs.reading.close_of.Given as goal

abbrev pub invariant-entries : goal.invariant-entries
invariant-entries l = close_of l.queue l.at l.after ≡ close_of l.queue (l.at + l.index) (drop l.index l.after)
