-- The lanes are those behind the entries so far.
use Rattle.std.proofs.Common.{◌≡◌, drop}
use Rattle.picture.specs.Lanes.{lanes_in, lanes_of}
use Rattle.picture.proofs.lanes.pass_entries.Given as goal

abbrev pub invariant-entries : goal.invariant-entries
invariant-entries l =
    lanes_in l.skipped 0 (lanes_of l.fn.lanes l.fn.seats.items) l.fn.seats.items l.entries
    ≡ lanes_in l.skipped l.index l.lanes l.seats.items (drop l.index l.entries)
