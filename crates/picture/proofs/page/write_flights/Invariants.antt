-- The bars so far are written.
use Rattle.std.proofs.Common.{◌≡◌, ◌++◌, string_bytes, take, flat_map}
use Rattle.picture.specs.Pages.{text_of_flight}
use Rattle.picture.proofs.page.write_flights.Given as goal

abbrev pub invariant-loop-seat : goal.invariant-loop-seat
invariant-loop-seat l = string_bytes l.out ≡ string_bytes l.fn.out ++ flat_map (text_of_flight l.frame l.policy l.entries) (take l.seat-index l.seats)
