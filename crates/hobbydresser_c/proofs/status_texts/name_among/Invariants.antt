-- None of the rows so far has the number.
use Rattle.std.proofs.Common.{◌≡◌, length, map}
use Rattle.hobbydresser_c.specs.StatusTexts.{name_among, status_view}
use Rattle.hobbydresser_c.proofs.status_texts.name_among.Given as goal

abbrev pub invariant-loop-rest : goal.invariant-loop-rest
invariant-loop-rest l = name_among (map status_view l.rest) l.number ≡ name_among (map status_view l.rows) l.number

abbrev pub decreases-loop-rest : goal.decreases-loop-rest
decreases-loop-rest l = length l.rest
