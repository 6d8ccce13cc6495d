-- A region that has a place for a mark is marked there.
use Rattle.std.proofs.Common.{◌≡◌, arith, length, rules}
use Rattle.access_core.proofs.Marking.{marks_other, marks_past, marks_region}
use Rattle.access_core.proofs.access.viewing.mark.Goals as goal

pub returns-in_default : goal.returns-in_default
returns-in_default c = marks_other c.args.marks.now c.args.object (λ region is. c.in_default.not-Region region is)

pub returns-then-region-ge-PLACES : goal.returns-then-region-ge-PLACES
returns-then-region-ge-PLACES c =
    let long : length c.args.marks.now ≡ 65 = search rules in
    rw c.in-Region.is (marks_past c.args.marks.now c.in-Region.region (omega (arith, long)))

pub returns : goal.returns
returns c = rw c.in-Region.is (marks_region c.args.marks.now c.in-Region.region)
