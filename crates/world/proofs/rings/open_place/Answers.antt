-- Inside the list a ring stands there, and behind its end there is none.
use Rattle.std.proofs.Common.{◌≤◌, ◌<◌, arith, length}
use Rattle.world.specs.Making.{place_in}
use Rattle.world.proofs.Places.{none_inside, open_at}
use Rattle.world.proofs.rings.open_place.Goals as goal

pub returns-then-place-len : goal.returns-then-place-len
returns-then-place-len c =
    let within : c.place_of-place.result < length c.args.rings.now.items = omega (arith, c.if-place-len.true, c.len.ensures) in
    open_at c.args.rings.now.items c.args.queue c.place_of-place.result within c.place_of-place.ensures

pub returns-else-place-len : goal.returns-else-place-len
returns-else-place-len c =
    let past : length c.args.rings.now.items ≤ place_in c.args.rings.now.items c.args.queue = omega (arith, c.if-place-len.false, c.len.ensures, c.place_of-place.ensures) in
    none_inside c.args.rings.now.items c.args.queue past
