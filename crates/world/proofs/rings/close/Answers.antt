-- The ring is taken out at its place, if it has one.
use Rattle.std.proofs.Common.{◌≡◌, ◌<◌, ◌≤◌, ◌∙◌, Some, length, ap, arith, sym}
use Rattle.std.specs.List.{remove}
use Rattle.std.specs.Prelude.{slice_index_or}
use Rattle.world.specs.Making.{place_in}
use Rattle.world.specs.Obeying.{with_gone}
use Rattle.world.proofs.Places.{none_inside, none_removed, removed, removed_is}
use Rattle.world.proofs.rings.close.Goals as goal

pub returns-then-place-len-clause-rings : goal.returns-then-place-len-clause-rings
returns-then-place-len-clause-rings c =
    let lt : place_in c.args.rings.now.items c.args.queue < length c.args.rings.now.items = omega (arith, c.if-place-len.true, c.len.ensures, c.place_of-place.ensures) in
    c.remove-ring.ensures.items ∙ ap (remove c.args.rings.now.items) c.place_of-place.ensures ∙ removed c.args.rings.now.items c.args.queue lt

pub returns-then-place-len-clause-closed : goal.returns-then-place-len-clause-closed
returns-then-place-len-clause-closed c =
    let lt : place_in c.args.rings.now.items c.args.queue < length c.args.rings.now.items = omega (arith, c.if-place-len.true, c.len.ensures, c.place_of-place.ensures) in
    let is : c.remove-ring.result ≡ slice_index_or c.args.rings.now.items (place_in c.args.rings.now.items c.args.queue) c.remove-ring.result =
    c.remove-ring.ensures.value ∙ ap (λ place. slice_index_or c.args.rings.now.items place c.remove-ring.result) c.place_of-place.ensures in
    c.push.ensures ∙ ap (with_gone c.args.closed.now) (ap Some is ∙ sym (removed_is c.args.rings.now.items c.args.queue c.remove-ring.result lt))

pub returns-else-place-len-clause-rings : goal.returns-else-place-len-clause-rings
returns-else-place-len-clause-rings c =
    let le : length c.args.rings.now.items ≤ place_in c.args.rings.now.items c.args.queue = omega (arith, c.if-place-len.false, c.len.ensures, c.place_of-place.ensures) in
    sym (none_removed c.args.rings.now.items c.args.queue le)

pub returns-else-place-len-clause-closed : goal.returns-else-place-len-clause-closed
returns-else-place-len-clause-closed c =
    let le : length c.args.rings.now.items ≤ place_in c.args.rings.now.items c.args.queue = omega (arith, c.if-place-len.false, c.len.ensures, c.place_of-place.ensures) in
    ap (with_gone c.args.closed.now) (sym (none_inside c.args.rings.now.items c.args.queue le))
