-- What the code did is what is owed, and the rings and the history stay in step.
use Rattle.std.proofs.Common.{◌++◌, refl, subst}
use Rattle.world.specs.declared.request.Request.TheVariants as request
use Rattle.world.specs.Actions.{asks}
use Rattle.world.specs.Dues.{IsServed, handed}
use Rattle.world.specs.States.{Joined}
use Rattle.world.proofs.Deciding.{obeyed_decided}
use Rattle.world.proofs.Kept.{served_kept}
use Rattle.world.proofs.Obeyed.{World, obeyed_served}
use Rattle.world.proofs.lane.take.Goals as goal

pub take-requires : goal.take-requires
take-requires c = c.world.invariant.0.behind.apart

pub invariant_of-world : goal.invariant_of-world
invariant_of-world c =
    let s = c.world.inside in
    let h = c.world.invariant.0 in
    let asked = request.Take c.args.queue in
    let core = s.core.history in
    let core' = c.take.new.core.history in
    let old = s.rings.items in
    let new = c.take.new.rings.items in
    let after : Joined = World core' new s.closed in
    let served : IsServed (World core old s.closed) asked c.take.result after =
    obeyed_served core core' old s.closed new s.closed c.world.invariant.1 c.take.result asked (c.take.ensures, refl) in (
      record { first = h.first; prior = h.prior ++ handed c.take.result; behind = served_kept h.first h.prior (World core old s.closed) h.behind asked c.take.result after served },
      obeyed_decided core core' old s.closed new s.closed h.first h.prior h.behind c.world.invariant.1 c.take.result asked (c.take.ensures, refl),
    )

pub returns : goal.returns
unfolding asks
returns c =
    let s = c.world.inside in
    let h = c.world.invariant.0 in
    let asked = request.Take c.args.queue in
    subst (λ (w : Joined). IsServed w asked c.take.result (World c.take.new.core.history c.take.new.rings.items s.closed)) c.world.view_is
    (obeyed_served s.core.history c.take.new.core.history s.rings.items s.closed c.take.new.rings.items s.closed c.world.invariant.1 c.take.result asked (c.take.ensures, refl))
