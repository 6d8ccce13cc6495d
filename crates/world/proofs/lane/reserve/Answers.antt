-- What was done to the ring is what the request for the step does.
use Rattle.std.proofs.Common.{◌++◌, subst}
use Rattle.ring_core.specs.declared.access.Access.TheVariants.{Reserve}
use Rattle.ring_core.specs.InTurn.{step_by}
use Rattle.world.specs.declared.request.Request.TheVariants as request
use Rattle.world.specs.Actions.{reads}
use Rattle.world.specs.Dues.{handed}
use Rattle.world.specs.States.{Joined}
use Rattle.world.proofs.Deciding.{obeyed_decided}
use Rattle.world.proofs.Kept.{served_kept}
use Rattle.world.proofs.Obeyed.{World, obeyed_served}
use Rattle.world.proofs.Reserving.{as_step, reserved, reserving}
use Rattle.world.proofs.lane.reserve.Goals as goal

pub reserve-requires : goal.reserve-requires
reserve-requires c = c.world.invariant.0.behind.apart

pub invariant_of-world : goal.invariant_of-world
invariant_of-world c =
    let s = c.world.inside in
    let h = c.world.invariant.0 in
    let core = s.core.history in
    let old = s.rings.items in
    let new = c.reserve.new.rings.items in
    let asked = request.Step c.args.queue (step_by c.args.producer Reserve) in
    let obeys = reserving core s.closed c.args.queue c.args.producer old c.reserve.result new c.reserve.ensures in
    let told = as_step c.reserve.result in
    let after : Joined = World core new s.closed in
    let served = obeyed_served core core old s.closed new s.closed c.world.invariant.1 told asked obeys in (
      record { first = h.first; prior = h.prior ++ handed told; behind = served_kept h.first h.prior (World core old s.closed) h.behind asked told after served },
      obeyed_decided core core old s.closed new s.closed h.first h.prior h.behind c.world.invariant.1 told asked obeys,
    )

pub returns : goal.returns
returns c =
    let s = c.world.inside in
    let h = c.world.invariant.0 in
    let core = s.core.history in
    let old = s.rings.items in
    let new = c.reserve.new.rings.items in
    let asked = request.Step c.args.queue (step_by c.args.producer Reserve) in
    let obeys = reserving core s.closed c.args.queue c.args.producer old c.reserve.result new c.reserve.ensures in
    let served = obeyed_served core core old s.closed new s.closed c.world.invariant.1 (as_step c.reserve.result) asked obeys in
    subst (λ (w : Joined). reads c.args.queue c.args.producer Reserve w c.reserve.result (World core new s.closed)) c.world.view_is
    (reserved c.args.queue c.args.producer (World core old s.closed) c.reserve.result (World core new s.closed) served)
