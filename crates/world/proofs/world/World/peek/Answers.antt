-- What the call did to the ring is what its requests do.
use Rattle.std.proofs.Common.{subst}
use Rattle.world.specs.Lanes.{peek}
use Rattle.world.specs.States.{Joined}
use Rattle.world.proofs.Called.{collect_did, done_joined}
use Rattle.world.proofs.Obeyed.{World}
use Rattle.world.proofs.Requesting.{keeps_peek}
use Rattle.world.proofs.world.World.peek.Goals as goal

pub collect-requires : goal.collect-requires
collect-requires c = c.self.invariant.0.behind.apart

pub invariant_of-self : goal.invariant_of-self
invariant_of-self c =
    let s = c.self.inside in
    let did = collect_did s.core.history s.rings.items s.closed c.self.invariant.0 c.self.invariant.1 c.args.queue c.collect.result c.collect.new.rings.items c.collect.ensures in
    (done_joined (peek c.args.queue) (keeps_peek c.args.queue) (World s.core.history s.rings.items s.closed) c.collect.result (World s.core.history c.collect.new.rings.items s.closed) c.self.invariant.0 did.0, did.1)

pub returns : goal.returns
returns c =
    let s = c.self.inside in
    let did = collect_did s.core.history s.rings.items s.closed c.self.invariant.0 c.self.invariant.1 c.args.queue c.collect.result c.collect.new.rings.items c.collect.ensures in
    subst (λ (w : Joined). peek c.args.queue w c.collect.result (World s.core.history c.collect.new.rings.items s.closed)) c.self.view_is did.0
