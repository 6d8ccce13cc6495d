-- What the call did to the ring is what its requests do.
use Rattle.std.proofs.Common.{subst}
use Rattle.world.specs.Lanes.{retire}
use Rattle.world.specs.States.{Joined}
use Rattle.world.proofs.Called.{retire_did, done_joined}
use Rattle.world.proofs.Obeyed.{World}
use Rattle.world.proofs.Requesting.{keeps_retire}
use Rattle.world.proofs.world.World.retire.Goals as goal

pub retire-requires : goal.retire-requires
retire-requires c = c.self.invariant.0.behind.apart

pub invariant_of-self : goal.invariant_of-self
invariant_of-self c =
    let s = c.self.inside in
    let did = retire_did s.core.history s.rings.items s.closed c.self.invariant.0 c.self.invariant.1 c.args.queue c.retire.result c.retire.new.rings.items c.retire.ensures in
    (done_joined (retire c.args.queue) (keeps_retire c.args.queue) (World s.core.history s.rings.items s.closed) c.retire.result (World s.core.history c.retire.new.rings.items s.closed) c.self.invariant.0 did.0, did.1)

pub returns : goal.returns
returns c =
    let s = c.self.inside in
    let did = retire_did s.core.history s.rings.items s.closed c.self.invariant.0 c.self.invariant.1 c.args.queue c.retire.result c.retire.new.rings.items c.retire.ensures in
    subst (λ (w : Joined). retire c.args.queue w c.retire.result (World s.core.history c.retire.new.rings.items s.closed)) c.self.view_is did.0
