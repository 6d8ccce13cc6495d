-- What the call did to the ring is what its requests do.
use Rattle.std.proofs.Common.{subst}
use Rattle.world.specs.Lanes.{publish_where}
use Rattle.world.specs.States.{Joined}
use Rattle.world.proofs.Called.{publish_did, done_joined}
use Rattle.world.proofs.Obeyed.{World}
use Rattle.world.proofs.Requesting.{keeps_where}
use Rattle.world.proofs.lane.publish_valid.Goals as goal

pub publish-requires-clause-apart : goal.publish-requires-clause-apart
publish-requires-clause-apart c = c.world.invariant.0.behind.apart

pub invariant_of-world : goal.invariant_of-world
invariant_of-world c =
    let s = c.world.inside in
    let did = publish_did s.core.history s.rings.items s.closed c.world.invariant.0 c.world.invariant.1 c.args.queue c.args.producer c.args.ticket c.args.words.now c.told-words c.publish.result c.publish.new.rings.items c.publish.ensures in (
      done_joined (publish_where c.args.queue c.args.producer c.args.ticket c.args.words.now) (keeps_where c.args.queue c.args.producer c.args.ticket c.args.words.now) (World s.core.history s.rings.items s.closed) c.publish.result (World s.core.history c.publish.new.rings.items s.closed)
          c.world.invariant.0 did.0,
      did.1,
    )

pub returns : goal.returns
returns c =
    let s = c.world.inside in
    let did = publish_did s.core.history s.rings.items s.closed c.world.invariant.0 c.world.invariant.1 c.args.queue c.args.producer c.args.ticket c.args.words.now c.told-words c.publish.result c.publish.new.rings.items c.publish.ensures in
    subst (λ (w : Joined). publish_where c.args.queue c.args.producer c.args.ticket c.args.words.now w c.publish.result (World s.core.history c.publish.new.rings.items s.closed)) c.world.view_is did.0
