-- It is the ring of the queue that is kept.
use Rattle.std.proofs.Common.{◌≡◌, ap, ◌∙◌, sym, Option, Some, None}
use Rattle.std.specs.Prelude.{option_map}
use Rattle.std.specs.Option.{option_copied, option_map_or}
use Rattle.ring_core.specs.Machine.{Machine}
use Rattle.world.specs.States.{Joined, ring_of}
use Rattle.world.proofs.Obeyed.{ring_told}
use Rattle.world.proofs.world.World.slots.Goals as goal

pub ring_at-requires : goal.ring_at-requires
ring_at-requires c = c.self.invariant.0.behind.apart

pub returns-in-Some : goal.returns-in-Some
returns-in-Some c =
    let s = c.self.inside in
    let told : Some c.in-Some.ring.now.ring ≡ ring_of c.args.self.now c.args.queue =
    ap (λ o. option_map (λ r. r.ring) (option_copied o)) (sym c.in-Some.is)
    ∙ ring_told s.core.history s.rings.items s.closed c.args.queue (option_copied c.ring_at.result) c.ring_at.ensures
    ∙ ap (λ (w : Joined). ring_of w c.args.queue) c.self.view_is in
    c.size.ensures.size ∙ ap (λ (o : Option Machine). option_map_or (λ (ring : Machine). ring.size) o 0) told

pub returns-in-None : goal.returns-in-None
returns-in-None c =
    let s = c.self.inside in
    let told : None ≡ ring_of c.args.self.now c.args.queue =
    ap (λ o. option_map (λ r. r.ring) (option_copied o)) (sym c.in-None.is)
    ∙ ring_told s.core.history s.rings.items s.closed c.args.queue (option_copied c.ring_at.result) c.ring_at.ensures
    ∙ ap (λ (w : Joined). ring_of w c.args.queue) c.self.view_is in
    ap (λ (o : Option Machine). option_map_or (λ (ring : Machine). ring.size) o 0) told
