-- The ring of a packet that waits stays as it is.
use Rattle.std.proofs.Common.{subst, sym}
use Rattle.core_model.specs.declared.outcome.Taken.{Taken}
use Rattle.core_model.specs.declared.outcome.Taken.TheVariants.{Waiting}
use Rattle.world.specs.Making.{ring_in}
use Rattle.world.specs.Obeying.{RingFollows}
use Rattle.world.proofs.Places.{put_itself}
use Rattle.world.proofs.rings.note_taken.Goals as goal

pub returns-in-Waiting : goal.returns-in-Waiting
returns-in-Waiting c =
    subst (λ (became : Taken). RingFollows (ring_in c.args.rings.now.items c.args.queue) c.args.queue became c.args.rings.now.items c.args.rings.now.items) (sym c.in-Waiting.is)
    (subst (λ o. RingFollows o c.args.queue (Waiting c.in-Waiting.field-0) c.args.rings.now.items c.args.rings.now.items) (sym c.requires.ring.1)
    (sym (put_itself c.args.rings.now.items c.args.queue c.requires.ring.0 c.requires.ring.1)))
