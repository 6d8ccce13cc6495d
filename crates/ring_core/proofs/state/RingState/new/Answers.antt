use Rattle.ring_core.proofs.Sizes.{producer_bounds}
use Rattle.ring_core.proofs.States.{ring_opens}
use Rattle.ring_core.proofs.state.RingState.new.Goals as goal

pub invariant_of-result : goal.invariant_of-result
invariant_of-result c = rw (c.in_ok-words.ensures, c.in_ok-parts.ensures) (ring_opens c.args.size c.args.producers c.requires.size (producer_bounds c.args.producers c.requires.producers).1)
