use Rattle.ring_core.proofs.part.ProducerPart.publish.Goals as goal

pub returns-then-room-clause-noted : goal.returns-then-room-clause-noted
returns-then-room-clause-noted c = rw c.if-room.true c.store.ensures.noted
