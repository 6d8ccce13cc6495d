use Rattle.ring_core.proofs.Gathering.{stores}
use Rattle.ring_core.proofs.part.ProducerPart.store.Goals as goal

pub returns-clause-noted : goal.returns-clause-noted
returns-clause-noted c =
    stores c.args.self.now c.args.ticket c.args.seen c.args.words.now _ _ _ _ c.if-not-publish_whole.false c.publish_whole.ensures.1 c.publication.ensures c.push_all.ensures
