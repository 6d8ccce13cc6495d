use Rattle.executor.proofs.ChunkLemmas.{place_more}
use Rattle.executor.proofs.written.WrittenBytes.place_of.Goals as goal

pub returns-then-number-self-3 : goal.returns-then-number-self-3
returns-then-number-self-3 c =
    place_more c.args.self.now _ c.self.view_is _ _ _ _ c.self.invariant c.args.number c.if-number-self-3.true
