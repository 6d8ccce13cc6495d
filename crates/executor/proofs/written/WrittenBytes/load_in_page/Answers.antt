use Rattle.executor.proofs.ChunkLemmas.{written_loaded, written_unloaded}
use Rattle.executor.proofs.written.WrittenBytes.load_in_page.Goals as goal

pub returns-in-Some : goal.returns-in-Some
returns-in-Some c =
    written_loaded c.args.self.now _ c.self.view_is _ _ _ _ c.self.invariant c.args.address c.in-Some.chunk c.index.result.now c.in-Some.ensures c.index.ensures
    c.args.buffer.now c.load.new.buffer c.requires c.load.ensures

pub returns-in_default : goal.returns-in_default
returns-in_default c =
    written_unloaded c.args.self.now _ c.self.view_is _ _ _ _ c.self.invariant c.args.address c.in_default.ensures c.args.buffer.now c.requires
