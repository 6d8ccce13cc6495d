use Rattle.std.proofs.Common.{◌∙◌, length}
use Rattle.executor.proofs.ChunkLemmas.{written_apart}
use Rattle.executor.proofs.written.WrittenBytes.read.Goals as goal

pub returns-then-is_apart : goal.returns-then-is_apart
returns-then-is_apart c =
    c.read.ensures ∙ written_apart c.args.self.now c.args.address c.args.below.now (c.is_apart.ensures c.if-is_apart.true) c.requires.few
