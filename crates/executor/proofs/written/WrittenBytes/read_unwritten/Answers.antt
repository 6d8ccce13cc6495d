use Rattle.std.proofs.Common.{◌∙◌, ◌+◌, ◌%◌, ◌≤◌, length, rules}
use Rattle.executor.proofs.ChunkLemmas.{written_unread}
use Rattle.executor.proofs.written.WrittenBytes.read_unwritten.Goals as goal

pub returns : goal.returns
returns c =
    let fits : c.args.address % 64 + length c.args.below.now ≤ 64 = search rules in
    c.read.ensures ∙ written_unread c.args.self.now c.args.address c.args.below.now c.requires.none fits
