use Rattle.std.proofs.Common.{◌≡◌, take, length, rules, arith}
use Rattle.std.specs.Int.{w64, to_le_bytes}
use Rattle.executor.proofs.WordLemmas.{length_low, page_written}
use Rattle.executor.proofs.page.Page.write.Goals as goal

pub returns : goal.returns
returns c =
    let long : length c.args.self.now.bytes ≡ 64 = search rules in
    page_written c.args.self.now c.args.place c.args.size c.ones.result (take c.args.size (to_le_bytes w64 c.args.value)) c.write.new.bytes
    long (length_low c.args.size c.args.value c.requires.few) c.ones.ensures (omega arith) c.write.ensures
