use Rattle.std.proofs.Common.{length, rules}
use Rattle.packed_journal.specs.Words.{packed_number}
use Rattle.packed_journal.proofs.Undone.{undone_all}
use Rattle.packed_journal.proofs.parts.write_bytes.Goals as goal

pub returns : goal.returns
returns c =
    undone_all c.extend_from_slice-made.result c.undone.result c.args.out.now.items (packed_number (length c.args.bytes.now)) c.args.bytes.now
    c.write_number.new.out.items c.extend_from_slice-made.new.self.items c.undone.new.out.items c.len-before.result (search rules)
    (search rules) c.extend_from_slice-made.ensures.items c.undone.ensures.items c.undone.ensures.made
