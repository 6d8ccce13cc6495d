use Rattle.std.proofs.Common.{◌∷◌, rules}
use Rattle.packed_journal.specs.Readings.{bytes_of}
use Rattle.packed_journal.specs.Parts.{words_of_rows}
use Rattle.packed_journal.proofs.Undone.{undone_all}
use Rattle.packed_journal.proofs.entry_writing.write_reload.Goals as goal

pub returns : goal.returns
returns c =
    undone_all c.write_rows-made.result c.undone.result c.args.out.now.items (12 ∷ c.args.policy.now) (bytes_of (words_of_rows c.args.rows.now))
    c.write_policy.new.out.items c.write_rows-made.new.out.items c.undone.new.out.items c.len-before.result (search rules)
    (search rules) (search rules) c.undone.ensures.items c.undone.ensures.made
