use Rattle.std.proofs.Common.{[], ◌∷◌, rules}
use Rattle.packed_journal.specs.Words.{Flags, packed}
use Rattle.packed_journal.proofs.Undone.{undone_all}
use Rattle.packed_journal.proofs.entry_writing.write_seen.Goals as goal

pub returns : goal.returns
returns c =
    undone_all c.write_flags-made.result c.undone.result c.args.out.now.items (c.args.tag ∷ []) (packed (Flags c.args.seen.0))
    c.write_tag.new.out.items c.write_flags-made.new.out.items c.undone.new.out.items c.len-before.result (search rules)
    (search rules) (search rules) c.undone.ensures.items c.undone.ensures.made
