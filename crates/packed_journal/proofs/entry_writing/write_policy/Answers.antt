use Rattle.std.proofs.Common.{[], ◌∷◌, rules}
use Rattle.packed_journal.proofs.Undone.{undone_all}
use Rattle.packed_journal.proofs.entry_writing.write_policy.Goals as goal

pub returns : goal.returns
returns c =
    undone_all c.write_digest-made.result c.undone.result c.args.out.now.items (12 ∷ []) (c.args.policy.now)
    c.write_tag.new.out.items c.write_digest-made.new.out.items c.undone.new.out.items c.len-before.result (search rules)
    (search rules) (search rules) c.undone.ensures.items c.undone.ensures.made
