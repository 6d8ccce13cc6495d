use Rattle.std.proofs.Common.{◌∷◌, ◌++◌, ap, ◌∙◌, rules}
use Rattle.packed_journal.specs.Words.{Bytes, appended, packed, packed_number}
use Rattle.packed_journal.proofs.Undone.{undone_all, joined_is}
use Rattle.packed_journal.proofs.entry_writing.write_host_write.Goals as goal

pub returns : goal.returns
returns c =
    undone_all c.write_bytes-made.result c.undone.result c.args.out.now.items (10 ∷ (packed_number c.args.client.0 ++ packed_number c.args.address.0)) (packed (Bytes c.args.bytes.now))
    c.put_two.new.out.items c.write_bytes-made.new.out.items c.undone.new.out.items c.len-before.result (search rules)
    (search rules) (search rules) c.undone.ensures.items c.undone.ensures.made
    ∙ ap (λ all. appended c.undone.result c.args.out.now.items (10 ∷ all)) (joined_is (packed_number c.args.client.0) (packed_number c.args.address.0) (packed (Bytes c.args.bytes.now)))
