use Rattle.std.proofs.Common.{◌∷◌, ◌++◌, sym, ap, ◌∙◌, append-nil, rules}
use Rattle.packed_journal.specs.Words.{Bytes, appended, packed, packed_number}
use Rattle.packed_journal.proofs.Undone.{undone_all}
use Rattle.packed_journal.proofs.entry_writing.write_written.Goals as goal

pub returns : goal.returns
returns c =
    undone_all c.write_bytes-made.result c.undone.result c.args.out.now.items (0 ∷ packed_number c.args.address.0) (packed (Bytes c.args.bytes.now))
    c.put_tagged.new.out.items c.write_bytes-made.new.out.items c.undone.new.out.items c.len-before.result (search rules)
    (search rules) (search rules) c.undone.ensures.items c.undone.ensures.made
    ∙ ap (λ all. appended c.undone.result c.args.out.now.items (0 ∷ (packed_number c.args.address.0 ++ all))) (sym (append-nil (packed (Bytes c.args.bytes.now))))
