use Rattle.std.proofs.Common.{rules, ap, ◌∙◌, sym}
use Rattle.std.proofs.lemmas.List.Concat.{flat_map-append}
use Rattle.packed_journal.specs.Words.{appended, packed}
use Rattle.packed_journal.specs.Readings.{bytes_of, words_of_list}
use Rattle.packed_journal.specs.Parts.{words_of_row}
use Rattle.packed_journal.proofs.Undone.{undone_all}
use Rattle.packed_journal.proofs.writing.write_rows.Goals as goal

pub returns : goal.returns
returns c =
    let rows = c.args.rows.now in
    undone_all c.write_row_list-made.result c.undone.result c.args.out.now.items (bytes_of (words_of_list words_of_row rows.allows)) (bytes_of (words_of_list words_of_row rows.denies))
    c.write_row_list.new.out.items c.write_row_list-made.new.out.items c.undone.new.out.items c.len-before.result (search rules)
    (search rules) (search rules) c.undone.ensures.items c.undone.ensures.made
    ∙ ap (appended c.undone.result c.args.out.now.items) (sym (flat_map-append packed (words_of_list words_of_row rows.allows) (words_of_list words_of_row rows.denies)))
