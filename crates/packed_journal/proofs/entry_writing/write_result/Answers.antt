use Rattle.std.proofs.Common.{sym, ap, ◌∙◌, rules}
use Rattle.std.proofs.lemmas.List.Concat.{flat_map-append}
use Rattle.packed_journal.specs.Words.{appended, packed}
use Rattle.packed_journal.specs.Readings.{bytes_of, words_of_list}
use Rattle.packed_journal.specs.Entries.{words_of_outcome, words_of_effect}
use Rattle.packed_journal.proofs.Undone.{undone_all}
use Rattle.packed_journal.proofs.entry_writing.write_result.Goals as goal

pub returns : goal.returns
returns c =
    undone_all c.write_effects-made.result c.undone.result c.args.out.now.items (bytes_of (words_of_outcome c.args.entry.now.outcome)) (bytes_of (words_of_list words_of_effect c.args.entry.now.effects))
    c.write_outcome.new.out.items c.write_effects-made.new.out.items c.undone.new.out.items c.len-before.result (search rules)
    (search rules) (search rules) c.undone.ensures.items c.undone.ensures.made
    ∙ ap (appended c.undone.result c.args.out.now.items) (sym (flat_map-append packed (words_of_outcome c.args.entry.now.outcome) (words_of_list words_of_effect c.args.entry.now.effects)))
