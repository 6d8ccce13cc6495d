use Rattle.std.proofs.Common.{sym, ap, ◌∙◌}
use Rattle.packed_journal.specs.Journals.{form_of_head}
use Rattle.packed_journal.specs.JournalReadings.{heads}
use Rattle.packed_journal.proofs.Blocks.{front_is}
use Rattle.packed_journal.proofs.HeadForms.{head_told}
use Rattle.packed_journal.proofs.journal_reading.JournalReader.begin.Goals as goal

pub first_behind-requires : goal.first_behind-requires
first_behind-requires c =
    c.front.ensures
    ∙ front_is (form_of_head c.in-Ok.head) c.args.bytes.now c.in-Ok.rest.now
    (head_told c.args.bytes.now c.in-Ok.head c.in-Ok.rest.now (sym c.read_head.ensures ∙ ap heads c.in-Ok.is))
