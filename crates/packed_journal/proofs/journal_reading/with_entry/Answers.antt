use Rattle.std.proofs.Common.{[], ◌∙◌, subst}
use Rattle.std.specs.Option.{unwrap_or}
use Rattle.packed_journal.specs.Entries.{form_of_entry}
use Rattle.packed_journal.specs.Journals.{with_form}
use Rattle.packed_journal.specs.Standing.{Stands}
use Rattle.packed_journal.proofs.Blocks.{front_is}
use Rattle.packed_journal.proofs.EntryForms.{entry_told}
use Rattle.packed_journal.proofs.journal_reading.with_entry.Goals as goal

pub returns-clause-stands : goal.returns-clause-stands
returns-clause-stands c place s =
    let form = form_of_entry c.args.read.0.0 (unwrap_or c.args.read.0.1 []) in
    subst (λ form. Stands c.add.new.chain (with_form place form))
    (c.front.ensures ∙ front_is form c.args.bytes.now c.args.read.1.now (entry_told c.args.bytes.now c.args.read.0.0 c.args.read.0.1 c.args.read.1.now c.requires.read))
    (c.add.ensures.stands place s)
