-- How a writer or a reader keeps where a journal stands (own).
use Rattle.std.specs.Prelude.{◌≡◌, Option, Some, None, if◌then◌else◌}
use Rattle.core_model.specs.declared.entry.Entry.{Entry}
use Rattle.sha2.specs.Hashers.{Holds512}
use Rattle.packed_journal.specs.declared.chains.Chain.{Chain}
use Rattle.packed_journal.specs.declared.entry_writing.Unwritten.{Unwritten}
use Rattle.packed_journal.specs.declared.entry_writing.Unwritten.TheVariants.{NoForm, TooMany}
use Rattle.packed_journal.specs.Entries.{has_form}
use Rattle.packed_journal.specs.Journals.{Place, is_last}

-- its hasher holds what the block's digest is over so far
pub record Stands (chain : Chain) (place : Place) : Type 0 where
  pub holds : Holds512 chain.hasher place.told
  pub filled : chain.filled ≡ place.filled
  pub number : chain.number ≡ place.number

-- why an entry isn't added to a journal, but for want of memory
abbrev pub barred : Place → Entry → Option Unwritten
barred place entry = if has_form entry then (if is_last place then Some TooMany else None) else Some NoForm
