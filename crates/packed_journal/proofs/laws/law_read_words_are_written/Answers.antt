use Rattle.packed_journal.specs.Words.{Flags, flags_at, number_at, packed, packed_number, signed_at, zigzag}
use Rattle.packed_journal.proofs.NumberLaws.{number_tells, signed_tells}
use Rattle.packed_journal.proofs.PartLaws.{digest_told, flags_tells}
use Rattle.packed_journal.proofs.PacketForms.{packet_told}
use Rattle.packed_journal.proofs.Forms.{bytes_told}
use Rattle.packed_journal.proofs.Tells.{told}
use Rattle.packed_journal.proofs.laws.law_read_words_are_written.Goals as goal

pub returns-clause-number : goal.returns-clause-number
returns-clause-number c bits n bytes rest e = told packed_number bytes (number_at bits bytes) n rest (number_tells bits bytes) e

pub returns-clause-signed : goal.returns-clause-signed
returns-clause-signed c z bytes rest e = told (λ z. packed_number (zigzag z)) bytes (signed_at bytes) z rest (signed_tells bytes) e

pub returns-clause-bytes : goal.returns-clause-bytes
returns-clause-bytes c read bytes rest e = bytes_told read bytes rest e

pub returns-clause-packet : goal.returns-clause-packet
returns-clause-packet c read bytes rest e = packet_told bytes read rest e

pub returns-clause-flags : goal.returns-clause-flags
returns-clause-flags c flags bytes rest e = told (λ flags. packed (Flags flags)) bytes (flags_at bytes) flags rest (flags_tells bytes) e

pub returns-clause-digest : goal.returns-clause-digest
returns-clause-digest c read bytes rest e = digest_told bytes read rest e
