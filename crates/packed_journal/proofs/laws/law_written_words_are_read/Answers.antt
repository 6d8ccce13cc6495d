use Rattle.packed_journal.proofs.NumberLaws.{number_read, signed_read}
use Rattle.packed_journal.proofs.PartLaws.{flags_read, digest_read}
use Rattle.packed_journal.proofs.PacketForms.{packet_back}
use Rattle.packed_journal.proofs.Forms.{bytes_back}
use Rattle.packed_journal.proofs.laws.law_written_words_are_read.Goals as goal

pub returns-clause-number : goal.returns-clause-number
returns-clause-number c bits n rest f = number_read bits n rest f

pub returns-clause-signed : goal.returns-clause-signed
returns-clause-signed c z rest f = signed_read z rest f

pub returns-clause-bytes : goal.returns-clause-bytes
returns-clause-bytes c bytes rest f = bytes_back bytes rest f

pub returns-clause-packet : goal.returns-clause-packet
returns-clause-packet c bytes rest f = packet_back bytes rest f

pub returns-clause-flags : goal.returns-clause-flags
returns-clause-flags c flags rest f = flags_read flags rest f

pub returns-clause-digest : goal.returns-clause-digest
returns-clause-digest c bytes rest f = digest_read bytes rest f
