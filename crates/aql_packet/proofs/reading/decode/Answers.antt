use Rattle.std.proofs.Common.{Ok, sym, ap}
use Rattle.aql_packet.specs.Reading.{packet_at, packet_type}
use Rattle.aql_packet.proofs.ReadingLemmas.{decoded_is, laid_is_read, laid_is_well_formed, read_is_laid, refused_not_laid}
use Rattle.aql_packet.proofs.reading.decode.Goals as goal

pub returns-in-Some-clause-only : goal.returns-in-Some-clause-only
returns-in-Some-clause-only c = λ packet lays. absurd (refused_not_laid c.args.bytes.now c.in-Some.rule packet (sym c.in-Some.ensures) lays)

pub returns-in-None-clause-found : goal.returns-in-None-clause-found
returns-in-None-clause-found c = rw c.packet.ensures (read_is_laid c.args.bytes.now (sym c.in-None.ensures))

pub returns-in-None-clause-only : goal.returns-in-None-clause-only
returns-in-None-clause-only c = λ packet lays. rw c.packet.ensures (ap (λ read. Ok read) (laid_is_read c.args.bytes.now packet lays).1)

pub returns-in-None-clause-exact : goal.returns-in-None-clause-exact
returns-in-None-clause-exact c = rw c.packet.ensures (decoded_is c.args.bytes.now (sym c.in-None.ensures))

pub returns-in-None-clause-spelled : goal.returns-in-None-clause-spelled
returns-in-None-clause-spelled c = rw c.packet.ensures (laid_is_well_formed c.args.bytes.now (packet_at (packet_type c.args.bytes.now) c.args.bytes.now) (read_is_laid c.args.bytes.now (sym c.in-None.ensures)).layout)
