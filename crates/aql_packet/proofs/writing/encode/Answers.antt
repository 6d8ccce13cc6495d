use Rattle.std.proofs.Common.{rules}
use Rattle.aql_packet.specs.Layout.{PacketOf}
use Rattle.aql_packet.proofs.SpellingLemmas.{laid_is_decoded, law_one_spelling}
use Rattle.aql_packet.proofs.writing.encode.Goals as goal

pub returns-clause-only : goal.returns-clause-only
returns-clause-only c =
    let lays : PacketOf c.bytes_of.result c.args.packet.now = search rules in
    λ bytes others. law_one_spelling c.bytes_of.result bytes c.args.packet.now lays others

pub returns-clause-back : goal.returns-clause-back
returns-clause-back c =
    let lays : PacketOf c.bytes_of.result c.args.packet.now = search rules in
    laid_is_decoded c.bytes_of.result c.args.packet.now lays
