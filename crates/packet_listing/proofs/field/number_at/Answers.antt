use Rattle.std.proofs.Common.{◌∙◌}
use Rattle.aql_packet.proofs.NumberLemmas.{number_at-drop}
use Rattle.packet_listing.proofs.field.number_at.Goals as goal

pub returns : goal.returns
returns c = c.read_uint.ensures ∙ rw c.split_at.ensures.back (number_at-drop c.args.bytes.now c.args.place c.args.size)
