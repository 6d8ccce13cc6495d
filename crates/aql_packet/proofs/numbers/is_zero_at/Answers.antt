use Rattle.std.proofs.Common.{ap, ◌∙◌, ◌==◌}
use Rattle.aql_packet.proofs.NumberLemmas.{number_at-drop}
use Rattle.aql_packet.proofs.numbers.is_zero_at.Goals as goal

pub returns : goal.returns
returns c =
    ap (λ number. number == 0) (c.read_uint.ensures ∙ rw c.split_at.ensures.back (number_at-drop c.args.bytes.now c.args.place c.args.size))
