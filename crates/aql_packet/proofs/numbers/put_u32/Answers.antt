use Rattle.aql_packet.proofs.NumberLemmas.{written-parts}
use Rattle.aql_packet.proofs.numbers.put_u32.Goals as goal

pub returns-clause-value : goal.returns-clause-value
returns-clause-value c =
    rw (c.write_u32.ensures, c.split_at_mut.ensures.front, c.split_at_mut.ensures.back) (written-parts c.args.bytes.now c.args.place 4 c.args.number)
