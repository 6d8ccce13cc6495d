use Rattle.std.proofs.Common.{arith}
use Rattle.policy.specs.Table.{named}
use Rattle.policy.specs.Format.{keys_of, named_row}
use Rattle.policy.proofs.ArrayLemmas.{placed_ok, read_more, length_more}
use Rattle.policy.proofs.read.arrays.named_array.Goals as goal

pub loop-row-preserved : goal.loop-row-preserved
loop-row-preserved g c = record {
  read = read_more c.args.section (named_row (keys_of c.args.section) g.V.NamedRow.reading) c.in_ok-rows.rows.now c.row-item.result c.loop-row.row-index c.loop-row.table c.insert.new.self _ _
      (omega arith) c.row-item.is c.loop-row.invariant.count
      (placed_ok c.args.section _ c.named_row.result _ named _ c.in_ok-name.ensures c.named_row.ensures)
      c.in_ok-insert.ensures.ok c.loop-row.invariant.read;
  count = length_more c.loop-row.table c.insert.new.self _ c.loop-row.row-index c.loop-row.invariant.count c.in_ok-insert.ensures.ok;
}
