use Rattle.std.proofs.Common.{arith}
use Rattle.policy.specs.Format.{rights_row}
use Rattle.policy.proofs.ArrayLemmas.{placed_ok, read_more, length_more}
use Rattle.policy.proofs.read.arrays.rights_array.Goals as goal

pub loop-row-preserved : goal.loop-row-preserved
loop-row-preserved c = record {
  read = read_more c.args.section (λ _ row. rights_row c.args.policy.now row) c.in_ok-rows.rows.now c.row-item.result c.loop-row.row-index c.loop-row.read c.push.new.self _ _
      (omega arith) c.row-item.is c.loop-row.invariant.count
      (placed_ok c.args.section _ c.rights_row.result _ (λ x. x) _ c.in_ok-placed.ensures c.rights_row.ensures)
      c.in_ok-push.ensures.items c.loop-row.invariant.read;
  count = length_more c.loop-row.read c.push.new.self _ c.loop-row.row-index c.loop-row.invariant.count c.in_ok-push.ensures.items;
}
