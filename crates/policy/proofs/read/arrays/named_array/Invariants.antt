use Rattle.std.proofs.Common.{◌≡◌, drop, map, length, []}
use Rattle.toml.specs.View.{view}
use Rattle.policy.specs.Format.{read_each, keys_of, named_row}
use Rattle.policy.proofs.read.arrays.named_array.Given as goal

-- the rows so far, and then the rows that are left, are all rows
abbrev pub invariant-loop-row : goal.invariant-loop-row
invariant-loop-row g l = record {
  read : read_each l.section (named_row (keys_of l.section) g.V.NamedRow.reading) l.table (map view (drop l.row-index l.rows))
      ≡ read_each l.section (named_row (keys_of l.section) g.V.NamedRow.reading) [] (map view l.rows);
  count : length l.table ≡ l.row-index;
}
