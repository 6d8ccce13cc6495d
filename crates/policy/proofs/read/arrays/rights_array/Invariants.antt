use Rattle.std.proofs.Common.{◌≡◌, drop, map, length, []}
use Rattle.toml.specs.View.{view}
use Rattle.policy.specs.Format.{read_each, rights_row}
use Rattle.policy.proofs.read.arrays.rights_array.Given as goal

-- the rows so far, and then the rows that are left, are all rows
abbrev pub invariant-loop-row : goal.invariant-loop-row
invariant-loop-row l = record {
  read : read_each l.section (λ _ row. rights_row l.policy row) l.read (map view (drop l.row-index l.rows))
      ≡ read_each l.section (λ _ row. rights_row l.policy row) [] (map view l.rows);
  count : length l.read ≡ l.row-index;
}
