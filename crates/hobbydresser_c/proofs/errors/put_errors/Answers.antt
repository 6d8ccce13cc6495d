-- The next record is told.
use Rattle.std.proofs.Common.{arith}
use Rattle.hobbydresser_c.specs.Told.{error_told}
use Rattle.hobbydresser_c.proofs.Records.{record-put}
use Rattle.hobbydresser_c.proofs.errors.put_errors.Goals as goal

pub rows-preserved : goal.rows-preserved
rows-preserved c =
    record-put error_told c.args.rows.now c.args.out.now c.rows.out c.rows.place _ c.error_told.result c.rows.invariant c.error_told.ensures
    (omega arith) (omega (arith, c.requires))
