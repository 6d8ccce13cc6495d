-- The next record is told.
use Rattle.std.proofs.Common.{arith}
use Rattle.hobbydresser_c.specs.Told.{held_told}
use Rattle.hobbydresser_c.proofs.Records.{record-put}
use Rattle.hobbydresser_c.proofs.listing.put_listing.Goals as goal

pub rows-preserved : goal.rows-preserved
rows-preserved c =
    record-put held_told c.args.rows.now c.args.out.now c.rows.out c.rows.place _ c.held_told.result c.rows.invariant c.held_told.ensures
    (omega arith) (omega (arith, c.requires))
