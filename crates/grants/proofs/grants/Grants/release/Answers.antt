-- The packet's holds are gone, and the others stand.
use Rattle.std.proofs.Common.{arith, ◌-◌, vec_len, vec_capacity}
use Rattle.grants.proofs.LedgerLemmas.{released}
use Rattle.grants.proofs.grants.Grants.release.Goals as goal

pub returns : goal.returns
returns c =
    let fewer = c.drop_holds.ensures.len in
    let same = c.drop_holds.ensures.capacity in
    released c.self.inside.table c.self.inside.holds.items (vec_capacity c.self.inside.holds - vec_len c.self.inside.holds) c.args.self.now c.self.view_is
    c.args.queue c.args.packet c.uncount_packet.new.table c.drop_holds.new.holds.items (vec_capacity c.drop_holds.new.holds - vec_len c.drop_holds.new.holds)
    c.uncount_packet.ensures.rights c.drop_holds.ensures.rest (omega arith)
    (omega (arith, c.self.inside.holds.ok, c.drop_holds.new.holds.ok))
