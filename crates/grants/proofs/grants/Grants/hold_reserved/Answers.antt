-- The packet's holds stand behind the others.
use Rattle.std.specs.Prelude.{vec_len, vec_capacity, ◌-◌}
use Rattle.grants.proofs.LedgerLemmas.{held_more}
use Rattle.grants.proofs.grants.Grants.hold_reserved.Goals as goal

pub returns-clause-holds : goal.returns-clause-holds
returns-clause-holds c =
    held_more c.self.inside.table c.self.inside.holds.items (vec_capacity c.self.inside.holds - vec_len c.self.inside.holds) c.args.self.now c.self.view_is
    c.args.client c.args.queue c.args.packet c.args.rights.now c.put_holds.new.table c.put_holds.new.holds.items
    (vec_capacity c.put_holds.new.holds - vec_len c.put_holds.new.holds) c.put_holds.ensures.rights c.put_holds.ensures.items
