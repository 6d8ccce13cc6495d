-- One hold more stands behind the others and is counted.
use Rattle.std.proofs.Common.{◌∙◌, ◌+◌, arith, ap, sym, subst, get_or}
use Rattle.grants.proofs.Terms.{Agent, IsCounted, Object, Rights, hold_of}
use Rattle.grants.proofs.CellLemmas.{all_at, SameRights-then}
use Rattle.grants.proofs.CountLemmas.{counted_more, put-more}
use Rattle.grants.proofs.counting.put_holds.Goals as goal

abbrev none : Object × Rights
none = (Agent (record { 0 = 0 }), record { 0 = 0 })

pub count_hold-requires-clause-in_force : goal.count_hold-requires-clause-in_force
count_hold-requires-clause-in_force = grind (arith, all_at)

pub loop-object-preserved : goal.loop-object-preserved
loop-object-preserved c =
    let hold = hold_of c.args.queue c.args.packet c.args.client (get_or c.args.rights.now c.loop-object.object-index none) in
    record {
      counted = subst (λ holds. IsCounted c.count_hold.new.self holds) (sym c.push_reserved.ensures.items)
          (counted_more c.loop-object.table c.count_hold.new.self hold c.loop-object.holds.items c.loop-object.invariant.counted c.count_hold.ensures.counts);
      rights = SameRights-then c.args.table.now c.loop-object.table c.count_hold.new.self c.loop-object.invariant.rights c.count_hold.ensures.rights;
      items = put-more (hold_of c.args.queue c.args.packet c.args.client) c.args.holds.now.items c.loop-object.holds.items c.push_reserved.new.self.items
          c.args.rights.now c.loop-object.object-index none c.loop-object-test.true c.loop-object.invariant.items c.push_reserved.ensures.items;
      len = c.push_reserved.ensures.len ∙ ap (λ n. n + 1) c.loop-object.invariant.len ∙ omega arith;
      capacity = c.push_reserved.ensures.capacity ∙ c.loop-object.invariant.capacity;
    }
