-- The holds so far stand behind the others and are counted, and what is in force stays.
use Rattle.std.proofs.Common.{◌≡◌, ◌+◌, ◌++◌, map, take, vec_len, vec_capacity}
use Rattle.grants.proofs.Terms.{IsCounted, SameRights, hold_of}
use Rattle.grants.proofs.counting.put_holds.Given as goal

abbrev pub invariant-loop-object : goal.invariant-loop-object
invariant-loop-object l = record {
  counted : IsCounted l.table l.holds.items;
  rights : SameRights l.fn.table l.table;
  items : l.holds.items ≡ l.fn.holds.items ++ map (hold_of l.queue l.packet l.client) (take l.object-index l.rights);
  len : vec_len l.holds ≡ vec_len l.fn.holds + l.object-index;
  capacity : vec_capacity l.holds ≡ vec_capacity l.fn.holds;
}
