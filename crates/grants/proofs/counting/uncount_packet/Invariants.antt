-- The holds that are left of those so far, and all behind them, are counted, and what is in force stays.
use Rattle.std.proofs.Common.{not}
use Rattle.grants.proofs.Terms.{IsCounted, SameRights, is_of}
use Rattle.grants.proofs.CountLemmas.{kept_to}
use Rattle.grants.proofs.counting.uncount_packet.Given as goal

abbrev pub invariant-loop-hold : goal.invariant-loop-hold
invariant-loop-hold l = record {
  counted : IsCounted l.table (kept_to (λ hold. not (is_of l.queue l.packet hold)) l.holds l.hold-index);
  rights : SameRights l.fn.table l.table;
}
