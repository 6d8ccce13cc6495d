-- After the greatest number there is no entry.
use Rattle.std.proofs.Common.{◌+◌, ◌-◌, length, ap, arith}
use Rattle.hobbydresser_c.proofs.Numbers.{past_all}
use Rattle.hobbydresser_c.proofs.journals.entry_after.Goals as goal

pub returns-then-number-eq18446744073709551615-clause-entry : goal.returns-then-number-eq18446744073709551615-clause-entry
returns-then-number-eq18446744073709551615-clause-entry c =
    past_all c.args.core.now.history.entries (c.args.number + 1 - c.args.core.now.history.origin.before)
    (omega (arith, c.entries_before.ensures.before, c.entries_before.ensures.few, ap length c.audit.ensures.entries, c.audit.ensures.few))
