use Rattle.std.proofs.Common.{refl}
use Rattle.ring_core.specs.Tickets.{writing}
use Rattle.ring_core.proofs.Entries.{changed_read, changed_missed}
use Rattle.ring_core.proofs.tickets.write.Goals as goal

pub returns-in-Some : goal.returns-in-Some
returns-in-Some c = rw c.with_word-entry.ensures (changed_read _ (writing c.args.place c.args.word) _ _ _ _ _ c.as_slice.ensures.value refl c.in-Some.ensures c.index_mut-entry.ensures.value)

pub returns-in_default : goal.returns-in_default
returns-in_default c = changed_missed _ (writing c.args.place c.args.word) _ _ _ c.as_slice.ensures.value refl c.in_default.ensures
