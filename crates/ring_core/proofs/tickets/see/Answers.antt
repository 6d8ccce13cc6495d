use Rattle.std.proofs.Common.{ap, refl, sym}
use Rattle.std.specs.Prelude.{is_some}
use Rattle.ring_core.specs.Tickets.{seeing}
use Rattle.ring_core.proofs.Entries.{changed_read, changed_missed, held_read, held_missed}
use Rattle.ring_core.proofs.tickets.see.Goals as goal

pub returns-in-Some-clause-found : goal.returns-in-Some-clause-found
returns-in-Some-clause-found c = ap is_some (held_read _ _ _ _ _ _ c.as_slice.ensures.value refl c.in-Some.ensures c.index_mut.ensures.value)

pub returns-in-Some-clause-saw : goal.returns-in-Some-clause-saw
returns-in-Some-clause-saw c = changed_read _ (seeing c.args.read_index) _ _ _ _ _ c.as_slice.ensures.value refl c.in-Some.ensures c.index_mut.ensures.value

pub returns-in-None-clause-found : goal.returns-in-None-clause-found
returns-in-None-clause-found c = sym (ap is_some (held_missed _ _ _ _ c.as_slice.ensures.value refl c.in-None.ensures))

pub returns-in-None-clause-saw : goal.returns-in-None-clause-saw
returns-in-None-clause-saw c = changed_missed _ (seeing c.args.read_index) _ _ _ c.as_slice.ensures.value refl c.in-None.ensures
