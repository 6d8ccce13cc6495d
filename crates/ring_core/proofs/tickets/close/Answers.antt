use Rattle.std.proofs.Common.{ap, refl, sym}
use Rattle.std.specs.Prelude.{is_some}
use Rattle.ring_core.proofs.Entries.{without_read, without_missed, eight_read, eight_missed, held_read, held_missed}
use Rattle.ring_core.proofs.tickets.close.Goals as goal

pub returns-in-Some-clause-rest : goal.returns-in-Some-clause-rest
returns-in-Some-clause-rest c = without_read _ _ _ _ _ c.as_slice.ensures.value c.in-Some.ensures c.remove-entry.ensures.items

pub returns-in-Some-clause-eight : goal.returns-in-Some-clause-eight
returns-in-Some-clause-eight c = eight_read _ _ _ _ _ c.as_slice.ensures.value c.in-Some.ensures c.remove-entry.ensures.value c.law_eight_words.ensures

pub returns-in-None-clause-rest : goal.returns-in-None-clause-rest
returns-in-None-clause-rest c = without_missed _ _ _ c.as_slice.ensures.value c.in-None.ensures

pub returns-in-None-clause-eight : goal.returns-in-None-clause-eight
returns-in-None-clause-eight c = eight_missed _ _ _ c.as_slice.ensures.value c.in-None.ensures

pub returns-in-Some-clause-found : goal.returns-in-Some-clause-found
returns-in-Some-clause-found c = ap is_some (held_read _ _ _ _ _ _ c.as_slice.ensures.value refl c.in-Some.ensures c.remove-entry.ensures.value)

pub returns-in-None-clause-found : goal.returns-in-None-clause-found
returns-in-None-clause-found c = sym (ap is_some (held_missed _ _ _ _ c.as_slice.ensures.value refl c.in-None.ensures))
