-- The queue that is taken out is the one of the number.
use Rattle.std.proofs.Common.{◌≡◌, ◌∙◌, ◌-◌, ap, length, sym, true, Some}
use Rattle.access_core.proofs.ChangedQueue.{kept-there}
use Rattle.access_core.proofs.CloseLemmas.{flying-at, taken-out}
use Rattle.access_core.proofs.Terms.{Queue, found-passes, has_number}
use Rattle.access_core.proofs.access.closing.close_open.Goals as goal

pub returns-clause-queues : goal.returns-clause-queues
returns-clause-queues c =
    let qs = c.args.queues.now.items in
    let at = rw c.as_slice.ensures.value at c.open_index.ensures in
    let there = c.requires.there in
    c.remove-closed.ensures.items
    ∙ taken-out 0 c.args.queue qs c.open_index.result there.0 there.2 (sym at.1 ∙ there.1) (found-passes (has_number c.args.queue) qs there.0 there.1)

pub returns-clause-in_flight_count : goal.returns-clause-in_flight_count
returns-clause-in_flight_count c =
    let qs = c.args.queues.now.items in
    let at = rw c.as_slice.ensures.value at c.open_index.ensures in
    let there = c.requires.there in
    let is : c.remove-closed.result ≡ there.0 = kept-there qs c.args.queue c.open_index.result there.0 c.remove-closed.result there.1 at c.remove-closed.ensures.value in
    ap (λ n. c.args.in_flight_count.now - n) (c.len.ensures ∙ ap (λ (q : Queue). length q.places) is ∙ sym (flying-at qs c.args.queue there.0 there.1))
