use Rattle.std.proofs.Common.{Some, ap, eq-eqb, sym, ◌∙◌}
use Rattle.std.proofs.lemmas.Option.{slice_get-get_or}
use Rattle.client_threads.proofs.RingOfDesks.{found_at}
use Rattle.client_threads.proofs.broker.desk_at.Goals as goal

pub returns-then-desk-queue : goal.returns-then-desk-queue
returns-then-desk-queue c =
    let desks = c.args.desks.now in
    let place = c.in_ok-checked_sub.field-0 in
    let desk = c.in_ok-desk.desk.now in
    let there = c.in_ok-desk.ensures.lookup.3 in
    found_at c.args.queue.0 desks place desk c.requires.apart (slice_get-get_or desks place desk there.0 ∙ ap Some (sym (there.1 desk))) (eq-eqb _ _ c.if-desk-queue.true)
