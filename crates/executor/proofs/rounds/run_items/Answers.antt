use Rattle.std.proofs.Common.{◌≡◌, None, ◌+◌, ◌-◌, ◌<◌, ◌++◌, ◌∙◌, List, length, slice_index, ap, arith, subst, sym}
use Rattle.std.specs.List.{list_all}
use Rattle.std.specs.Prelude.{drop, map, take}
use Rattle.queue_error.specs.declared.rule.Rule.TheVariants.{A6}
use Rattle.executor.specs.Group.{beginning, faulted, running, least_waiting, waits_before, Leads}
use Rattle.executor.specs.inner.Held.{contents, surroundings}
use Rattle.executor.specs.Runs.{Fails}
use Rattle.executor.specs.inner.Stops.{after, standing, stopped_again, CanGoOnFrom}
use Rattle.executor.specs.declared.fault.RunFault.{RunFault}
use Rattle.executor.specs.declared.item.StoppedItem.{StoppedItem}
use Rattle.executor.proofs.RoundLemmas.{changed_whole, is_done, is_apart, can_go, round_fails, round_goes, round_falls}
use Rattle.executor.proofs.TurnLemmas.{left}
use Rattle.executor.proofs.rounds.run_items.Goals as goal

pub returns-in_default-clause-ok : goal.returns-in_default-clause-ok
returns-in_default-clause-ok c =
    let gone = c.args.count - c.len.result in
    is_done (surroundings c.args.context.now) c.args.program.now c.args.count (contents c.args.memory.now) gone c.rounds.stopped.items
    (contents c.rounds.memory) c.rounds.invariant.1
    (ap (λ (ys : List StoppedItem). least_waiting 0 (after gone (map standing ys))) (sym c.as_slice.ensures.value) ∙ (sym c.least_waiting.ensures ∙ c.in_default.is))

pub returns-then-not-wait_together-clause-err : goal.returns-then-not-wait_together-clause-err
returns-then-not-wait_together-clause-err c =
    let a = surroundings c.args.context.now in
    let p = c.args.program.now in
    let begin = beginning c.args.count (contents c.args.memory.now) in
    let gone = c.args.count - c.len.result in
    let w = c.in-Some.waiter in
    let xs = c.rounds.stopped.items in
    subst (λ (f : RunFault). Fails a p begin f) (sym c.fault.ensures)
    (subst (λ k. Leads a p begin (faulted (record { item = w.number; line = slice_index p.lines k; rule = A6; address = None }))) (sym c.saturating_sub-barrier.ensures)
    (is_apart a p c.args.count (contents c.args.memory.now) gone xs (contents c.rounds.memory) c.rounds.invariant.1 w
    (ap (λ (ys : List StoppedItem). least_waiting 0 (after gone (map standing ys))) (sym c.as_slice.ensures.value) ∙ (sym c.least_waiting.ensures ∙ c.in-Some.is))
    (ap (λ (ys : List StoppedItem). list_all (waits_before w.next) (after gone (map standing ys))) (sym c.as_slice-in-rounds.ensures.value)
    ∙ (sym c.wait_together.ensures ∙ c.if-not-wait_together.true))))

pub run_past_barrier-requires-clause-can : goal.run_past_barrier-requires-clause-can
run_past_barrier-requires-clause-can c =
    let gone = c.args.count - c.len.result in
    let w = c.in-Some.waiter in
    subst (CanGoOnFrom 0) (sym c.as_mut_slice.ensures.value)
    (can_go (surroundings c.args.context.now) c.args.program.now c.args.count (contents c.args.memory.now) gone c.rounds.stopped.items
    (contents c.rounds.memory) c.rounds.invariant.1 w
    (ap (λ (ys : List StoppedItem). least_waiting 0 (after gone (map standing ys))) (sym c.as_slice.ensures.value) ∙ (sym c.least_waiting.ensures ∙ c.in-Some.is))
    (ap (λ (ys : List StoppedItem). list_all (waits_before w.next) (after gone (map standing ys))) (sym c.as_slice-in-rounds.ensures.value)
    ∙ (sym c.wait_together.ensures ∙ c.if-not-wait_together.false)))

pub returns-in-Err-clause-err : goal.returns-in-Err-clause-err
returns-in-Err-clause-err c =
    let a = surroundings c.args.context.now in
    let p = c.args.program.now in
    let m = contents c.rounds.memory in
    let gone = c.args.count - c.len.result in
    let w = c.in-Some.waiter in
    round_fails a p c.args.count (contents c.args.memory.now) gone c.rounds.stopped.items m c.rounds.invariant.1 w
    (ap (λ (ys : List StoppedItem). least_waiting 0 (after gone (map standing ys))) (sym c.as_slice.ensures.value) ∙ (sym c.least_waiting.ensures ∙ c.in-Some.is))
    (ap (λ (ys : List StoppedItem). list_all (waits_before w.next) (after gone (map standing ys))) (sym c.as_slice-in-rounds.ensures.value)
    ∙ (sym c.wait_together.ensures ∙ c.if-not-wait_together.false))
    c.in-Err.fault
    (subst (λ (ys : List StoppedItem). Fails a p (running (stopped_again 0 ys) m) c.in-Err.fault) c.as_mut_slice.ensures.value c.in-Err.ensures.err)

pub rounds-smaller : goal.rounds-smaller
rounds-smaller c =
    let a = surroundings c.args.context.now in
    let p = c.args.program.now in
    let m = contents c.rounds.memory in
    let xs = c.rounds.stopped.items in
    let ys = c.run_past_barrier.new.stopped in
    let gone = c.args.count - c.len.result in
    let w = c.in-Some.waiter in
    let now = contents c.run_past_barrier.new.memory in
    let whole : take c.rounds.stopped.len (ys ++ drop (length ys) xs) ≡ ys =
    changed_whole c.rounds.stopped.len xs ys (omega (arith, c.as_mut_slice.ensures.len, c.in_default-run_past_barrier.ensures.count)) in
    subst (λ (zs : List StoppedItem). left (after gone (map standing zs)) < left (after gone (map standing xs))) (sym whole)
    (round_falls a p c.args.count (contents c.args.memory.now) gone xs m c.rounds.invariant.1 w
    (ap (λ (zs : List StoppedItem). least_waiting 0 (after gone (map standing zs))) (sym c.as_slice.ensures.value) ∙ (sym c.least_waiting.ensures ∙ c.in-Some.is))
    (ap (λ (zs : List StoppedItem). list_all (waits_before w.next) (after gone (map standing zs))) (sym c.as_slice-in-rounds.ensures.value)
    ∙ (sym c.wait_together.ensures ∙ c.if-not-wait_together.false))
    ys now
    (subst (λ (zs : List StoppedItem). Leads a p (running (stopped_again 0 zs) m) (running (map standing ys) now)) c.as_mut_slice.ensures.value
    c.in_default-run_past_barrier.ensures.ok))

pub rounds-preserved : goal.rounds-preserved
rounds-preserved c =
    let a = surroundings c.args.context.now in
    let p = c.args.program.now in
    let m = contents c.rounds.memory in
    let xs = c.rounds.stopped.items in
    let ys = c.run_past_barrier.new.stopped in
    let gone = c.args.count - c.len.result in
    let w = c.in-Some.waiter in
    let now = contents c.run_past_barrier.new.memory in
    let whole : take c.rounds.stopped.len (ys ++ drop (length ys) xs) ≡ ys =
    changed_whole c.rounds.stopped.len xs ys (omega (arith, c.as_mut_slice.ensures.len, c.in_default-run_past_barrier.ensures.count)) in
    subst (λ (zs : List StoppedItem). (gone + length zs ≡ c.args.count) × Leads a p (beginning c.args.count (contents c.args.memory.now)) (running (after gone (map standing zs)) now)) (sym whole) (
      let before = c.rounds.invariant.0 in omega (arith, ap length c.as_mut_slice.ensures.value, c.in_default-run_past_barrier.ensures.count),
      round_goes a p c.args.count (contents c.args.memory.now) gone xs m c.rounds.invariant.1 w
          (ap (λ (zs : List StoppedItem). least_waiting 0 (after gone (map standing zs))) (sym c.as_slice.ensures.value) ∙ (sym c.least_waiting.ensures ∙ c.in-Some.is))
          (ap (λ (zs : List StoppedItem). list_all (waits_before w.next) (after gone (map standing zs))) (sym c.as_slice-in-rounds.ensures.value)
          ∙ (sym c.wait_together.ensures ∙ c.if-not-wait_together.false))
          ys now
          (subst (λ (zs : List StoppedItem). Leads a p (running (stopped_again 0 zs) m) (running (map standing ys) now)) c.as_mut_slice.ensures.value
          c.in_default-run_past_barrier.ensures.ok),
    )
