use Rattle.std.proofs.Common.{◌≡◌, ◌<◌, ◌++◌, ◌∙◌, arith, length}
use Rattle.threads_load.proofs.Counted.{half_all, half_one, length_set}
use Rattle.threads_load.proofs.counting.count_on.Goals as goal

pub loop-place-preserved : goal.loop-place-preserved
loop-place-preserved c =
    let place = c.loop-place.place in
    let counts = c.loop-place.counts.items in
    let within : place < length counts = omega (arith, c.loop-place.invariant.0) in (
      length_set counts place c.in_ok-counts.field-0 ∙ c.loop-place.invariant.0,
      λ before queues are.
          let half = c.loop-place.invariant.1 before queues are in
          half_one before (before ++ c.args.entries.now) queues place counts c.in_ok-counts.field-0 within half
          (c.in_ok-counts.ensures before (c.index.ensures ∙ half.left place _ (omega arith) within)),
    )

pub returns : goal.returns
returns c = λ before queues are. half_all before (before ++ c.args.entries.now) queues c.loop-place.place c.loop-place.counts.items (omega arith) (c.loop-place.invariant.1 before queues are)
