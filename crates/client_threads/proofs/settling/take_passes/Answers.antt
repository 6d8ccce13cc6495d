use Rattle.std.proofs.Common.{◌≡◌, ◌<◌, length, rules, sym, ap, true, ◌∙◌, ◌==◌}
use Rattle.client_threads.specs.declared.client_end.ClientEnd.{ClientEnd}
use Rattle.client_threads.proofs.Ends.{move_one, same_item}
use Rattle.client_threads.proofs.settling.take_passes.Goals as goal

pub loop-place-preserved-then-index-queue : goal.loop-place-preserved-then-index-queue
loop-place-preserved-then-index-queue c =
    let lt : c.loop-place.place < length c.loop-place.ends.items = search rules in
    let same : c.remove-pass.result ≡ c.index.result.now = same_item c.loop-place.ends.items c.loop-place.place c.remove-pass.result c.index.result.now lt (sym c.remove-pass.ensures.value) (search rules) in
    let own : (c.index.result.now.queue.0 == c.args.queue.0) ≡ true = search rules in
    let its : (c.remove-pass.result.queue.0 == c.args.queue.0) ≡ true = ap (λ (e : ClientEnd). e.queue.0 == c.args.queue.0) same ∙ own in (
      rw (c.remove-pass.ensures.items, c.push_reserved.ensures.items)
          (move_one c.args.ends.now.items c.args.queue.0 c.loop-place.place c.loop-place.ends.items c.loop-place.passes.items c.remove-pass.result c.loop-place.invariant.0 lt (sym c.remove-pass.ensures.value) its),
      rw c.push_reserved.ensures.capacity c.loop-place.invariant.1,
    )
