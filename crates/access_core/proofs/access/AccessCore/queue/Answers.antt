-- The queue that is found is the one of which the history says so.
use Rattle.std.proofs.Common.{◌≡◌, ◌∙◌, ap, option_map, subst, sym}
use Rattle.std.specs.Option.{option_copied}
use Rattle.access_core.specs.inner.CachedQueue.{IsQueue}
use Rattle.access_core.proofs.Seen.{seen}
use Rattle.access_core.proofs.TakeLemmas.{owner-kept}
use Rattle.access_core.proofs.Terms.{History, Queue, cached_opening, cached_view, queue_in}
use Rattle.std.proofs.Common.{List}
use Rattle.access_core.proofs.access.AccessCore.queue.Goals as goal

pub returns : goal.returns
returns c =
    let a = c.self.inside in
    let is : option_copied c.queue_of.result ≡ queue_in a.queues.items c.args.queue = c.queue_of.ensures ∙ ap (λ (qs : List Queue). queue_in qs c.args.queue) c.as_slice.ensures.value in
    subst (λ (h : History). IsQueue h c.args.queue (option_copied c.queue_of.result)) (seen c.self.view_is)
    (record {
      opening = ap (option_map cached_opening) is ∙ sym (owner-kept a c.args.queue c.self.invariant);
      cached_is = ap cached_view is ∙ c.self.invariant.queues c.args.queue;
    })
