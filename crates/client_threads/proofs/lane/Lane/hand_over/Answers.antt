use Rattle.std.proofs.Common.{◌≡◌, ◌+◌, length, rules, ap}
use Rattle.client_threads.proofs.KeptLanes.{handed_keeps}
use Rattle.client_threads.proofs.lane.Lane.hand_over.Goals as goal

pub invariant_of-self : goal.invariant_of-self
invariant_of-self c =
    let a = c.self.inside in
    let len : c.len.result ≡ length a.kept.items = search rules in
    rw (c.clear.ensures.items) (handed_keeps a.queue a.pass a.kept.items a.handed a.pending.items a.front (a.handed + c.len.result) (ap (λ n. a.handed + n) len) c.self.invariant)
