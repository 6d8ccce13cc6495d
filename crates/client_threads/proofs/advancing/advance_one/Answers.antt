use Rattle.std.proofs.Common.{rules, ◌≡◌, ◌<◌, refl, sym, ap, ◌∙◌, length}
use Rattle.client_threads.proofs.Pendings.{left_so, turned_so, advances_so}
use Rattle.client_threads.proofs.advancing.advance_one.Goals as goal
use Rattle.client_threads.proofs.advancing.advance_one.Goals.{then-not-leaves, else-not-leaves}

pub invariant_of-lane : goal.invariant_of-lane
invariant_of-lane c =
    let a = c.lane.inside in
    let some : 0 < length a.pending.items = search rules in
    turned_so a.queue a.pass a.kept.items a.handed a.front a.pending.items c.remove-packet.new.self.items c.remove-packet.result c.left_by.result c.left_by.ensures.same c.lane.invariant some c.remove-packet.ensures.value c.remove-packet.ensures.items
    c.push_reserved.new.self.items c.push_reserved.ensures.items

pub invariant_of-lane-else-not-leaves : goal.invariant_of-lane-else-not-leaves
invariant_of-lane-else-not-leaves c =
    let a = c.lane.inside in
    let some : 0 < length a.pending.items = search rules in
    left_so a.queue a.pass a.kept.items a.handed a.front a.pending.items c.remove-packet.new.self.items c.remove-packet.result c.remove-packet.result (refl, refl) c.lane.invariant some c.remove-packet.ensures.value c.remove-packet.ensures.items

pub returns : goal.returns
returns c =
    let a = c.lane.inside in
    let some : 0 < length a.pending.items = search rules in
    elim c.if-not-leaves.branch [
      | then-not-leaves w ↦
          rw (w.lane-is, ← c.lane.view_is)
          (advances_so a.queue a.pass a.kept.items a.handed a.front a.pending.items c.remove-packet.new.self.items c.remove-packet.result w.left_by.result w.left_by.ensures.same c.lane.invariant some c.remove-packet.ensures.value c.remove-packet.ensures.items
          c.args.core.now.history c.call-reply.new.core.history c.call-reply.ensures.0 c.call-reply.result c.told.result w.push_reserved.new.self.items c.call-reply.ensures.1 c.call-reply.ensures.2 c.told.ensures (rw (← c.leaves.ensures, w.if-not-leaves.true) w.push_reserved.ensures.items))
      | else-not-leaves w ↦
          rw (w.lane-is, ← c.lane.view_is)
          (advances_so a.queue a.pass a.kept.items a.handed a.front a.pending.items c.remove-packet.new.self.items c.remove-packet.result c.remove-packet.result (refl, refl) c.lane.invariant some c.remove-packet.ensures.value c.remove-packet.ensures.items
          c.args.core.now.history c.call-reply.new.core.history c.call-reply.ensures.0 c.call-reply.result c.told.result c.remove-packet.new.self.items c.call-reply.ensures.1 c.call-reply.ensures.2 c.told.ensures (rw (← c.leaves.ensures, w.if-not-leaves.false) refl))
    ]
