use Rattle.std.proofs.Common.{◌≡◌, ◌+◌, ap, length, rules}
use Rattle.client_threads.specs.Lanes.{LaneSeen}
use Rattle.threads_load.proofs.Belonging.{all_keep, kept_ends, kept_lanes, new_ends, new_lane, rings_more}
use Rattle.client_threads.specs.Boards.{FrontSeen}
use Rattle.threads_load.proofs.Planned.{opened_next}
use Rattle.threads_load.proofs.Produced.{unused_more, unused_opened}
use Rattle.threads_load.proofs.Shares.{lane_shares, some_share}
use Rattle.threads_load.proofs.opening.open_next.Goals as goal

pub put_queue-requires-clause-more : goal.put_queue-requires-clause-more
put_queue-requires-clause-more g c = new_ends _ _ _ _ _ _ _ _ c.in-Ok.ensures.opened

pub put_queue-requires-clause-ends : goal.put_queue-requires-clause-ends
put_queue-requires-clause-ends g c = kept_ends _ _ _ _ _ _ _ _ c.args.ends.now.items c.in-Ok.ensures.opened c.requires.ends

pub put_queue-requires-clause-lanes : goal.put_queue-requires-clause-lanes
put_queue-requires-clause-lanes g c = kept_lanes g.B.Room.board _ _ _ _ _ _ _ _ c.args.lanes.now.items c.in-Ok.ensures.opened c.requires.lanes

pub put_queue-requires-clause-lane : goal.put_queue-requires-clause-lane
put_queue-requires-clause-lane g c = new_lane g.B.Room.board _ _ _ _ _ _ _ _ c.in-Ok.ensures.opened c.in-Ok.ensures.front

pub returns-in-Ok-put_queue-clause-queues : goal.returns-in-Ok-put_queue-clause-queues
returns-in-Ok-put_queue-clause-queues g c = λ before are.
    let number : c.in-Ok.opened.0.0 ≡ length c.args.lanes.now.items + 1 = search rules in
    opened_next c.args.planned c.in-Ok.opened.0 before c.args.lanes.now.items c.put_queue.new.lanes.items c.in-Ok.opened.2
    number (ap (λ (l : LaneSeen). l.queue) c.in-Ok.ensures.opened.lane_is) c.in-Ok-put_queue.ensures.put are

pub returns-in-Ok-put_queue-clause-keeps : goal.returns-in-Ok-put_queue-clause-keeps
returns-in-Ok-put_queue-clause-keeps g c = all_keep _ _ _ _ _ _ _ _ c.args.lanes.now.items c.put_queue.new.lanes.items c.in-Ok.ensures.opened c.in-Ok-put_queue.ensures.put

pub open_queue-requires : goal.open_queue-requires
open_queue-requires g c = record { front = (c.requires.front, some_share c.args.front.now c.args.lanes.now.items c.requires.shares) }

pub returns-in-Ok-put_queue-clause-shares : goal.returns-in-Ok-put_queue-clause-shares
returns-in-Ok-put_queue-clause-shares g c =
    let number : c.in-Ok.opened.0.0 ≡ length c.args.lanes.now.items + 1 = search rules in
    let s = c.in-Ok.ensures.section in
    lane_shares c.args.front.now c.open_queue.new.front c.args.lanes.now.items c.put_queue.new.lanes.items c.in-Ok.opened.2 _ _ _ c.in-Ok.opened.0
    (ap (λ (f : FrontSeen). f.share) s.new_is) (ap (λ (l : LaneSeen). l.front.share) c.in-Ok.ensures.opened.lane_is) c.in-Ok-put_queue.ensures.put s.did number c.requires.shares

pub returns-in-Ok-put_queue-clause-unused : goal.returns-in-Ok-put_queue-clause-unused
returns-in-Ok-put_queue-clause-unused g c = λ unused. unused_more c.args.ends.now.items c.in-Ok.opened.1.items c.put_queue.new.ends.items c.in-Ok-put_queue.ensures.put_ends unused (unused_opened _ _ _ _ _ _ _ _ c.in-Ok.ensures.opened)

pub returns-in-Ok-put_queue-clause-rings : goal.returns-in-Ok-put_queue-clause-rings
returns-in-Ok-put_queue-clause-rings g c = rings_more c.args.producers _ _ _ _ _ _ c.in-Ok.ensures.opened
