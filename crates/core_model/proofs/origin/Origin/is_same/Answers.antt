-- Two origins are the same where all their parts are.
use Rattle.core_model.proofs.Sameness.{same-origin}
use Rattle.core_model.proofs.origin.Origin.is_same.Goals as goal

pub returns : goal.returns
returns c =
    same-origin c.args.self.now c.args.other.now c.as_slice.result.now c.as_slice-2.result.now c.as_slice-3.result.now c.as_slice-4.result.now
    c.as_slice.ensures.items c.as_slice-2.ensures.items c.as_slice-3.ensures.items c.as_slice-4.ensures.items
    c.is_same_policy.result c.is_same.result c.is_same-2.result c.is_same-3.result c.are_same_queues.result c.are_same_packets.result
    c.is_same_policy.ensures c.is_same.ensures c.is_same-2.ensures c.is_same-3.ensures c.are_same_queues.ensures c.are_same_packets.ensures
