-- Bytes are laid at the place of their range, which lies whole in one region.
use Rattle.std.specs.Box.{boxed_slice_items}
use Rattle.std.proofs.Common.{length, set}
use Rattle.regions.proofs.Placing.{numbered_from_one, placed}
use Rattle.regions.proofs.Written.{Leaves, write_leaves, bytes_small}
use Rattle.regions.proofs.regions.Regions.lay.Goals as goal
use Rattle.regions.proofs.regions.Regions.lay.Goals.{After-put}

pub place_of-place-requires : goal.place_of-place-requires
place_of-place-requires c = numbered_from_one c.args.self.now c.args.address.0 (length c.args.bytes.now) c.requires

left : (c : After-put) → Leaves c.args.self.now c.args.address.0 c.args.bytes.now (set (boxed_slice_items c.self.inside.regions) c.place_of-place.result.index c.put.new.self)
left c =
    let at = placed c.args.self.now c.args.address.0 (length c.args.bytes.now) c.requires c.place_of-place.result c.place_of-place.ensures.index c.place_of-place.ensures.offset in
    write_leaves c.args.self.now (boxed_slice_items c.self.inside.regions) c.args.address.0 c.place_of-place.result c.args.bytes.now
    c.index_mut.result.now c.put.new.self c.self.view_is c.self.invariant at
    (bytes_small c.args.bytes.now c.type_inv.bytes) c.index_mut.ensures.value c.put.ensures

pub invariant_of-self : goal.invariant_of-self
invariant_of-self c = (left ((goal.at.invariant_of-self c).After-put)).memory

pub returns-clause-bytes : goal.returns-clause-bytes
returns-clause-bytes c = (left ((goal.at.returns-clause-bytes c).After-put)).written

pub returns-clause-lengths : goal.returns-clause-lengths
returns-clause-lengths c = (left ((goal.at.returns-clause-lengths c).After-put)).lengths

pub returns-clause-memory : goal.returns-clause-memory
returns-clause-memory c = (left ((goal.at.returns-clause-memory c).After-put)).memory
