use Rattle.std.specs.Box.{boxed_slice_items}
use Rattle.std.proofs.Common.{◌≡◌, length, set, replicate}
use Rattle.std.proofs.lemmas.List.{length-replicate}
use Rattle.regions.specs.Place.{IsPlaceOf}
use Rattle.regions.proofs.Written.{Leaves, write_leaves, replicate_small}
use Rattle.regions.proofs.regions.Regions.fill.Goals as goal
use Rattle.regions.proofs.regions.Regions.fill.Goals.{After-fill}

left : (c : After-fill) → Leaves c.args.self.now c.args.address.0 (replicate c.args.length c.args.byte) (set (boxed_slice_items c.self.inside.regions) c.in_ok-place.place.index c.fill.new.self)
left c =
    let long : length (replicate c.args.length c.args.byte) ≡ c.args.length = length-replicate c.args.length c.args.byte in
    let at : IsPlaceOf c.args.self.now c.args.address.0 (length (replicate c.args.length c.args.byte)) c.in_ok-place.place =
    rw long c.in_ok-place.ensures.place in
    write_leaves c.args.self.now (boxed_slice_items c.self.inside.regions) c.args.address.0 c.in_ok-place.place (replicate c.args.length c.args.byte)
    c.index_mut.result.now c.fill.new.self c.self.view_is c.self.invariant at
    (replicate_small c.args.length c.args.byte c.ranges.byte.fits) c.index_mut.ensures.value c.fill.ensures

pub invariant_of-self : goal.invariant_of-self
invariant_of-self c = (left ((goal.at.invariant_of-self c).After-fill)).memory

pub returns-clause-bytes : goal.returns-clause-bytes
returns-clause-bytes c = (left ((goal.at.returns-clause-bytes c).After-fill)).written

pub returns-clause-lengths : goal.returns-clause-lengths
returns-clause-lengths c = (left ((goal.at.returns-clause-lengths c).After-fill)).lengths

pub returns-clause-memory : goal.returns-clause-memory
returns-clause-memory c = (left ((goal.at.returns-clause-memory c).After-fill)).memory
