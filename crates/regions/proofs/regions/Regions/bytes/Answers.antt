-- The bytes of a range that lies whole in one region stand at its place.
use Rattle.regions.proofs.Placing.{numbered_from_one, part_placed}
use Rattle.regions.proofs.regions.Regions.bytes.Goals as goal

pub place_of-place-requires : goal.place_of-place-requires
place_of-place-requires c = numbered_from_one c.args.self.now c.args.address.0 c.args.length c.requires

pub returns-clause-bytes : goal.returns-clause-bytes
returns-clause-bytes c =
    let place = c.place_of-place in
    let is = rw c.self.view_is at c.index.ensures in
    part_placed c.args.self.now c.args.address.0 c.args.length c.requires place.result c.index.result.now c.part.result.now place.ensures.index place.ensures.offset is c.part.ensures
