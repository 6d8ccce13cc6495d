-- A range that is not refused lies at the place of its first address.
use Rattle.std.proofs.Common.{◌≡◌, true, arith}
use Rattle.regions.specs.Memory.{is_within, lengths_of}
use Rattle.regions.proofs.Placing.{placed}
use Rattle.regions.proofs.regions.Regions.locate.Goals as goal

pub returns-clause-place : goal.returns-clause-place
returns-clause-place c =
    let within : is_within (lengths_of c.args.self.now) c.args.address.0 c.args.length ≡ true = grind arith in
    placed c.args.self.now c.args.address.0 c.args.length within c.place_of.result c.place_of.ensures.index c.place_of.ensures.offset
