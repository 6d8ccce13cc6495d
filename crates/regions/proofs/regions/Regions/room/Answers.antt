use Rattle.std.proofs.Common.{◌∙◌, ap, unwrap_or, Option, ℕ}
use Rattle.regions.proofs.Lookups.{unwrap_or-length_of_region}
use Rattle.regions.specs.Memory.{lengths_of}
use Rattle.regions.proofs.regions.Regions.room.Goals as goal

pub returns-clause-room : goal.returns-clause-room
returns-clause-room c =
    c.unwrap_or.ensures ∙ ap (λ (o : Option ℕ). unwrap_or o 0) c.length.ensures.length
    ∙ unwrap_or-length_of_region (lengths_of c.args.self.now) c.args.region.0
