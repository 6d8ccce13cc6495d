-- Steps in turn, up to one that is refused.
use Rattle.std.proofs.Common.{Err, refl}
use Rattle.world.specs.declared.reply.Refusal.{Refusal}
use Rattle.world.specs.States.{Joined}
use Rattle.world.specs.Actions.{Action, and_then}

-- what was done was refused
pub stopped : {X Y : Type 0} (first : Action X) (next : X → Action Y) (why : Refusal) (old mid : Joined) →
    first old (Err why) mid → and_then first next old (Err why) mid
stopped first next why old mid done = (Err why, mid, done, (refl, refl))
