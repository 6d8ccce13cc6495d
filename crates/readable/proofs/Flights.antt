-- The packets in flight, by the entries of an audit.
use Rattle.std.proofs.Common.{◌≡◌, ℕ, List, Some, None, fold, map, refl, ap, ◌∙◌}
use Rattle.aql_packet.specs.declared.packet.CodecRule.{CodecRule}
use Rattle.aql_packet.specs.Reading.{refusal, decoded}
use Rattle.core_model.specs.declared.flight.InFlight.{InFlight}
use Rattle.core_model.specs.Flight.{flight, flight_after}
use Rattle.core_model.specs.History.{beginning}
use Rattle.world.specs.States.{Joined}

pub refused : (bytes : List ℕ) (rule : CodecRule) → refusal bytes ≡ Some rule → decoded bytes ≡ None
unfolding decoded
refused bytes rule e = rw e refl

-- those of a world: those that it began with, behind its entries
pub flight_told : (world : Joined) (before after : List InFlight) → before ≡ map (λ p. p.flying) world.core.origin.packets →
    after ≡ fold flight_after before world.core.entries → after ≡ flight (beginning world.core) world.core.entries
unfolding flight
flight_told world before after is behind = behind ∙ ap (λ before. fold flight_after before world.core.entries) is
