-- The load's packets (own).
use Rattle.std.specs.Prelude.{ℕ, ◌*◌, false, [], ◌∷◌}
use Rattle.aql_packet.specs.declared.ids.RegionHandle.{RegionHandle}
use Rattle.aql_packet.specs.Memory.{region_span}
use Rattle.aql_packet.specs.declared.packet.Packet.{Packet}
use Rattle.aql_packet.specs.declared.packet.Packet.TheVariants.{Agent}
use Rattle.aql_packet.specs.declared.packet.Scope.TheVariants.{System}
use Rattle.core_model.specs.Limits.{add64_number}

-- ADD64 of 1 to the number at a region's start, with neither a place for its result nor a completion signal (own)
abbrev pub addition : RegionHandle → Packet
addition region = Agent (record {
  header = record { barrier = false; acquire = System; release = System };
  function = add64_number;
  return_address = record { 0 = 0 };
  arguments = region.0 * region_span ∷ 1 ∷ 0 ∷ 0 ∷ [];
  completion_signal = record { 0 = 0 };
})
