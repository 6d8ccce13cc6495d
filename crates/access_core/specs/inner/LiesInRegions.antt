-- What packets in flight reach.
use Rattle.std.specs.Prelude.{ℕ, Bool, List}
use Rattle.std.specs.List.{list_all}
use Rattle.aql_packet.specs.declared.packet.Packet.{Packet}
use Rattle.core_model.specs.Needs.{memory_needs}
use Rattle.core_model.specs.LaunchRules.{lies_whole}

-- whether all ranges that a packet needs lie whole in regions
abbrev pub lies_in_regions : List ℕ → Packet → Bool
lies_in_regions lengths p = list_all (λ need. lies_whole lengths need.subject) (memory_needs p)
