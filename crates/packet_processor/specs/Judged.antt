-- What a packet is judged by, as the launch rules see it, and the verdict.
use Rattle.std.specs.Prelude.{◌≡◌, ℕ, List, Some, None}
use Rattle.aql_packet.specs.Reading.{decoded}
use Rattle.regions.specs.Memory.{lengths_of}
use Rattle.grants.specs.Ledger.{in_force}
use Rattle.core_model.specs.LaunchRules.{Facts, first_failing_rule}
use Rattle.packet_processor.specs.declared.facts.Facts.{Facts as Lent}
use Rattle.packet_processor.specs.declared.facts.Verdict.{Verdict}
use Rattle.packet_processor.specs.declared.facts.Verdict.TheVariants.{Launch, Deny}

-- the facts that are lent, as the launch rules see them
abbrev pub facts_seen : Lent → Facts
facts_seen lent = record {
  agent = lent.agent;
  takes = lent.takes;
  in_force = in_force lent.grants.now lent.client;
  lengths = lengths_of lent.regions.now;
  kernels = lent.kernels.now;
}

-- bytes were judged: no rule fails and they lay out the packet, for the agent that runs it, or this is the first rule that fails
abbrev pub Judges : Facts → List ℕ → Verdict → Type 0
Judges facts bytes (Launch asked) =
    (decoded bytes ≡ Some asked.packet) × (first_failing_rule facts bytes ≡ None) × (asked.agent ≡ facts.agent)
Judges facts bytes (Deny rule) = first_failing_rule facts bytes ≡ Some rule
