-- The launch rules that look at a packet's fields.
use Rattle.std.specs.Prelude.{not, List, [], ◌∷◌, Option, Some, None, find}
use Rattle.aql_packet.specs.declared.packet.Packet.{Packet}
use Rattle.queue_error.specs.declared.rule.Rule.{Rule}
use Rattle.queue_error.specs.declared.rule.Rule.TheVariants.{L4, L5, L6, L7, L8, L9, L10}
use Rattle.core_model.specs.LaunchRules.{Facts, meets_rule}
use Rattle.packet_processor.specs.Asked.{AskedPacket}
use Rattle.packet_processor.specs.declared.facts.Verdict.{Verdict}
use Rattle.packet_processor.specs.declared.facts.Verdict.TheVariants.{Launch, Deny}

-- the rules that look at a packet's fields, in the order in which they are tried
abbrev pub rules_of_fields : List Rule
rules_of_fields = L4 ∷ L5 ∷ L6 ∷ L7 ∷ L8 ∷ L9 ∷ L10 ∷ []

-- the first of them that fails
abbrev pub later_failing : Facts → Packet → Option Rule
later_failing facts p = find (λ rule. not (meets_rule facts p rule)) rules_of_fields

-- the verdict on a packet by the first rule that it fails
abbrev pub verdict_if : AskedPacket → Option Rule → Verdict
verdict_if asked None = Launch asked
verdict_if asked (Some rule) = Deny rule
