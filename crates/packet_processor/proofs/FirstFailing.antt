-- The launch rules are those of the layout, and then those of the fields.
use Rattle.std.proofs.Common.{◌≡◌, ℕ, List, refl, sym, subst, ◌∙◌, ap, Bool, Option, Some, None, arith}
use Rattle.std.specs.Prelude.{not, if◌then◌else◌}
use Rattle.aql_packet.specs.declared.packet.Packet.{Packet}
use Rattle.aql_packet.specs.declared.packet.CodecRule.{CodecRule}
use Rattle.aql_packet.specs.declared.packet.CodecRule.TheVariants as codec
use Rattle.aql_packet.specs.Reading.{passes, refusal, decoded, packet_at, packet_type}
use Rattle.aql_packet.proofs.ReadingLemmas.{decoded_is}
use Rattle.queue_error.specs.declared.rule.Rule.{Rule}
use Rattle.queue_error.specs.declared.rule.Rule.TheVariants as rule
use Rattle.queue_error.specs.Texts.{rule_of}
use Rattle.core_model.specs.LaunchRules.{Facts, first_failing_rule}
use Rattle.packet_processor.specs.Asked.{AskedPacket}
use Rattle.packet_processor.specs.Judged.{Judges}
use Rattle.packet_processor.specs.declared.facts.Verdict.{Verdict}
use Rattle.packet_processor.specs.inner.FieldRules.{later_failing, verdict_if}

-- the first codec rule that fails, by what each answers
first_codec : Bool → Bool → Bool → Option CodecRule
first_codec a b c = if not a then Some codec.L1 else if not b then Some codec.L2 else if not c then Some codec.L3 else None

-- the same in the list of launch rules, before the rest
first_launch : Bool → Bool → Bool → Option Rule → Option Rule
first_launch a b c rest = if not a then Some rule.L1 else if not b then Some rule.L2 else if not c then Some rule.L3 else rest

refused_first : (a b c : Bool) (rest : Option Rule) (r : CodecRule) → first_codec a b c ≡ Some r → first_launch a b c rest ≡ Some (rule_of r)
unfolding first_codec first_launch
refused_first a b c rest r h6 = grind arith

passed_first : (a b c : Bool) (rest : Option Rule) → first_codec a b c ≡ None → first_launch a b c rest ≡ rest
unfolding first_codec first_launch
passed_first a b c rest h5 = grind arith

-- the rules of the fields don't look at the bytes
launch_is : (facts : Facts) (bytes : List ℕ) → first_failing_rule facts bytes ≡ first_launch (passes codec.L1 bytes) (passes codec.L2 bytes) (passes codec.L3 bytes)
    (later_failing facts (packet_at (packet_type bytes) bytes))
unfolding first_failing_rule first_launch
launch_is facts bytes = refl

codec_is : (bytes : List ℕ) → refusal bytes ≡ first_codec (passes codec.L1 bytes) (passes codec.L2 bytes) (passes codec.L3 bytes)
unfolding refusal first_codec
codec_is bytes = refl

-- bytes that a rule of the layout refuses
pub first_failing-refused : (facts : Facts) (bytes : List ℕ) (r : CodecRule) → refusal bytes ≡ Some r → first_failing_rule facts bytes ≡ Some (rule_of r)
first_failing-refused facts bytes r e =
    launch_is facts bytes ∙ refused_first (passes codec.L1 bytes) (passes codec.L2 bytes) (passes codec.L3 bytes) _ r (sym (codec_is bytes) ∙ e)

-- bytes that are refused lay out nothing
decoded-refused : (bytes : List ℕ) (r : CodecRule) → refusal bytes ≡ Some r → decoded bytes ≡ None
unfolding decoded
decoded-refused bytes r e = rw e refl

-- bytes that lay out a packet are refused by no rule of the layout, and the packet is the one of their fields
decoded-found : (bytes : List ℕ) (p : Packet) → decoded bytes ≡ Some p → (o : Option CodecRule) → refusal bytes ≡ o → (refusal bytes ≡ None) × (packet_at (packet_type bytes) bytes ≡ p)
decoded-found bytes p h3 o h5 = grind (arith, decoded_is, decoded-refused)

-- bytes that lay out a packet are refused where the packet is
pub first_failing-decoded : (facts : Facts) (bytes : List ℕ) (p : Packet) → decoded bytes ≡ Some p → first_failing_rule facts bytes ≡ later_failing facts p
first_failing-decoded facts bytes p e =
    let found = decoded-found bytes p e (refusal bytes) refl in
    launch_is facts bytes ∙ passed_first (passes codec.L1 bytes) (passes codec.L2 bytes) (passes codec.L3 bytes) _ (sym (codec_is bytes) ∙ found.0) ∙ ap (later_failing facts) found.1

-- bytes that lay out a packet are judged by the first rule that fails, if there is one
judged-by : (facts : Facts) (bytes : List ℕ) (asked : AskedPacket) → decoded bytes ≡ Some asked.packet → asked.agent ≡ facts.agent
    → (o : Option Rule) → first_failing_rule facts bytes ≡ o → Judges facts bytes (verdict_if asked o)
judged-by facts bytes asked laid runs None first = (laid, first, runs)
judged-by facts bytes asked laid runs (Some rule) first = first

-- so they are where the packet is judged
pub judged-decoded : (facts : Facts) (bytes : List ℕ) (asked : AskedPacket) (v : Verdict) → decoded bytes ≡ Some asked.packet → asked.agent ≡ facts.agent
    → v ≡ verdict_if asked (later_failing facts asked.packet) → Judges facts bytes v
judged-decoded facts bytes asked v laid runs is =
    subst (λ x. Judges facts bytes x) (sym is) (judged-by facts bytes asked laid runs _ (first_failing-decoded facts bytes asked.packet laid))
