-- How rules, places and queue errors print, in bytes (own).
use Rattle.std.specs.Prelude.{ℕ, List, [], ◌++◌, codes, Option, Some, None}
use Rattle.std.specs.Fmt.{decimal}
use Rattle.aql_packet.specs.declared.packet.CodecRule.{CodecRule}
use Rattle.aql_packet.specs.declared.packet.CodecRule.TheVariants as codec
use Rattle.queue_error.specs.declared.rule.Rule.{Rule}
use Rattle.queue_error.specs.declared.rule.Rule.TheVariants.{L1, L2, L3, L4, L5, L6, L7, L8, L9, L10, A1, A2, A3, A4, A5, A6, A7, B1}
use Rattle.queue_error.specs.declared.error.FaultPlace.{FaultPlace}
use Rattle.queue_error.specs.declared.error.QueueError.{QueueError}

-- A rule's name.
abbrev pub text_of_rule : Rule → List ℕ
text_of_rule L1 = codes "L1"
text_of_rule L2 = codes "L2"
text_of_rule L3 = codes "L3"
text_of_rule L4 = codes "L4"
text_of_rule L5 = codes "L5"
text_of_rule L6 = codes "L6"
text_of_rule L7 = codes "L7"
text_of_rule L8 = codes "L8"
text_of_rule L9 = codes "L9"
text_of_rule L10 = codes "L10"
text_of_rule A1 = codes "A1"
text_of_rule A2 = codes "A2"
text_of_rule A3 = codes "A3"
text_of_rule A4 = codes "A4"
text_of_rule A5 = codes "A5"
text_of_rule A6 = codes "A6"
text_of_rule A7 = codes "A7"
text_of_rule B1 = codes "B1"

-- `group G item I line L`; the address is told by no text of an error
abbrev pub text_of_place : FaultPlace → List ℕ
text_of_place place =
    codes "group " ++ decimal place.group ++ codes " item " ++ decimal place.item
    ++ codes " line " ++ decimal place.line

-- The end of an error: where it has a place, a blank and the place.
abbrev pub text_of_end : Option FaultPlace → List ℕ
text_of_end None = []
text_of_end (Some place) = codes " " ++ text_of_place place

-- `queue Q packet ID rule RULE`, and the place where there is one
abbrev pub text_of_error : QueueError → List ℕ
text_of_error error =
    codes "queue " ++ decimal error.queue.0 ++ codes " packet " ++ decimal error.packet.0
    ++ codes " rule " ++ text_of_rule error.rule ++ text_of_end error.place

-- The rule that a rule of a packet's layout is.
abbrev pub rule_of : CodecRule → Rule
rule_of codec.L1 = L1
rule_of codec.L2 = L2
rule_of codec.L3 = L3
