-- The rules that a packet or its work can break, in the order in which they are tried (own).
use Rattle.std.specs.Prelude.{ℕ, List, [], ◌∷◌, map}
use Rattle.queue_error.specs.declared.rule.Rule.{Rule}
use Rattle.queue_error.specs.declared.rule.Rule.TheVariants as rule
use Rattle.queue_error.specs.Texts.{text_of_rule}
use Rattle.script.specs.declared.rules.RuleRow.{RuleRow}

-- L1 to L10 are asked of a launch, A1 to A7 of a kernel's work, B1 of a poll
abbrev pub all_rules : List Rule
all_rules =
    rule.L1 ∷ rule.L2 ∷ rule.L3 ∷ rule.L4 ∷ rule.L5 ∷ rule.L6 ∷ rule.L7 ∷ rule.L8 ∷ rule.L9 ∷ rule.L10 ∷ rule.A1 ∷ rule.A2 ∷ rule.A3 ∷ rule.A4 ∷ rule.A5 ∷ rule.A6 ∷ rule.A7 ∷ rule.B1
    ∷ []

-- a rule, and how it is spelled
pub record NamedRule : Type 0 where
  pub rule : Rule
  pub name : List ℕ

-- a row of the code's table, without its meaning
abbrev pub rule_view : RuleRow → NamedRule
rule_view row = record { rule = row.rule; name = row.name.now }

-- each rule with the text that replies have of it
abbrev pub rule_rows : List NamedRule
rule_rows = map (λ rule. record { rule = rule; name = text_of_rule rule }) all_rules
