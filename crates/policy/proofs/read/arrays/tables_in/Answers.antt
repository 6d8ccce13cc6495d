use Rattle.std.proofs.Common.{◌∙◌, sym}
use Rattle.policy.proofs.ValueLemmas.{no_tables, too_many, all_tables}
use Rattle.policy.proofs.read.arrays.tables_in.Goals as goal

pub returns-then-not-are_tables-clause-rows : goal.returns-then-not-are_tables-clause-rows
returns-then-not-are_tables-clause-rows c = no_tables c.args.section c.args.limit c.args.items.now c.fault.result (sym c.are_tables.ensures ∙ c.if-not-are_tables.true) c.fault.ensures

pub returns-then-items-limit-clause-rows : goal.returns-then-items-limit-clause-rows
returns-then-items-limit-clause-rows c = too_many c.args.section c.args.limit c.args.items.now c.fault-then-items-limit.result (sym c.are_tables.ensures ∙ c.if-not-are_tables.false) c.if-items-limit.true c.fault-then-items-limit.ensures

pub returns-clause-rows : goal.returns-clause-rows
returns-clause-rows c = all_tables c.args.section c.args.limit c.args.items.now (sym c.are_tables.ensures ∙ c.if-not-are_tables.false) c.if-items-limit.false
