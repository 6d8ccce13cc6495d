use Rattle.std.proofs.Common.{◌∙◌, sym}
use Rattle.policy.proofs.ValueLemmas.{no_dispatches, dispatches_seen}
use Rattle.policy.proofs.read.values.dispatches_in.Goals as goal

pub returns-then-not-are_dispatches : goal.returns-then-not-are_dispatches
returns-then-not-are_dispatches c = no_dispatches c.args.items.now (sym c.are_dispatches.ensures ∙ c.if-not-are_dispatches.true)

pub returns : goal.returns
returns c = dispatches_seen c.args.items.now c.any_is.result c.any_is-2.result (sym c.are_dispatches.ensures ∙ c.if-not-are_dispatches.false) c.any_is.ensures c.any_is-2.ensures
