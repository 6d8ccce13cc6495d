use Rattle.std.proofs.Common.{sym, ◌∙◌, arith}
use Rattle.session.specs.Who.{for_token}
use Rattle.session.proofs.Walks.{first_here, first_more, first_all}
use Rattle.session.proofs.who.client_of_token.Goals as goal

pub returns-in-Some : goal.returns-in-Some
returns-in-Some c =
    sym (c.loop-entry.invariant ∙ first_here (for_token c.args.digest.now) c.args.entries.now c.loop-entry.entry-index _ _ (omega arith) (sym c.in-Some.ensures))

pub loop-entry-preserved : goal.loop-entry-preserved
loop-entry-preserved c =
    c.loop-entry.invariant ∙ first_more (for_token c.args.digest.now) c.args.entries.now c.loop-entry.entry-index _ (omega arith) (sym c.in-None.ensures)

pub returns : goal.returns
returns c = sym (c.loop-entry.invariant ∙ first_all (for_token c.args.digest.now) c.args.entries.now c.loop-entry.entry-index (omega arith))
