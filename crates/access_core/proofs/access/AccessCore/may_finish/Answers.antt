-- What the packet is due, by whether its work is done.
use Rattle.core_model.specs.History.{beginning}
use Rattle.std.proofs.Common.{◌∙◌, sym, arith}
use Rattle.core_model.specs.Owed.{owed}
use Rattle.access_core.proofs.Terms.{owed_finish, refuse_unless-holds, signals}
use Rattle.access_core.proofs.Seen.{seen}
use Rattle.access_core.proofs.WorkLemmas.{finish-releases, owed-in_place, release-due}
use Rattle.access_core.proofs.access.AccessCore.may_finish.Goals as goal

pub returns-in_err-found-clause-why : goal.returns-in_err-found-clause-why
unfolding owed
returns-in_err-found-clause-why = grind arith

pub returns-then-not-is_finished-clause-why : goal.returns-then-not-is_finished-clause-why
unfolding owed
returns-then-not-is_finished-clause-why = grind arith

pub returns-clause-may : goal.returns-clause-may
unfolding owed
returns-clause-may c =
    release-due c.self.inside c.self.invariant _ (seen c.self.view_is) c.args.queue c.args.packet c.in_ok-found.found.place c.in_ok-found.ensures.found _ _ _
    (finish-releases _ _ _ c.in_ok-found.found.place.packet)
    (owed-in_place c.args.self.now.history c.args.queue c.args.packet c.in_ok-found.found.place c.in_ok-found.ensures.found
    (owed_finish (signals (beginning c.args.self.now.history) c.args.self.now.history.entries) c.args.queue c.args.packet)
    ∙ refuse_unless-holds _ _ _ (sym c.is_finished.ensures ∙ c.if-not-is_finished.false))
