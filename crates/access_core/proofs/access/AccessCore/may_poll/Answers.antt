-- What the packet is due, by what is found.
use Rattle.std.proofs.Common.{◌∙◌, ap, sym, true, false, arith}
use Rattle.core_model.specs.Owed.{owed}
use Rattle.access_core.proofs.Seen.{seen}
use Rattle.access_core.proofs.Calls.{due-as}
use Rattle.access_core.proofs.PollLemmas.{poll-owed, sees-due}
use Rattle.access_core.proofs.WorkLemmas.{failure-releases, release-due}
use Rattle.access_core.proofs.Terms.{Call, Poll, look_owed}
use Rattle.access_core.proofs.access.AccessCore.may_poll.Goals as goal

pub returns-in_err-found-clause-why : goal.returns-in_err-found-clause-why
unfolding owed
returns-in_err-found-clause-why = grind arith

pub returns-in-Err-clause-why : goal.returns-in-Err-clause-why
returns-in-Err-clause-why c =
    due-as c.args.self.now.history (Call (Poll c.args.queue c.args.packet)) _
    (poll-owed c.self.inside c.self.invariant _ (seen c.self.view_is) c.args.queue c.args.packet c.in_ok-found.found.place c.in_ok-found.ensures.found _ c.in-Err.ensures.why)

pub returns-in-Still-clause-may : goal.returns-in-Still-clause-may
returns-in-Still-clause-may c =
    due-as c.args.self.now.history (Call (Poll c.args.queue c.args.packet)) _
    (poll-owed c.self.inside c.self.invariant _ (seen c.self.view_is) c.args.queue c.args.packet c.in_ok-found.found.place c.in_ok-found.ensures.found _
    (c.in-Ok.ensures.may ∙ ap (look_owed c.args.queue c.args.packet) c.in-Still.is))

pub returns-in-Fails-clause-may : goal.returns-in-Fails-clause-may
returns-in-Fails-clause-may c =
    release-due c.self.inside c.self.invariant _ (seen c.self.view_is) c.args.queue c.args.packet c.in_ok-found.found.place c.in_ok-found.ensures.found _ _ _
    (failure-releases c.args.queue c.args.packet)
    (poll-owed c.self.inside c.self.invariant _ (seen c.self.view_is) c.args.queue c.args.packet c.in_ok-found.found.place c.in_ok-found.ensures.found _
    (c.in-Ok.ensures.may ∙ ap (look_owed c.args.queue c.args.packet) c.in-Fails.is))

pub returns-then-is_full-clause-why : goal.returns-then-is_full-clause-why
returns-then-is_full-clause-why c =
    sees-due c.self.inside c.self.invariant _ (seen c.self.view_is) c.args.queue c.args.packet c.in_ok-found.found.place c.in_ok-found.ensures.found c.in-Sees.new c.in-Sees.ready
    (c.in-Ok.ensures.may ∙ ap (look_owed c.args.queue c.args.packet) c.in-Sees.is) true (sym c.is_full.ensures ∙ c.if-is_full.true)

pub returns-else-is_full-clause-may : goal.returns-else-is_full-clause-may
returns-else-is_full-clause-may c =
    sees-due c.self.inside c.self.invariant _ (seen c.self.view_is) c.args.queue c.args.packet c.in_ok-found.found.place c.in_ok-found.ensures.found c.in-Sees.new c.in-Sees.ready
    (c.in-Ok.ensures.may ∙ ap (look_owed c.args.queue c.args.packet) c.in-Sees.is) false (sym c.is_full.ensures ∙ c.if-is_full.false)
