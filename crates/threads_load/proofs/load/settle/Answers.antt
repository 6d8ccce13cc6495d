use Rattle.std.proofs.Common.{List, ◌++◌, subst}
use Rattle.std.specs.Prelude.{IfOk}
use Rattle.core_model.specs.History.{Part}
use Rattle.client_threads.specs.Settling.{IsSettlement}
use Rattle.threads_load.proofs.Shares.{never_missing}
use Rattle.threads_load.proofs.load.settle.Goals as goal

pub returns-clause-settled : goal.returns-clause-settled
returns-clause-settled g c =
    let stage = c.args.stage in
    subst (λ (left : List Part). IfOk c.settle_all.result (IsSettlement stage.broker (c.args.out.now.settled ++ left) stage.ends.items stage.lanes.items)) c.left.ensures c.settle_all.ensures.settled

pub returns-clause-refused : goal.returns-clause-refused
returns-clause-refused g c =
    let stage = c.args.stage in
    never_missing (λ u. u.fault) (λ u. u.broker.core) c.settle_all.result g.B.Room.opened stage.front stage.broker _ stage.ends.items stage.lanes.items c.requires.shares c.settle_all.ensures.fault
