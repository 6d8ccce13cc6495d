use Rattle.std.proofs.Common.{List, ◌++◌, subst}
use Rattle.core_model.specs.Rotation.{entries_in}
use Rattle.core_model.specs.declared.served.Served.{Served}
use Rattle.client_threads.specs.Takes.{DiffersAt, takes}
use Rattle.client_threads.proofs.HandingOver.{differs_in_all}
use Rattle.client_threads.proofs.mismatch.first_id.Goals as goal

pub returns-in-Some-clause-differs : goal.returns-in-Some-clause-differs
returns-in-Some-clause-differs c =
    let rest = entries_in c.args.parts.now ++ c.args.entries.now in
    differs_in_all c.args.settled.now rest c.args.lanes.now c.args.queue.0 c.handed_by-handed.result c.in-Some.place c.requires.settled c.handed_by-handed.ensures
    (subst (λ (xs : List Served). DiffersAt (takes rest c.args.queue.0) xs c.in-Some.place) c.kept_by.ensures c.in-Some.ensures.differs)
