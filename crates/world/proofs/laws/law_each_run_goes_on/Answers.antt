use Rattle.std.proofs.Common.{List, ◌++◌, ap, sym, subst, ◌∙◌}
use Rattle.core_model.specs.declared.entry.Entry.{Entry}
use Rattle.core_model.specs.History.{Part}
use Rattle.core_model.specs.Rotation.{GoOn, entries_in}
use Rattle.world.specs.InStep.{IsJoinedBehind}
use Rattle.world.proofs.Asking.{enters-all}
use Rattle.world.proofs.GoingOn.{entries-of-parts, kernels-stay, parts-go_on, run-legal}
use Rattle.world.proofs.Kept.{begun_joined, replies_kept}
use Rattle.world.proofs.laws.law_each_run_goes_on.Goals as goal

pub returns-clause-opening : goal.returns-clause-opening
returns-clause-opening c = λ policy kernels capacity opened is. begun_joined opened policy kernels capacity is

pub returns-clause-asked : goal.returns-clause-asked
returns-clause-asked c = λ requests replies old new are.
    let all = enters-all old new requests replies are in
    record { more = all.more; entries_are = all.entries_are; of_requests = all.of_requests; kernels_are = kernels-stay old new requests replies are; capacity_is = all.room }

pub returns-clause-joined : goal.returns-clause-joined
returns-clause-joined c = λ first prior requests replies old new h are. replies_kept first prior old new requests replies h are

pub returns-clause-legal : goal.returns-clause-legal
returns-clause-legal c = λ first prior requests replies old new h are. run-legal first prior old new requests replies h are

pub returns-clause-parts : goal.returns-clause-parts
returns-clause-parts c = λ requests replies old new are. parts-go_on old new requests replies are

pub returns-clause-entries : goal.returns-clause-entries
returns-clause-entries c = λ replies. entries-of-parts replies

pub returns-clause-reached : goal.returns-clause-reached
returns-clause-reached c = λ first prior parts old new h reached.
    let entries = ap entries_in (sym reached.3) ∙ entries-of-parts reached.1 in (
      subst (λ (handed : List Entry). IsJoinedBehind first (prior ++ handed) new) (sym entries) (replies_kept first prior old new reached.0 reached.1 h reached.2),
      subst (λ (parts : List Part). GoOn old.core.origin parts new.core.origin) reached.3 (parts-go_on old new reached.0 reached.1 reached.2),
    )
