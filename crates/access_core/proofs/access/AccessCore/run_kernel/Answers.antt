-- Where all groups ran nothing is left to do; else the next is owed what it comes to.
use Rattle.std.proofs.Common.{◌≡◌, ◌∙◌, ◌+◌, ◌-◌, ℕ, ap, map, refl, subst, sym, rules, true, false, inl, inr, nat_le}
use Rattle.aql_packet.specs.declared.packet.Packet.TheVariants as packet
use Rattle.access_core.proofs.Terms.{Call, Done, FaultsAs, Ran, RunNext, answers, broke_rule, due, enters, fault_owed, group_count, group_error, group_owed, next_result, write_of_run}
use Rattle.executor.specs.declared.fault.ItemFault.{ItemFault}
use Rattle.access_core.proofs.AskingLemmas.{kernel-asks}
use Rattle.access_core.proofs.Calls.{due-as}
use Rattle.access_core.proofs.KernelLemmas.{group-lacks, kernel-owed}
use Rattle.core_model.specs.declared.outcome.Outcome.TheVariants as outcome
use Rattle.access_core.proofs.access.AccessCore.run_kernel.Goals as goal

pub returns-then-group-count-clause-met : goal.returns-then-group-count-clause-met
returns-then-group-count-clause-met c =
    let h = c.args.self.now.history in
    let reached : nat_le c.group_count-count.result c.args.place.progress.groups_run ≡ true = search rules in
    let ran : nat_le (group_count (packet.Kernel c.args.dispatch)) c.args.place.progress.groups_run ≡ true = rw (← c.group_count-count.ensures) reached in
    let is : due h (Call (RunNext c.args.queue c.args.found.packet)) ≡ answers (outcome.Worked Done) =
    due-as h (Call (RunNext c.args.queue c.args.found.packet)) (answers (outcome.Worked Done))
    (kernel-owed h c.args.queue c.args.found.packet c.args.place c.requires.found c.args.dispatch c.requires.packet_is true ran) in
    inl (record { reply_is = rw is refl; history_is = rw is refl })

pub enter_group-requires-clause-owed : goal.enter_group-requires-clause-owed
enter_group-requires-clause-owed c =
    let h = c.args.self.now.history in
    let d = c.args.dispatch in
    let group = c.args.place.progress.groups_run in
    let left : nat_le c.group_count-count.result group ≡ false = search rules in
    let ran : nat_le (group_count (packet.Kernel d)) group ≡ false = rw (← c.group_count-count.ensures) left in
    kernel-owed h c.args.queue c.args.found.packet c.args.place c.requires.found d c.requires.packet_is false ran
    ∙ ap (group_owed c.args.queue c.args.found.packet d group) c.in-Ok.ensures.ok
    ∙ ap (λ (count : ℕ). enters (outcome.Worked (Ran group (count - (group + 1)))) (map write_of_run c.in-Ok.runs)) (sym c.group_count-count.ensures)

pub enter_group-requires-clause-kernel : goal.enter_group-requires-clause-kernel
enter_group-requires-clause-kernel c = (c.args.dispatch, c.requires.packet_is)

pub fault-requires-clause-owed : goal.fault-requires-clause-owed
fault-requires-clause-owed c =
    let h = c.args.self.now.history in
    let d = c.args.dispatch in
    let group = c.args.place.progress.groups_run in
    let left : nat_le c.group_count-count.result group ≡ false = search rules in
    let ran : nat_le (group_count (packet.Kernel d)) group ≡ false = rw (← c.group_count-count.ensures) left in
    let came : next_result h c.args.queue c.args.found.packet c.args.place d ≡ broke_rule c.in-Err-Fault.fault =
    subst (FaultsAs (next_result h c.args.queue c.args.found.packet c.args.place d)) c.in-Err-Fault.field-0-is c.in-Err-Fault.ensures.fault in
    kernel-owed h c.args.queue c.args.found.packet c.args.place c.requires.found d c.requires.packet_is false ran
    ∙ ap (group_owed c.args.queue c.args.found.packet d group) came
    ∙ ap (λ (f : ItemFault). fault_owed (group_error c.args.queue c.args.found.packet group f)) (sym c.in-Err-Fault.fault-is)

pub returns-in-Err-OutOfMemory-clause-met : goal.returns-in-Err-OutOfMemory-clause-met
returns-in-Err-OutOfMemory-clause-met c =
    let h = c.args.self.now.history in
    let d = c.args.dispatch in
    let group = c.args.place.progress.groups_run in
    let left : nat_le c.group_count-count.result group ≡ false = search rules in
    let ran : nat_le (group_count (packet.Kernel d)) group ≡ false = rw (← c.group_count-count.ensures) left in
    inr (record {
      may = group-lacks h c.args.queue c.args.found.packet d group (next_result h c.args.queue c.args.found.packet c.args.place d)
          (kernel-owed h c.args.queue c.args.found.packet c.args.place c.requires.found d c.requires.packet_is false ran);
      asks = kernel-asks h c.args.queue c.args.found.packet c.args.place c.requires.found d c.requires.packet_is (due h (Call (RunNext c.args.queue c.args.found.packet)));
      reply_is = refl;
      history_is = refl;
    })
