-- The executor can run the group on what it is lent, and what it comes to is what the history says.
use Rattle.core_model.specs.History.{beginning}
use Rattle.std.proofs.Common.{◌≡◌, ◌∙◌, ap, refl, sym, List, Some, All, length, slice_get, true, arith}
use Rattle.std.proofs.lemmas.Result.{IfErr-weaker, IfOk-weaker}
use Rattle.access_core.proofs.Terms.{Dispatch, FailsAs, FaultsAs, FinishesAs, GroupInput, HeldRights, Kernel, WrittenRange, group_result, input_of, is_listed, is_within, next_result, numbered, region_lengths, view_whole, wrote}
use Rattle.access_core.proofs.Seen.{seen}
use Rattle.access_core.proofs.GroupRuns.{entry-there, faults-as, index-below, kernel-there, program-is, program-there, program_at, result-is, runnable, runs-within}
use Rattle.access_core.proofs.access.AccessCore.group_runs.Goals as goal

pub kernel_at-kernel-requires : goal.kernel_at-kernel-requires
kernel_at-kernel-requires c =
    let there = kernel-there c.self.inside c.self.invariant _ (seen c.self.view_is) c.args.queue c.args.found.packet c.args.place c.requires.found c.args.dispatch c.requires.packet_is in
    (there.0, ap (λ (ks : List Kernel). numbered ks c.args.dispatch.kernel_object.0) c.as_slice-2.ensures.value ∙ there.1)

pub index-requires : goal.index-requires
index-requires c =
    let at = ap (λ (ks : List Kernel). numbered ks c.args.dispatch.kernel_object.0) (sym c.as_slice-2.ensures.value) ∙ c.kernel_at-kernel.ensures in
    entry-there c.self.inside c.self.invariant _ (seen c.self.view_is) c.args.queue c.args.found.packet c.args.place c.requires.found c.args.dispatch c.requires.packet_is
    c.kernel_at-kernel.result.now at

pub run_group-requires-clause-kernel : goal.run_group-requires-clause-kernel
run_group-requires-clause-kernel c =
    let at = ap (λ (ks : List Kernel). numbered ks c.args.dispatch.kernel_object.0) (sym c.as_slice-2.ensures.value) ∙ c.kernel_at-kernel.ensures in
    index-below c.self.inside c.self.invariant _ (seen c.self.view_is) c.args.queue c.args.found.packet c.args.place c.requires.found c.args.dispatch c.requires.packet_is
    c.kernel_at-kernel.result.now at c.index.result c.index.ensures

pub run_group-requires-clause-runnable : goal.run_group-requires-clause-runnable
run_group-requires-clause-runnable c =
    let a = c.self.inside in
    let h = c.args.self.now.history in
    let d = c.args.dispatch in
    let at = ap (λ (ks : List Kernel). numbered ks d.kernel_object.0) (sym c.as_slice-2.ensures.value) ∙ c.kernel_at-kernel.ensures in
    λ p here.
    runnable a c.self.invariant h (seen c.self.view_is) c.args.queue c.args.found.packet c.args.place c.requires.found d c.requires.packet_is _
    (record { group_size_is = c.group_size.ensures; grid_size_is = c.grid_size.ensures; segment_is = refl; arguments_are = c.as_slice-3.ensures ∙ c.given_to-given.ensures.arguments })
    p (program-is a c.self.invariant h (seen c.self.view_is) c.args.queue c.args.found.packet c.args.place c.requires.found d c.requires.packet_is c.kernel_at-kernel.result.now at
    c.index.result c.index.ensures p here)
    c.args.place.progress.groups_run c.requires.left

-- what the executor is asked to run
abbrev asked : goal.After-drop-view-inside → Dispatch
asked c = record {
  kernel = c.index.result;
  group_size = c.group_size.result;
  grid_size = c.grid_size.result;
  group_segment_size = c.args.dispatch.group_segment_size;
  arguments = c.as_slice-3.result;
}

-- and what it answers for
abbrev input : goal.After-drop-view-inside → GroupInput
input c = input_of (program_at c.kernel_at-kernel.result.now c.index.result) (asked c) c.args.place.progress.groups_run c.in_ok-view.view

here : (c : goal.After-drop-view-inside) → slice_get c.kernel_at-kernel.result.now.checked c.index.result ≡ Some (program_at c.kernel_at-kernel.result.now c.index.result)
here c = grind (
  arith,
  program-there c.self.inside c.self.invariant _
      (seen c.self.view_is) c.args.queue c.args.found.packet c.args.place c.requires.found c.args.dispatch c.requires.packet_is c.kernel_at-kernel.result.now,
)

same : (c : goal.After-drop-view-inside) → next_result c.args.self.now.history c.args.queue c.args.found.packet c.args.place c.args.dispatch ≡ group_result (input c)
same c = grind (
  arith,
  result-is (c.self.inside) c.self.invariant (c.args.self.now.history) (seen c.self.view_is) c.args.queue c.args.found.packet c.args.place c.requires.found
      (c.args.dispatch) c.requires.packet_is (asked c) (record {
        group_size_is = c.group_size.ensures;
        grid_size_is = c.grid_size.ensures;
        segment_is = refl;
        arguments_are = c.as_slice-3.ensures ∙ c.given_to-given.ensures.arguments;
      }) (program_at c.kernel_at-kernel.result.now c.index.result)
      (program-is (c.self.inside) c.self.invariant (c.args.self.now.history) (seen c.self.view_is) c.args.queue c.args.found.packet c.args.place c.requires.found
      (c.args.dispatch) c.requires.packet_is c.kernel_at-kernel.result.now
      (ap (λ (ks : List Kernel). numbered ks (c.args.dispatch).kernel_object.0) (sym c.as_slice-2.ensures.value) ∙ c.kernel_at-kernel.ensures)
      c.index.result c.index.ensures _
      (here c)) c.args.place.progress.groups_run c.law_groups_read_where_they_may.ensures c.in_ok-view.view
      (c.in_ok-view.ensures ∙ ap (λ (all : HeldRights). view_whole (beginning c.args.self.now.history) c.args.self.now.history.entries all) (ap is_listed c.as_slice.ensures ∙ c.given_to-given.ensures.rights)),
)

pub returns-clause-ok : goal.returns-clause-ok
returns-clause-ok c =
    IfOk-weaker c.run_group.result (FinishesAs (input c)) (λ runs. next_result c.args.self.now.history c.args.queue c.args.found.packet c.args.place c.args.dispatch ≡ wrote runs)
    (λ runs ends. same c ∙ ends.1) (c.run_group.ensures.ok (program_at c.kernel_at-kernel.result.now c.index.result) (here c))

pub returns-clause-fault : goal.returns-clause-fault
returns-clause-fault c =
    IfErr-weaker c.run_group.result (FailsAs (input c)) (FaultsAs (next_result c.args.self.now.history c.args.queue c.args.found.packet c.args.place c.args.dispatch))
    (λ why fails. faults-as (input c) _ (same c) why fails) (c.run_group.ensures.err (program_at c.kernel_at-kernel.result.now c.index.result) (here c))

pub returns-clause-written : goal.returns-clause-written
returns-clause-written c =
    IfOk-weaker c.run_group.result (FinishesAs (input c)) (λ (runs : List WrittenRange). All
    (λ (run : WrittenRange). is_within (region_lengths (beginning c.args.self.now.history).policy) run.address (length run.bytes) ≡ true) runs)
    (λ runs ends. runs-within c.self.inside c.self.invariant _ (seen c.self.view_is) c.args.queue c.args.found.packet c.args.place c.requires.found c.args.dispatch c.requires.packet_is
    c.regions_fit.ensures c.args.place.progress.groups_run runs (same c ∙ ends.1))
    (c.run_group.ensures.ok (program_at c.kernel_at-kernel.result.now c.index.result) (here c))
