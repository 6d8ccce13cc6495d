use Rattle.std.proofs.Common.{◌≡◌, ◌∙◌, List, subst, sym}
use Rattle.threads_load.specs.declared.plan.PlannedQueue.{PlannedQueue}
use Rattle.threads_load.specs.Loads.{EndsLoad, wanted_of}
use Rattle.threads_load.specs.Plans.{planned}
use Rattle.threads_load.proofs.Endings.{tells_load}
use Rattle.threads_load.proofs.load.run_load_watched.Goals as goal

pub returns-clause-load : goal.returns-clause-load
returns-clause-load g c =
    let ended = c.in_ok-ended.ensures.ended in
    let plan : c.as_slice-2.result.now ≡ planned c.args.policy = c.as_slice-2.ensures.value ∙ c.in_ok-plan.ensures in
    let wanted = wanted_of c.args.terms.packets c.args.terms.producers in
    let same : c.as_slice.result.now ≡ c.as_slice-2.result.now = c.as_slice.ensures.value ∙ sym c.as_slice-2.ensures.value in
    let ends : EndsLoad ended.0 c.as_slice-2.result.now c.args.terms.producers c.args.terms.packets wanted c.in_ok-ended.ended =
    subst (λ (p : List PlannedQueue). EndsLoad ended.0 p c.args.terms.producers c.args.terms.packets wanted c.in_ok-ended.ended) same ended.2 in
    tells_load c.args.policy c.args.kernels.items c.args.terms.packets c.args.terms.producers c.as_slice-2.result.now ended.0 c.show_and_tell.result ended.1 plan (c.show_and_tell.ensures ended.0 c.args.terms.producers c.args.terms.packets wanted ends)
