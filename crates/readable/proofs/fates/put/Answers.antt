-- The last fate of the packet has the outcome, or a new one behind all.
use Rattle.std.proofs.Common.{◌∷◌, ◌++◌, [], ap, rules, ◌∙◌}
use Rattle.readable.specs.declared.fates.Fate.{Fate}
use Rattle.readable.specs.Fates.{with_outcome}
use Rattle.readable.proofs.Fating.{put_here, put_new}
use Rattle.readable.proofs.fates.put.Goals as goal

pub returns-in-Some : goal.returns-in-Some
returns-in-Some c =
    let found = rw c.as_slice.ensures.value at c.in-Some.ensures in
    rw c.with_outcome.ensures (put_here c.args.queue c.args.packet c.args.about c.args.outcome c.args.fates.now.items c.in-Some.place c.index-fate.result.now found.0 (search rules) found.1 found.2)

pub returns-in_ok-push-in-None : goal.returns-in_ok-push-in-None
returns-in_ok-push-in-None c =
    c.in_ok-push-in-None.ensures.items
    ∙ ap (λ (f : Fate). c.args.fates.now.items ++ f ∷ []) (c.with_outcome-in-None.ensures ∙ ap (λ (f : Fate). with_outcome f c.args.outcome) c.begun.ensures)
    ∙ put_new c.args.queue c.args.packet c.args.about c.args.outcome c.args.fates.now.items (rw c.as_slice.ensures.value at c.in-None.ensures)
