use Rattle.std.proofs.Common.{◌≡◌, ◌∙◌, ◌++◌, ◌∷◌, [], List, map, sym, ap}
use Rattle.std.proofs.lemmas.List.{map_push}
use Rattle.client_threads.specs.declared.client_end.ClientEnd.{ClientEnd}
use Rattle.client_threads.specs.Opening.{as_end}
use Rattle.client_threads.proofs.opening.ends_of.Goals as goal

pub loop-pass-preserved : goal.loop-pass-preserved
loop-pass-preserved c = (
  tt,
  tt,
  c.in_ok-push.ensures.items ∙ ap (λ (xs : List ClientEnd). xs ++ as_end c.args.queue c.in-Some.pass ∷ []) c.loop-pass.invariant.2 ∙ sym (map_push (as_end c.args.queue) c.loop-pass.yielded c.in-Some.pass),
)
