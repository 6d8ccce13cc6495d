use Rattle.std.proofs.Common.{◌∙◌, ap, Some, map}
use Rattle.toml.specs.View.{view}
use Rattle.policy.proofs.ValueLemmas.{items_seen}
use Rattle.policy.proofs.read.values.items_in.Goals as goal

pub returns-in-Some : goal.returns-in-Some
returns-in-Some c = ap (λ vs. Some (map view vs)) c.as_slice.ensures.value ∙ items_seen (view c.args.value.now) c.in-Some.items.now.items c.in-Some.ensures
