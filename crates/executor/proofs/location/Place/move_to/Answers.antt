use Rattle.std.proofs.Common.{rules, ◌≡◌, ◌≤◌, ◌∙◌, length, ap, arith}
use Rattle.executor.specs.declared.location.Location.{Location}
use Rattle.executor.proofs.RowLemmas.{moved}
use Rattle.executor.proofs.location.Place.move_to.Goals as goal

pub returns : goal.returns
returns c =
    let long : length c.self.inside.numbers ≡ 15 = search rules in
    moved c.self.inside.numbers c.args.item.now (omega (arith, long))
    ∙ ap (λ (l : Location). record l { item = c.args.item.now }) c.self.view_is
