-- One hold less of each of its rights is counted in the cell of its client and object, and nowhere else.
use Rattle.std.proofs.Common.{◌≡◌, ◌∙◌, ◌+◌, ◌≤◌, ◌&&◌, sym, subst, Some, None, arith}
use Rattle.std.specs.Prelude.{if◌then◌else◌}
use Rattle.grants.proofs.Terms.{cell_of, count_in, has, one_for_right}
use Rattle.grants.proofs.CellLemmas.{at_each, at_each_same}
use Rattle.grants.proofs.cells.Cells.uncount_hold.Goals as goal

pub returns-in-Some-clause-counts : goal.returns-in-Some-clause-counts
returns-in-Some-clause-counts c = λ client object right.
    at_each c.args.self.now c.args.hold.now.client c.args.hold.now.object (Some c.in-Some.cell) (sym c.get.ensures.cell ∙ c.in-Some.is)
    (λ same s t. count_in right s ≡ count_in right t + (if same && has c.args.hold.now.rights right then 1 else 0)) (λ s. omega arith)
    c.set.new.self c.without_hold-fewer.result c.set.ensures.cells (sym (c.without_hold-fewer.ensures.held right)) client object

pub returns-in_default-clause-counts : goal.returns-in_default-clause-counts
returns-in_default-clause-counts c = λ client object right.
    let none : cell_of c.args.self.now c.args.hold.now.client c.args.hold.now.object ≡ None = sym c.get.ensures.cell ∙ c.in_default.is in
    let no_more : one_for_right c.args.hold.now.rights right ≤ 0 = subst (λ s. one_for_right c.args.hold.now.rights right ≤ count_in right s) none (c.requires right) in
    let none_here : 0 ≡ 0 + one_for_right c.args.hold.now.rights right = omega arith in
    at_each_same c.args.self.now c.args.hold.now.client c.args.hold.now.object None none
    (λ same s t. count_in right s ≡ count_in right t + (if same && has c.args.hold.now.rights right then 1 else 0)) (λ s. omega arith)
    none_here client object
