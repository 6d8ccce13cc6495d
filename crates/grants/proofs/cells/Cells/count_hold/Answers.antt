-- One more hold of each of its rights is counted in the cell of its client and object, and nowhere else.
use Rattle.std.proofs.Common.{◌≡◌, ◌∙◌, ◌+◌, ◌<◌, ◌&&◌, Bool, false, sym, ap, subst, Some, None, arith, true≢false}
use Rattle.std.specs.Prelude.{if◌then◌else◌}
use Rattle.grants.proofs.Terms.{cell_of, count_in, each_right-has, false_from_ne_true, has, has_right, in_table}
use Rattle.grants.proofs.CellLemmas.{at_each, at_each_same, same_granted}
use Rattle.grants.proofs.cells.Cells.count_hold.Goals as goal

pub with_hold-more-requires : goal.with_hold-more-requires
with_hold-more-requires c = λ right.
    subst (λ s. count_in right s < 18446744073709551615) (sym c.get.ensures.cell ∙ c.in-Some.is) (c.requires.fits right)

pub returns-in-Some-clause-counts : goal.returns-in-Some-clause-counts
returns-in-Some-clause-counts c = λ client object right.
    at_each c.args.self.now c.args.hold.now.client c.args.hold.now.object (Some c.in-Some.cell) (sym c.get.ensures.cell ∙ c.in-Some.is)
    (λ same s t. count_in right t ≡ count_in right s + (if same && has c.args.hold.now.rights right then 1 else 0)) (λ s. omega arith)
    c.set.new.self c.with_hold-more.result c.set.ensures.cells (c.with_hold-more.ensures.held right) client object

pub returns-in-Some-clause-rights : goal.returns-in-Some-clause-rights
returns-in-Some-clause-rights c =
    same_granted c.args.self.now c.args.hold.now.client c.args.hold.now.object c.in-Some.cell (sym c.get.ensures.cell ∙ c.in-Some.is)
    c.set.new.self c.with_hold-more.result c.set.ensures.rules c.set.ensures.cells c.with_hold-more.ensures.rights

pub returns-in_default-clause-counts : goal.returns-in_default-clause-counts
returns-in_default-clause-counts c = λ client object right.
    let none : cell_of c.args.self.now c.args.hold.now.client c.args.hold.now.object ≡ None = sym c.get.ensures.cell ∙ c.in_default.is in
    let not_named : has c.args.hold.now.rights right ≡ false = false_from_ne_true (has c.args.hold.now.rights right) (λ named.
    true≢false (sym (each_right-has c.args.hold.now.rights (in_table c.args.self.now c.args.hold.now.client c.args.hold.now.object) c.requires.in_force right named)
    ∙ ap (has_right right) none)) in
    at_each_same c.args.self.now c.args.hold.now.client c.args.hold.now.object None none
    (λ same s t. count_in right t ≡ count_in right s + (if same && has c.args.hold.now.rights right then 1 else 0)) (λ s. omega arith)
    (ap (λ (b : Bool). 0 + (if b then 1 else 0)) (sym not_named)) client object
