-- The rights go out of force in the cell of the client and the object, and nowhere else.
use Rattle.std.proofs.Common.{◌≡◌, ◌∙◌, ◌&&◌, not, sym, Some}
use Rattle.grants.proofs.Terms.{has, has_right}
use Rattle.grants.proofs.HoldLemmas.{and-true}
use Rattle.grants.proofs.CellLemmas.{at_each}
use Rattle.grants.proofs.cells.Cells.take_out_of_force.Goals as goal

pub returns-in-Some-clause-in_force : goal.returns-in-Some-clause-in_force
returns-in-Some-clause-in_force c = λ client object right.
    at_each c.args.self.now c.args.client c.args.object (Some c.in-Some.cell) (sym c.get.ensures.cell ∙ c.in-Some.is)
    (λ same s t. has_right right t ≡ (has_right right s && not (same && has c.args.rights right))) (λ s. sym (and-true (has_right right s)))
    c.set.new.self c.without.result c.set.ensures.cells (c.without.ensures.rights right) client object
