-- The set has the rights of the cell, and no other; without a cell, none.
use Rattle.std.proofs.Common.{◌∙◌, ap, Option, arith}
use Rattle.grants.proofs.Terms.{Cell, Rights, has, has-rights_that, has_right, in_force, rights_that}
use Rattle.grants.proofs.grants.Grants.in_force.Goals as goal

-- the rights of a cell, if there is one
abbrev rights_in : Option Cell → Rights
rights_in cell = rights_that (λ right. has_right right cell)

pub returns-in-Some-clause-set : goal.returns-in-Some-clause-set
returns-in-Some-clause-set = grind arith

pub returns-in-Some-clause-each : goal.returns-in-Some-clause-each
returns-in-Some-clause-each c = λ right.
    ap (λ rights. has rights right) (returns-in-Some-clause-set c) ∙ has-rights_that (in_force c.args.self.now c.args.client c.args.object) right
