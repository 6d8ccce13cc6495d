-- From what is known so far, the rest of the entries comes to what all of them come to.
use Rattle.std.proofs.Common.{◌≡◌, drop}
use Rattle.std.specs.Prelude.{fold}
use Rattle.core_model.specs.Grants.{in_force_after}
use Rattle.explain.specs.Lacks.{in_force_since}
use Rattle.explain.proofs.lacks.was_in_force.Given as goal

abbrev pub invariant-entries : goal.invariant-entries
invariant-entries l =
    fold (λ before entry. in_force_after l.client l.object l.right before entry.event) l.held (drop l.entry-index l.entries)
    ≡ in_force_since l.start l.entries l.client l.object l.right
