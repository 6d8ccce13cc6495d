-- The cells so far have no other right.
use Rattle.grants.specs.inner.Weighing.{AreWithin}
use Rattle.grants.proofs.weighing.are_client_cells_allowed.Given as goal

abbrev pub invariant-loop-place : goal.invariant-loop-place
invariant-loop-place l = AreWithin l.rules l.granted l.denied l.before l.place l.cells
