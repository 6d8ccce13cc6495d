-- All that is allowed on the objects so far is in force.
use Rattle.threads_load.specs.Grantings.{AddsGrants, HasAllowedOn}
use Rattle.threads_load.proofs.granting.grant_kind.Given as goal

abbrev pub invariant-loop-before : goal.invariant-loop-before
invariant-loop-before l = AddsGrants l.initial.core.history l.core.history × HasAllowedOn l.core.history l.client l.kind l.before
