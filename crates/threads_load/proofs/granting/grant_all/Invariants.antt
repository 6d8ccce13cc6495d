-- The clients so far have all that they are allowed.
use Rattle.threads_load.specs.Grantings.{AddsGrants}
use Rattle.threads_load.proofs.Granted.{HasAllowedFor}
use Rattle.threads_load.proofs.granting.grant_all.Given as goal

abbrev pub invariant-loop-before : goal.invariant-loop-before
invariant-loop-before l = AddsGrants l.initial.core.history l.core.history × HasAllowedFor l.core.history l.before
