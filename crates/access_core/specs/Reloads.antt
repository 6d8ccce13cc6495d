-- What is answered where a policy is handed in.
use Rattle.std.specs.Prelude.{Result, Ok, Err}
use Rattle.policy.specs.Policy.{Declared}
use Rattle.core_model.specs.declared.outcome.Outcome.{Outcome}
use Rattle.core_model.specs.declared.outcome.Outcome.TheVariants as outcome
use Rattle.core_model.specs.declared.refusal.Refusal.{Refusal}

-- that it is in force, as an outcome, or why it was refused; a refusal hands it back (own)
abbrev pub as_reloaded : Result (Unit {0}) (Refusal × Declared) → Result Outcome Refusal
as_reloaded (Ok done) = Ok outcome.Accepted
as_reloaded (Err refused) = Err refused.0
