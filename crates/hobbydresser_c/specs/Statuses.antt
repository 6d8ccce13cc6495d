-- The statuses of the calls for C (own).
use Rattle.std.specs.Prelude.{ℕ, ◌+◌}
use Rattle.core_model.specs.declared.refusal.Refusal.{Refusal}
use Rattle.core_model.specs.Refusals as refusals
use Rattle.hsail_reader.specs.declared.fault.ReadCause.{ReadCause}
use Rattle.hsail_reader.specs.Faults as reading
use Rattle.kernel_check.specs.declared.fault.CheckCause.{CheckCause}
use Rattle.kernel_check.specs.Faults as checking
use Rattle.policy.specs.declared.fault.PolicyCause.{PolicyCause}
use Rattle.policy.specs.FaultTexts as policy

-- the call was made
abbrev pub ok : ℕ
ok = 0

-- memory was wanted and not to be had
abbrev pub out_of_memory : ℕ
out_of_memory = 1

-- a right was lacking
abbrev pub denied : ℕ
denied = 4

-- the broker isn't open
abbrev pub closed : ℕ
closed = 401

-- it is open already
abbrev pub open_already : ℕ
open_already = 402

-- a kernel has no entry of its name
abbrev pub no_entry : ℕ
no_entry = 403

-- an audit has no such number of places
abbrev pub bad_places : ℕ
bad_places = 404

-- nothing stands for a number
abbrev pub no_such : ℕ
no_such = 405

-- a buffer is too short
abbrev pub too_short : ℕ
too_short = 406

-- there isn't one kernel for each of the policy's
abbrev pub other_kernels : ℕ
other_kernels = 407

-- a refusal of the core: its number, and 1 more
abbrev pub status_of_refusal : Refusal → ℕ
status_of_refusal why = refusals.number_of why + 1

-- what is wrong with a policy
abbrev pub status_of_cause : PolicyCause → ℕ
status_of_cause cause = policy.number_of_cause cause + 100

-- what is wrong with a kernel's text
abbrev pub status_of_read : ReadCause → ℕ
status_of_read cause = reading.cause_number cause + 200

-- what is wrong with a kernel's module
abbrev pub status_of_check : CheckCause → ℕ
status_of_check cause = checking.cause_number cause + 300
