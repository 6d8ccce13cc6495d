-- Why a step is not made and a list of steps leads nowhere, and the numbers of these faults.
use Rattle.std.specs.Prelude.{ℕ, List, ⊤}
use Rattle.ring_core.specs.declared.access.Step.{Step}
use Rattle.ring_core.specs.declared.state.ReplayFault.{ReplayFault}
use Rattle.ring_core.specs.declared.state.ReplayFault.TheVariants.{OutOfMemory, NotAStep}
use Rattle.ring_core.specs.declared.state.StepFault.{StepFault}
use Rattle.ring_core.specs.declared.state.StepFault.TheVariants as step
use Rattle.ring_core.specs.Machine.{opened, StopsAt}

-- a step that is not allowed is named by its index; want of memory may come at any step
abbrev pub IsReplayFault : ℕ → ℕ → List Step → ReplayFault → Type 0
IsReplayFault size producers steps OutOfMemory = ⊤
IsReplayFault size producers steps (NotAStep index) = StopsAt (opened size producers) steps index

-- what a fault of the step at an index is to the list that it stands in: the same fault
abbrev pub fault_at : ℕ → StepFault → ReplayFault
fault_at index step.OutOfMemory = OutOfMemory
fault_at index step.NotAStep = NotAStep index

-- the number of a step's fault (own)
abbrev pub number_of_step_fault : StepFault → ℕ
number_of_step_fault step.OutOfMemory = 0
number_of_step_fault step.NotAStep = 1

-- the number of a replay's fault (own)
abbrev pub number_of_replay_fault : ReplayFault → ℕ
number_of_replay_fault OutOfMemory = 0
number_of_replay_fault (NotAStep index) = 1
