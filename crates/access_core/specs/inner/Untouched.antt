-- The parts that a core is made of, as they begin (own).
use Rattle.std.specs.Prelude.{ℕ, ◌≡◌, List, [], map}
use Rattle.policy.specs.Policy.{Declared, initial_values, region_lengths, rules_of}
use Rattle.core_model.specs.Kernels.{segments_of}
use Rattle.regions.specs.Memory.{zeros}
use Rattle.grants.specs.Ledger.{IsNew, rules_in}
use Rattle.access_core.specs.Opening.{program_of}
use Rattle.access_core.specs.declared.access.opening.Parts.{Parts}
use Rattle.access_core.specs.declared.access.opening.State.{State}
use Rattle.access_core.specs.declared.kernel.Kernel.{Kernel}

-- what is in force, in memory and in signals where nothing has happened: no right in force or held, memory of zeros, and the policy's
-- signal values
pub record IsFirst (policy : Declared) (state : State) : Type 0 where
  pub rules : rules_in state.grants ≡ rules_of policy
  pub grants : IsNew state.grants
  pub memory : state.memory ≡ zeros (region_lengths policy)
  pub signals : state.signals ≡ initial_values policy

-- what a core begins with beside what its history begins from: that state, to be changed; the kernels' segments, and an empty audit with
-- room for its entries
pub record IsUntouched (policy : Declared) (kernels : List Kernel) (capacity : ℕ) (parts : Parts) : Type 0 where
  pub state : IsFirst policy parts.state
  pub segments : parts.segments.items ≡ map segments_of (map program_of kernels)
  pub empty : parts.audit.items ≡ []
  pub places : parts.audit.room ≡ capacity
