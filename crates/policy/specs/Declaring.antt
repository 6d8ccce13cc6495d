-- Policies that declare the same clients and objects.
use Rattle.std.specs.Prelude.{◌≡◌}
use Rattle.policy.specs.Policy.{Declared}

-- The two declare the same clients, agents, regions, signals and kernels, in the same order and in all their keys: an agent with the
-- dispatches that it takes, whichever way they are listed, a region with its length, a signal with its initial value, a kernel with its
-- entry and its text. Rows on rights and versions may differ (own).
pub record DeclaresAs (policy other : Declared) : Type 0 where
  pub clients : policy.clients ≡ other.clients
  pub agents : policy.agents ≡ other.agents
  pub regions : policy.regions ≡ other.regions
  pub signals : policy.signals ≡ other.signals
  pub kernels : policy.kernels ≡ other.kernels
