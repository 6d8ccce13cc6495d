-- The numbers of a policy's rules, each once, and what every policy keeps to: how many rows each array has at most, and how long regions are.
use Rattle.std.specs.Prelude.{ℕ, ◌^◌, ◌≡◌, ◌≤◌, true, false, length, sum_by}
use Rattle.aql_packet.specs.Memory.{are_region_lengths}
use Rattle.policy.specs.declared.row.Takes.{Takes}
use Rattle.policy.specs.Policy.{Declared, region_lengths}

-- How many bytes a policy's text has at the most (own).
abbrev pub most_policy_bytes : ℕ
most_policy_bytes = 2 ^ 20

-- How many bytes a name has at the most (own).
abbrev pub most_name_bytes : ℕ
most_name_bytes = 64

-- How many clients a policy declares at the most (own).
abbrev pub most_clients : ℕ
most_clients = 64

-- How many agents it declares at the most (own).
abbrev pub most_agents : ℕ
most_agents = 16

-- How many signals it declares at the most (own).
abbrev pub most_signals : ℕ
most_signals = 1024

-- How many kernels it declares at the most (own).
abbrev pub most_kernels : ℕ
most_kernels = 64

-- How many allow rows it has at the most (own).
abbrev pub most_allow_rows : ℕ
most_allow_rows = 4096

-- How many deny rows it has at the most (own).
abbrev pub most_deny_rows : ℕ
most_deny_rows = 4096

-- How many bytes its regions have together at the most (own).
abbrev pub most_memory_bytes : ℕ
most_memory_bytes = 2 ^ 26

-- What an agent takes that takes no dispatch (own).
abbrev pub takes_nothing : Takes
takes_nothing = record { kernel = false; agent = false }

-- A policy within the limits (own).
pub record IsWithinLimits (policy : Declared) : Type 0 where
  pub clients : length policy.clients ≤ most_clients
  pub agents : length policy.agents ≤ most_agents
  pub regions : are_region_lengths (region_lengths policy) ≡ true
  -- the regions together
  pub memory : sum_by (λ region. region.1) policy.regions ≤ most_memory_bytes
  pub signals : length policy.signals ≤ most_signals
  pub kernels : length policy.kernels ≤ most_kernels
  pub allows : length policy.rows.allows ≤ most_allow_rows
  pub denies : length policy.rows.denies ≤ most_deny_rows
