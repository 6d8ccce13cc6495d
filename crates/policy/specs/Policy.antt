-- What a policy declares, as plain lists, and its rules: `Rules.antt` says what they allow.
use Rattle.std.specs.Prelude.{ℕ, ℤ, List, length, map, Option, option_map}
use Rattle.policy.specs.declared.object.Kind.{Kind}
use Rattle.policy.specs.declared.object.Kind.TheVariants as kind
use Rattle.policy.specs.declared.object.Object.{Object}
use Rattle.policy.specs.declared.row.Takes.{Takes}
use Rattle.policy.specs.declared.rows.PolicyRows.{PolicyRows}
use Rattle.policy.specs.declared.version.Version.{Version}
use Rattle.policy.specs.Object.{kind_of, number_of}
use Rattle.policy.specs.Rules.{Rules}
pub use Rattle.policy.specs.Names.{Name, names, numbered, number_in}
pub use Rattle.policy.specs.Kernel.{Source}

-- What a policy declares: the rows of each array in order, with names resolved to numbers.
pub record Declared : Type 0 where
  -- the version of its file
  pub version : Version
  -- the clients' names
  pub clients : List Name
  -- the agents' names, and which dispatches each takes
  pub agents : List (Name × Takes)
  -- the regions' names and lengths
  pub regions : List (Name × ℕ)
  -- the signals' names and initial values
  pub signals : List (Name × ℤ)
  -- the kernels' names and sources
  pub kernels : List (Name × Source)
  -- the allow rows and the deny rows
  pub rows : PolicyRows

-- the lengths of the regions, in order
abbrev pub region_lengths : Declared → List ℕ
region_lengths policy = map (λ row. row.1) policy.regions

-- the values with which the signals begin, in order
abbrev pub initial_values : Declared → List ℤ
initial_values policy = map (λ row. row.1) policy.signals

-- the names of a kind's objects
abbrev pub names_of : Declared → Kind → List Name
names_of policy kind.Agent = names policy.agents
names_of policy kind.Region = names policy.regions
names_of policy kind.Signal = names policy.signals
names_of policy kind.Kernel = names policy.kernels

-- the name of an object
abbrev pub name_in : Declared → Object → Option Name
name_in policy object = numbered (names_of policy (kind_of object)) (number_of object)

-- what the row with a number holds beside its name
abbrev pub row_of : {X : Type 0} → List (Name × X) → ℕ → Option X
row_of rows n = option_map (λ row. row.1) (numbered rows n)

-- ---- its rules

-- how many clients and objects it declares, and its rows on rights
abbrev pub rules_of : Declared → Rules
rules_of policy = record {
  clients = length policy.clients;
  agents = length policy.agents;
  regions = length policy.regions;
  signals = length policy.signals;
  kernels = length policy.kernels;
  rows = policy.rows;
}
