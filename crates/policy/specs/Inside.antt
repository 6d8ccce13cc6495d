-- What a contract sees of a policy's tables.
use Rattle.policy.specs.declared.policy.Policy.TheInside.{Inside}
use Rattle.policy.specs.Policy.{Declared, names}

-- the tables as plain lists
abbrev pub declared_in : Inside → Declared
declared_in policy = record {
  version = policy.version;
  clients = names policy.clients;
  agents = policy.agents;
  regions = policy.regions;
  signals = policy.signals;
  kernels = policy.kernels;
  rows = policy.rows;
}
