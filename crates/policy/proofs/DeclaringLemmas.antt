-- Policies that declare the same clients and objects: only version and rows may differ, and so do their rules.
use Rattle.std.proofs.Common.{◌≡◌, length, sym}
use Rattle.policy.specs.Declaring.{DeclaresAs}
use Rattle.policy.specs.Policy.{Declared, rules_of}

-- the other is the one with another version and other rows
pub redeclared : (policy other : Declared) → DeclaresAs policy other → other ≡ record policy { version = other.version; rows = other.rows }
redeclared policy other same = λ i. record {
  version = other.version;
  clients = sym same.clients i;
  agents = sym same.agents i;
  regions = sym same.regions i;
  signals = sym same.signals i;
  kernels = sym same.kernels i;
  rows = other.rows;
}

-- and its rules are the one's with other rows
pub same_rules : (policy other : Declared) → DeclaresAs policy other → rules_of other ≡ record (rules_of policy) { rows = other.rows }
same_rules policy other same = λ i. record {
  clients = length (sym same.clients i);
  agents = length (sym same.agents i);
  regions = length (sym same.regions i);
  signals = length (sym same.signals i);
  kernels = length (sym same.kernels i);
  rows = other.rows;
}
