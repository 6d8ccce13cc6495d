-- The state behind some entries.
use Rattle.std.specs.Prelude.{◌+◌, List, length}
use Rattle.core_model.specs.declared.entry.Entry.{Entry}
use Rattle.core_model.specs.History.{Start}
use Rattle.core_model.specs.Grants.{in_force}
use Rattle.core_model.specs.Policies.{policy_at}
use Rattle.core_model.specs.Memory.{memory_at, signals}
use Rattle.core_model.specs.Queues.{openings, next_id, errors, is_stopped}
use Rattle.core_model.specs.Flight.{flight, progress}
use Rattle.core_model.specs.Holds.{held, arguments}

-- what a history begins from that goes on behind these entries: the answer to each question, as it is behind them (own)
abbrev pub state_after : Start → List Entry → Start
state_after start entries = record {
  policy = policy_at start entries;
  kernels = start.kernels;
  in_force = in_force start entries;
  memory = memory_at start entries;
  signals = signals start entries;
  openings = openings start entries;
  next_id = next_id start entries;
  errors = errors start entries;
  is_stopped = is_stopped start entries;
  flight = flight start entries;
  progress = progress start entries;
  held = held start entries;
  arguments = arguments start entries;
  before = start.before + length entries;
}
