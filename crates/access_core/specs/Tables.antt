-- How long the tables are that a core keeps (own).
use Rattle.std.specs.Prelude.{length}
use Rattle.core_model.specs.Flight.{flight}
use Rattle.core_model.specs.History.{beginning, History}
use Rattle.core_model.specs.Queues.{openings}
use Rattle.access_core.specs.declared.tables.TableSizes.{TableSizes}

-- a queue for each that is open, an argument block for each packet in flight, and an audit of its capacity
abbrev pub table_sizes : History → TableSizes
table_sizes h = record {
  queues = length (openings (beginning h) h.entries).queues;
  argument_blocks = length (flight (beginning h) h.entries);
  audit_places = h.capacity;
}
