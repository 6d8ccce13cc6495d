-- The passes of a ring that opens (own).
use Rattle.std.specs.Prelude.{ℕ, zero, suc, List, [], ◌∷◌, ◌++◌}
use Rattle.atomic_table.specs.Seated.{TableId}
use Rattle.ring_core.specs.Parts.{new_producer, new_processor}
use Rattle.ring.specs.Passes.{ProducerSeen, ProcessorSeen, as_producer, as_processor}

-- the pass of a producer that has made no step yet
abbrev pub new_producer_pass : TableId → ℕ → ProducerSeen
new_producer_pass table number = record { table = table; number = number; part = as_producer new_producer }

-- the passes of so many producers, numbered from 1, in order
abbrev pub dealt : TableId → ℕ → List ProducerSeen
dealt table zero = []
dealt table (suc n) = dealt table n ++ new_producer_pass table (suc n) ∷ []

-- the pass of a processor that has made no step yet
abbrev pub new_processor_pass : TableId → ProcessorSeen
new_processor_pass table = record { table = table; part = as_processor new_processor }
