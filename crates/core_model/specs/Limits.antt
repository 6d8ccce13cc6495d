-- The numbers of the core's rules, and what a launch begins with.
use Rattle.std.specs.Prelude.{ℕ, ◌^◌, false, [], ◌∷◌}
use Rattle.core_model.specs.declared.flight.Progress.{Progress}
use Rattle.core_model.specs.declared.outcome.Satisfied.{Satisfied}

-- how many packets of one queue are in flight at the most (own)
abbrev pub most_in_flight : ℕ
most_in_flight = 8

-- how many queues are open at the most (own)
abbrev pub most_queues : ℕ
most_queues = 64

-- how many bytes a client reads or writes in one call at the most (own)
abbrev pub most_host_bytes : ℕ
most_host_bytes = 65536

-- how many entries an audit has place for at the most (own)
abbrev pub most_entries : ℕ
most_entries = 2 ^ 20

-- how many entries lie before what a history begins from at the most (own)
abbrev pub most_before : ℕ
most_before = 2 ^ 62

-- the number of the function FILL: 0x8000 (own)
abbrev pub fill_number : ℕ
fill_number = 32768

-- the number of the function COPY: 0x8001 (own)
abbrev pub copy_number : ℕ
copy_number = 32769

-- the number of the function ADD64: 0x8002 (own)
abbrev pub add64_number : ℕ
add64_number = 32770

-- of the five dependencies of a barrier packet none was seen as 0 (PSA, Architected Queuing Language: five signals)
abbrev pub none_satisfied : Satisfied
none_satisfied = record { 0 = false ∷ false ∷ false ∷ false ∷ false ∷ [] }

-- how far a packet has come as it is launched: no group has run, and no dependency was seen (own)
abbrev pub launch_progress : Progress
launch_progress = record { groups_run = 0; satisfied = none_satisfied }
