-- The numbers of the load (own).
use Rattle.std.specs.Prelude.{ℕ, false, true, Option, Some, None}
use Rattle.threads_load.specs.declared.limits.LoadTerms.{LoadTerms}

-- how many entries the audit of a load has place for (own)
abbrev pub load_places : ℕ
load_places = 131072

-- how many packets a producer publishes, if nothing else is asked for (own)
abbrev pub load_packets : ℕ
load_packets = 8

-- how many slots a queue of a load has (own)
abbrev pub load_slots : ℕ
load_slots = 16

-- how many turns a lane makes at the most, and how often a producer tries again (own)
abbrev pub most_turns : ℕ
most_turns = 10000000

abbrev pub most_tries : ℕ
most_tries = 10000000

-- how many bytes of a region it counts in (own)
abbrev pub number_bytes : ℕ
number_bytes = 8

-- the terms of a load with so many producers a queue: each publishes 8 packets, and turns and tries count over all of them; or so many, and
-- they count anew behind each (own)
abbrev pub terms_for : ℕ → Option ℕ → LoadTerms
terms_for producers None = record { producers = producers; packets = load_packets; limits = record { turns = most_turns; tries = most_tries; are_renewed = false } }
terms_for producers (Some packets) = record { producers = producers; packets = packets; limits = record { turns = most_turns; tries = most_tries; are_renewed = true } }
