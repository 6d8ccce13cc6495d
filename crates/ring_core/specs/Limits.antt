-- The limits of a ring.
use Rattle.std.specs.Prelude.{ℕ, ◌^◌}

-- how many producers a ring has at the most (own)
abbrev pub most_producers : ℕ
most_producers = 16

-- a size that no ring has (own)
abbrev pub no_ring_size : ℕ
no_ring_size = 0

-- how many packets one producer reserves at the most (own)
abbrev pub most_reservations : ℕ
most_reservations = 2 ^ 40
