-- Which rings packets lie in.
use Rattle.std.specs.Prelude.{ℕ, Bool, ◌==◌, List, [], ◌∷◌}
use Rattle.std.specs.List.{list_any}

-- The numbers of slots that a ring may have: the powers of two (PSA, User Mode Queuing) from 2 to 4,096 (own).
abbrev pub ring_sizes : List ℕ
ring_sizes = 2 ∷ 4 ∷ 8 ∷ 16 ∷ 32 ∷ 64 ∷ 128 ∷ 256 ∷ 512 ∷ 1024 ∷ 2048 ∷ 4096 ∷ []

-- Whether a ring may have so many slots.
abbrev pub is_ring_size : ℕ → Bool
is_ring_size size = list_any (λ s. s == size) ring_sizes
