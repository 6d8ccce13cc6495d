-- The rings of a broker, and what belongs to which (own).
use Rattle.std.specs.Prelude.{◌≡◌, ℕ, ◌==◌, List, [], ◌∷◌, option_map, Option, Some, None, ⊤}
use Rattle.std.specs.List.{find}
use Rattle.atomic_table.specs.Seated.{TableId}
use Rattle.ring.specs.Passes.{RingSeen}

-- a ring under the number of its queue
pub record QueueRing : Type 0 where
  pub queue : ℕ
  pub ring : RingSeen

-- the ring of a queue, if there is one
abbrev pub ring_of : ℕ → List QueueRing → Option RingSeen
ring_of queue rings = option_map (λ r. r.ring) (find (λ r. r.queue == queue) rings)

-- this is the ring of a queue
abbrev pub IsRingOf : List QueueRing → ℕ → RingSeen → Type 0
IsRingOf rings queue ring = ring_of queue rings ≡ Some ring

-- what steps on this table of words is of the broker's ring for a queue
abbrev pub IsOf : List QueueRing → ℕ → TableId → Type 0
IsOf rings queue table = (ring : RingSeen) × IsRingOf rings queue ring × (table ≡ ring.table)

-- no two rings are of one queue
abbrev pub AreApart : List QueueRing → Type 0
AreApart [] = ⊤
AreApart (r ∷ rs) = (ring_of r.queue rs ≡ None) × AreApart rs
