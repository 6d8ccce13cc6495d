-- How far the seven body words of a packet have come.
use Rattle.std.specs.Prelude.{ℕ, zero, suc, List, [], ◌∷◌, ◌++◌, slice_index}
use Rattle.ring_core.specs.declared.access.Access.TheVariants.{StoreBody, LoadBody}
use Rattle.ring_core.specs.declared.access.Made.{Made}
use Rattle.ring.specs.Made.{read, stored}

-- the stores of body words 1 to k of a ticket
abbrev pub body_stored : ℕ → List ℕ → ℕ → List Made
body_stored id words zero = []
body_stored id words (suc k) =
    body_stored id words k
    ++ stored (StoreBody (record { 0 = id }) (suc k) (slice_index words (suc k))) ∷ []

-- the loads of body words 1 to k
abbrev pub body_read : List ℕ → ℕ → List Made
body_read words zero = []
body_read words (suc k) = body_read words k ++ read (LoadBody (suc k)) (slice_index words (suc k)) ∷ []
