-- What a contract sees of a core: its history, and beside it how many places those tables have that can grow (own).
use Rattle.std.specs.Prelude.{ℕ, List, length, ◌+◌}
use Rattle.sequences.specs.Room.{Roomy}
use Rattle.core_model.specs.History.{History}

-- how many places a list has, taken and free: as many as memory was taken for
abbrev pub places_of : {T : Type 0} → Roomy T → ℕ
places_of list = length list.items + list.room

-- How many places, taken and free, each table has that can grow. The other tables are of types without a call that lengthens them.
pub record TablePlaces : Type 0 where
  -- for kernels
  pub kernel_places : ℕ
  -- for what their segments take
  pub segment_places : ℕ
  -- for queues
  pub queue_places : ℕ
  -- for errors, of each queue in turn
  pub error_places : List ℕ
  -- for holds in the grants' list; what packets in flight hold is listed with their argument blocks
  pub hold_places : ℕ
  -- for the lists of rights of packets that left flight, one for each packet that can be in flight; what those in flight hold, and
  -- their argument blocks, lie with them in their queues' eight places
  pub block_places : ℕ
  -- for the audit's entries
  pub audit_places : ℕ

-- A core's history, and the places of its tables. A call that takes no memory leaves the places as they are.
pub record Core : Type 0 where
  pub history : History
  pub places : TablePlaces
