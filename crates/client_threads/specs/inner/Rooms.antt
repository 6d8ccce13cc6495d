-- What is got and what is there before rings are settled.
use Rattle.std.specs.Prelude.{◌≡◌, ◌≤◌, List, [], ◌∷◌, length, All, Option, Some, None, ⊤, vec_capacity}
use Rattle.atomic_table.specs.Seated.{TableId}
use Rattle.client_threads.specs.declared.client_end.ClientEnd.{ClientEnd}
use Rattle.client_threads.specs.declared.settling.QueueRoom.{QueueRoom}
use Rattle.client_threads.specs.Lanes.{LaneSeen}
use Rattle.client_threads.specs.Rings.{QueueRing}
use Rattle.client_threads.specs.Settling.{passes_of}
use Rattle.client_threads.specs.Takes.{lane_at}

-- there is room to settle a queue's ring
pub record IsRoomFor (ends : List ClientEnd) (r : QueueRing) (room : QueueRoom) : Type 0 where
  pub words : room.words ≡ r.ring.size
  pub none : room.passes.items ≡ []
  pub passes : length (passes_of r.queue ends) ≤ vec_capacity room.passes

-- there is for each ring
abbrev pub AreRoomy : List ClientEnd → List QueueRing → List QueueRoom → Type 0
AreRoomy ends [] [] = ⊤
AreRoomy ends (r ∷ rs) (room ∷ rooms) = IsRoomFor ends r room × AreRoomy ends rs rooms
AreRoomy ends [] (room ∷ rooms) = ⊥
AreRoomy ends (r ∷ rs) [] = ⊥

-- there is a lane, and its pass steps on this table
abbrev pub IsSomeOf : TableId → Option LaneSeen → Type 0
IsSomeOf table None = ⊥
IsSomeOf table (Some lane) = lane.pass.table ≡ table

-- a ring can be settled: there is room, and its passes and its lane are among what is left, as they were among all
pub record IsReady (all : List ClientEnd) (every : List LaneSeen) (r : QueueRing) (room : QueueRoom) (ends : List ClientEnd) (lanes : List LaneSeen) : Type 0 where
  pub room_is : IsRoomFor ends r room
  pub belong : All (λ pass. pass.table ≡ r.ring.table) (passes_of r.queue ends)
  pub lane : IsSomeOf r.ring.table (lane_at r.queue lanes)
  pub same_passes : passes_of r.queue ends ≡ passes_of r.queue all
  pub same_lane : lane_at r.queue lanes ≡ lane_at r.queue every

-- all rings that are left can be
abbrev pub AreReady : List ClientEnd → List LaneSeen → List QueueRing → List QueueRoom → List ClientEnd → List LaneSeen → Type 0
AreReady all every [] [] ends lanes = ⊤
AreReady all every (r ∷ rs) (room ∷ rooms) ends lanes = IsReady all every r room ends lanes × AreReady all every rs rooms ends lanes
AreReady all every [] (room ∷ rooms) ends lanes = ⊥
AreReady all every (r ∷ rs) [] ends lanes = ⊥
