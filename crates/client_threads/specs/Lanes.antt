-- Lanes: what a contract sees of one, and what each keeps (own).
use Rattle.std.specs.Prelude.{◌≡◌, false, ℕ, suc, ◌<◌, ◌≤◌, List, [], ◌∷◌, ◌++◌, length, map, All, ⊤}
use Rattle.aql_packet.specs.declared.ids.QueueId.{QueueId}
use Rattle.aql_packet.specs.declared.ids.PacketId.{PacketId}
use Rattle.core_model.specs.Limits.{most_queues}
use Rattle.ring.specs.Bytes.{words_of}
use Rattle.ring.specs.Passes.{ProcessorSeen}
use Rattle.core_model.specs.declared.served.Served.{Served}
use Rattle.client_threads.specs.declared.pending.PendingPacket.{PendingPacket}
use Rattle.client_threads.specs.Boards.{FrontSeen}

-- a lane: its queue, its pass, what it served, the last of that, which it has not handed over, which of it is pending, and its front
pub record LaneSeen : Type 0 where
  pub queue : QueueId
  pub pass : ProcessorSeen
  pub served : List Served
  pub kept : List Served
  pub pending : List PacketId
  pub front : FrontSeen

-- the share of a lane's front
abbrev pub share_of : LaneSeen → ℕ
share_of lane = lane.front.share

-- the places of the sections that were made through it
abbrev pub own_of : LaneSeen → List ℕ
own_of lane = lane.front.own

-- served packets stand under their ids, in order from one on
abbrev pub AreNumbered : ℕ → List Served → Type 0
AreNumbered id [] = ⊤
AreNumbered id (one ∷ rest) = (one.id.0 ≡ id) × AreNumbered (suc id) rest

-- the words of a served packet
abbrev pub words_served : Served → List ℕ
words_served one = words_of one.bytes

-- one list ends with another
pub record EndsWith (served kept : List Served) : Type 0 where
  -- what stands before it
  pub handed : List Served
  pub served_is : served ≡ handed ++ kept

-- the ids of pending packets
abbrev pub ids_of : List PendingPacket → List PacketId
ids_of pending = map (λ p. p.id) pending

-- what a lane served is what its pass retired, from id 0 on; what it keeps is the last of that; what is pending it served
pub record IsLane (lane : LaneSeen) : Type 0 where
  -- its queue is one of the few that a broker opens in its life
  pub few : lane.queue.0 ≤ most_queues
  pub numbered : AreNumbered 0 lane.served
  pub retired : map words_served lane.served ≡ lane.pass.part.retired
  pub kept : EndsWith lane.served lane.kept
  pub pending : All (λ id. id.0 < length lane.served) lane.pending
  -- it stands not between clearing a header and raising the read index
  pub resting : lane.pass.part.raising ≡ false
