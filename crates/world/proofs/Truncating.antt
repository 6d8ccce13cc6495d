-- An emptied audit, as a rotation whose part is dropped.
use Rattle.std.proofs.Common.{◌≡◌, List, Err, Ok, Result, refl}
use Rattle.core_model.specs.declared.refusal.Refusal.{Refusal}
use Rattle.core_model.specs.declared.refusal.Refusal.TheVariants as cores
use Rattle.core_model.specs.History.{History}
use Rattle.core_model.specs.Rotation.{Rotates, Truncates}
use Rattle.world.specs.declared.queue_ring.QueueRing.{QueueRing}
use Rattle.world.specs.declared.request.Request.TheVariants as request
use Rattle.world.specs.Dues.{IsServed, Reply, rotated_reply}
use Rattle.world.specs.Obeying.{HandsOut}
use Rattle.world.proofs.Obeyed.{World}

-- the reply of the rotation that it is
pub record IsHandedBack (core core' : History) : Type 0 where
  pub reply : Reply
  pub hands : HandsOut core reply core'

-- refused, it is a rotation that was refused
refused_back : (core core' : History) (why : Refusal) → Truncates core (Err why) core' → Rotates core (Err why) core'
refused_back core core' cores.AuditFull is = is
refused_back core core' _ is = absurd is

pub handed_back : (core core' : History) (result : Result (Unit {0}) Refusal) → Truncates core result core' → IsHandedBack core core'
handed_back core core' (Ok done) is = record { reply = rotated_reply (Ok is.0); hands = (Ok is.0, is.1, refl) }
handed_back core core' (Err why) is = record { reply = rotated_reply (Err why); hands = (Err why, refused_back core core' why is, refl) }

-- it serves a request for one
pub as_served : (core core' : History) (rings gone : List QueueRing) (answer : IsHandedBack core core') → IsServed (World core rings gone) request.Rotate answer.reply (World core' rings gone)
as_served core core' rings gone answer = (answer.hands.0, answer.hands.2, answer.hands.1, refl, refl)
