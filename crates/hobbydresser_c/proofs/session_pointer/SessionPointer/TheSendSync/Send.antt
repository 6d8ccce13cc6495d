use mathlib.Core.Bool.{Bool, true, false}
use base.Fml.{Fml}
use base.Shift.{Keyless}
use mir.Raw.{raw}
use denote.Memory.{lone}
use denote.Struct.Struct.{exits_of}
use denote.Struct.Owning.{shape, fields, to}
use denote.Param.Send.{IsSend, AllSend, owning_send, struct_send, sendable}
use Rattle.std.proofs.Crossing as heap
use Rattle.std_alloc.proofs.SendSync.{quiet, lies}
use Rattle.std_heap.proofs.Global.TheSendSync as alloc
use Rattle.hobbydresser_c.specs.Owned.{owned_if}
use Rattle.hobbydresser_c.specs.contracts.session.Session as S
use Rattle.hobbydresser_c.proofs.session.Session.TheSendSync.{the_send as session}
use Rattle.hobbydresser_c.specs.contracts.session_pointer.SessionPointer.{the_row, the_type}

if_keyless : (live : Bool) (F : Fml) → Keyless F → Keyless (owned_if live F)
if_keyless true F k = k
if_keyless false F k = tt

pub send : IsSend the_row
send =
    let all : AllSend (fields the_type) = (search sendable, (alloc.the_field_send, tt)) in
    owning_send the_type all (λ d. if_keyless d.live _ (lies S.the_row session d.at d.session, heap.frees.frees d.alloc (raw (lone S.the_row.mir)) d.at))
    (λ k. quiet (to the_type) (exits_of k (fields the_type)) ((struct_send (shape the_type) all).leaving k))
