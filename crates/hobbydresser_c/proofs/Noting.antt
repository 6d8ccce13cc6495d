-- A call that is noted leaves the core as it is.
use Rattle.std.proofs.Common.{◌≡◌, refl, Bool, true, false}
use Rattle.access_core.specs.Cores.{Core}
use Rattle.hobbydresser_c.specs.declared.session.Session.{Session}
use Rattle.hobbydresser_c.specs.declared.told.HeldRecord.{HeldRecord}
use Rattle.hobbydresser_c.specs.LastCalls.{session_after}

pub core-kept : (open-before : Bool) (lacking : HeldRecord) (session : Session) → (session_after open-before lacking session).core ≡ session.core
core-kept true lacking session = refl
core-kept false lacking session = refl
