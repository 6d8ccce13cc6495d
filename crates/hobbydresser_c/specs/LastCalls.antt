-- What is kept of the last call (own).
use Rattle.std.specs.Prelude.{ℕ, ◌≡◌, ◌+◌, ◌==◌, Bool, true, false, length, if◌then◌else◌}
use Rattle.core_model.specs.History.{History, beginning}
use Rattle.policy.specs.declared.object.Object.{Object}
use Rattle.policy.specs.declared.rights.Right.{Right}
use Rattle.policy.specs.Rights.{set_of}
use Rattle.hobbydresser_c.specs.declared.last_call.LastCall.{LastCall}
use Rattle.hobbydresser_c.specs.declared.session.Session.{Session}
use Rattle.hobbydresser_c.specs.declared.told.HeldRecord.{HeldRecord}
use Rattle.hobbydresser_c.specs.Statuses.{denied, no_such, ok}
use Rattle.hobbydresser_c.specs.Told.{held_told}

-- how many entries a history has: those that came before the audit's, and those
abbrev pub entry_count : History → ℕ
entry_count history = (beginning history).before + length history.entries

-- no right
abbrev pub no_right : HeldRecord
no_right = record { kind = 0; number = 0; rights = 0 }

-- what a call lacked that asked for one right on an object and was answered so
abbrev pub lacked : ℕ → Object → Right → HeldRecord
lacked status object right = if status == denied then held_told (object, set_of right) else no_right

-- no call
abbrev pub no_call : LastCall
no_call = record { entries = 0; lacking = no_right }

-- what is kept of a call that was made of a history, and lacked this
abbrev pub call_of : History → HeldRecord → LastCall
call_of history lacking = record { entries = entry_count history; lacking = lacking }

-- a session of which a call was made, that lacked nothing
abbrev pub noted : Session → Session
noted session = record { core = session.core; digest = session.digest; last = call_of session.core.history no_right }

-- a session whose last call lacked this
abbrev pub with_lacking : HeldRecord → Session → Session
with_lacking lacking session = record { core = session.core; digest = session.digest; last = record { entries = session.last.entries; lacking = lacking } }

-- a session after a call that lacked this, where it is open
abbrev pub session_after : Bool → HeldRecord → Session → Session
session_after true lacking session = record { core = session.core; digest = session.digest; last = call_of session.core.history lacking }
session_after false lacking session = session

-- the right that was lacking was told, if one was
abbrev pub TellsLackingIf : Bool → HeldRecord → ℕ → HeldRecord → HeldRecord → Type 0
TellsLackingIf true lacking status before after = (status ≡ no_such) × (after ≡ before)
TellsLackingIf false lacking status before after = (status ≡ ok) × (after ≡ lacking)

abbrev pub TellsLacking : HeldRecord → ℕ → HeldRecord → HeldRecord → Type 0
TellsLacking lacking status before after = TellsLackingIf (lacking.rights == 0) lacking status before after
