-- What becomes of a pointer whose session is lent.
use Rattle.std.specs.Prelude.{true}
use base.Fml.{Fml}
use denote.Ref.{MutBor}
use denote.Follow.{follows}
use Rattle.hobbydresser_c.specs.contracts.session_pointer.SessionPointer.{the_row as pointer_row}
use Rattle.hobbydresser_c.specs.contracts.session.Session.{the_row as session_row}

-- the pointer after its session became s
abbrev pub with_session : pointer_row.Denot → session_row.Denot → pointer_row.Denot
with_session h s = record { at = h.at; alloc = h.alloc; live = true; session = s }

-- once the borrow r ends, the pointer h stands for the last session written through r
abbrev pub pointer_follows : MutBor pointer_row.Denot → MutBor session_row.Denot → Fml
pointer_follows h r = follows pointer_row session_row h.ghost_name r.ghost_name (with_session h.now)
