-- What a pointer to a session owns: where the session lives, what a box of it owns; else nothing.
use Rattle.std.specs.Prelude.{Bool, true, false}
use base.Fml.{Fml, ftrue}
use base.Stored.{Coded}
use denote.RawPtr.{Ptr}
use Rattle.std.specs.Box.Ownership.{box_owns}
use Rattle.std.specs.Global.{Global}
use Rattle.std.specs.contracts.impls.GlobalAllocator.TheImpl.{ghosts}
use Rattle.hobbydresser_c.specs.contracts.session.Session.{the_row}

-- a formula, or nothing
abbrev pub owned_if : Bool → Fml → Fml
owned_if true F = F
owned_if false F = ftrue

abbrev pub pointer_owns : Bool → Global → Ptr → the_row.Denot → Fml
pointer_owns live alloc at session = owned_if live (box_owns (ghosts.dealloc_token alloc) the_row at session)

abbrev pub session_coded : Coded the_row.Denot
session_coded = the_row.coded
