-- What an administrator's record asks, by its number (own). What isn't here no administrator may send.
use Rattle.std.specs.Prelude.{◌==◌, Bool, ◌&&◌, Option, Some, None, if◌then◌else◌}
use Rattle.session.specs.declared.head.Head.{Head}
use Rattle.session.specs.declared.commands.Command.{Command}
use Rattle.session.specs.declared.commands.Command.TheVariants.{Grant, Revoke, List, Reload, Rotate, Audit, Count, State, Sessions, Drop, Stats, Quit}
use Rattle.session.specs.declared.commands.Permission.{Permission}
use Rattle.session.specs.Records.{uses_none, uses_one, uses_four}

-- what is asked, where the head is as that wants it
abbrev pub only : Bool → Command → Option Command
only is_well command = if is_well then Some command else None

-- a command that uses four numbers of its head, one, or none; nothing follows
abbrev pub four_of : Head → Command → Option Command
four_of h command = only (uses_four h && h.following == 0) command

abbrev pub one_of : Head → Command → Option Command
one_of h command = only (uses_one h && h.following == 0) command

abbrev pub bare_of : Head → Command → Option Command
bare_of h command = only (uses_none h && h.following == 0) command

-- rights of a client on an object of a kind
abbrev pub permission_of : Head → Permission
permission_of h = record { client = h.first; kind = h.second; number = h.third; rights = h.fourth }

abbrev pub command_of : Head → Option Command
command_of h =
    if h.asks == 32 then four_of h (Grant (permission_of h))
    else if h.asks == 33 then four_of h (Revoke (permission_of h))
    else if h.asks == 34 then one_of h (List h.first)
    else if h.asks == 35 then bare_of h Reload
    else if h.asks == 36 then bare_of h Rotate
    else if h.asks == 37 then one_of h (Audit h.first)
    else if h.asks == 38 then bare_of h Count
    else if h.asks == 39 then bare_of h State
    else if h.asks == 40 then bare_of h Sessions
    else if h.asks == 41 then one_of h (Drop h.first)
    else if h.asks == 42 then bare_of h Stats
    else if h.asks == 43 then bare_of h Quit
    else None
