-- What a client's record asks, by its number (own). What isn't here no client may send.
use Rattle.std.specs.Prelude.{◌==◌, nat_lt, Bool, ◌&&◌, ◌||◌, Option, Some, None, if◌then◌else◌}
use Rattle.session.specs.declared.head.Head.{Head}
use Rattle.session.specs.declared.requests.Request.{Request}
use Rattle.session.specs.declared.requests.Request.TheVariants.{Hello, Queue, Close, Region, Read, Write, Signal, Load, List, Errors, Sync, Number}
use Rattle.session.specs.Records.{uses_none, uses_one, uses_two, uses_three, uses_four}

-- what is asked, where the head is as that wants it
abbrev pub only : Bool → Request → Option Request
only is_well request = if is_well then Some request else None

-- 1: who the client is, by a version, and a token of 32 bytes or none
abbrev pub hello_of : Head → Option Request
hello_of h = only (uses_one h && (h.following == 0 || h.following == 32)) (Hello (record { version = h.first; has_token = h.following == 32 }))

-- 2: a queue on an agent, of so many slots
abbrev pub queue_of : Head → Option Request
queue_of h = only (uses_two h && h.following == 0) (Queue (record { agent = h.first; size = h.second }))

-- 3: the end of a queue
abbrev pub close_of : Head → Option Request
close_of h = only (uses_one h && h.following == 0) (Close h.first)

-- 4: a mirror of a region, whose stores the client names (0), or which is scanned for them (1)
abbrev pub region_of : Head → Option Request
region_of h = only (uses_two h && h.following == 0 && nat_lt h.second 2) (Region (record { region = h.first; is_scanned = h.second == 1 }))

-- 5: bytes of memory, from an address on
abbrev pub read_of : Head → Option Request
read_of h = only (uses_two h && h.following == 0) (Read (record { address = h.first; length = h.second }))

-- 6: that the bytes which follow are written, from an address on
abbrev pub write_of : Head → Option Request
write_of h = only (uses_one h) (Write (record { address = h.first; length = h.following }))

-- 7: a change of a signal, by its number, with two operands
abbrev pub signal_of : Head → Option Request
signal_of h = only (uses_four h && h.following == 0) (Signal (record { signal = h.first; operation = h.second; value = h.third; expected = h.fourth }))

-- 8: the value of a signal
abbrev pub load_of : Head → Option Request
load_of h = only (uses_one h && h.following == 0) (Load h.first)

-- 9: the client's rights in force
abbrev pub list_of : Head → Option Request
list_of h = only (uses_none h && h.following == 0) List

-- 10: the errors of a queue
abbrev pub errors_of : Head → Option Request
errors_of h = only (uses_one h && h.following == 0) (Errors h.first)

-- 11: that what was stored in a mirror goes in, from a place on, so many bytes
abbrev pub sync_of : Head → Option Request
sync_of h = only (uses_three h && h.following == 0) (Sync (record { region = h.first; offset = h.second; length = h.third }))

-- 12: the number of an object of a kind, whose name follows
abbrev pub number_of : Head → Option Request
number_of h = only (uses_one h) (Number h.first)

abbrev pub request_of : Head → Option Request
request_of h =
    if h.asks == 1 then hello_of h
    else if h.asks == 2 then queue_of h
    else if h.asks == 3 then close_of h
    else if h.asks == 4 then region_of h
    else if h.asks == 5 then read_of h
    else if h.asks == 6 then write_of h
    else if h.asks == 7 then signal_of h
    else if h.asks == 8 then load_of h
    else if h.asks == 9 then list_of h
    else if h.asks == 10 then errors_of h
    else if h.asks == 11 then sync_of h
    else if h.asks == 12 then number_of h
    else None
