-- Who is connected and what is whose, and what each call does (own).
use Rattle.std.specs.Prelude.{ℕ, suc, ◌+◌, ◌-◌, ◌^◌, ◌==◌, nat_lt, nat_le, Bool, true, false, ◌&&◌, List, [], ◌∷◌, ◌++◌, length, filter, map, Option, Some, None, if◌then◌else◌}
use Rattle.session.specs.declared.limits.Limits.{Limits}
use Rattle.session.specs.declared.rows.Comer.{Comer}
use Rattle.session.specs.declared.rows.Session.{Session}
use Rattle.session.specs.declared.rows.OpenMirror.{OpenMirror}
use Rattle.session.specs.declared.rows.Places.{Places}
use Rattle.session.specs.declared.judging.OpenQueue.{OpenQueue}
use Rattle.session.specs.declared.judging.Asker.{Asker}
use Rattle.session.specs.declared.judging.Verdict.{Verdict}
use Rattle.session.specs.declared.judging.Verdict.TheVariants.{Make, NotNow, Quota, NotYours, TooOften, TooLate, Unknown, NoRoom}
use Rattle.session.specs.declared.call.Call.{Call}
use Rattle.session.specs.declared.call.Call.TheVariants as call
use Rattle.session.specs.declared.requests.Request.{Request}
use Rattle.session.specs.Pace.{pace_after, keeps_pace}
use Rattle.session.specs.Judging.{owner_in, queues_of, is_own, judged, within, is_make}
use Rattle.session.specs.Rows.{comer_in, put_comer, session_in, is_there, put_session, sessions_of, asker_in, bytes_of, has_mirror, stays_open, stays_connected, stays_mirrored}

-- who is connected, and what is whose
pub record State : Type 0 where
  pub limits : Limits  -- what each may have
  pub places : Places  -- how many rows there is room for
  pub next : ℕ  -- the number of the session that comes next
  pub newest : ℕ  -- the greatest number of a queue that was opened
  pub users : List Comer  -- the users that may come, and how often each came
  pub sessions : List Session  -- who is connected
  pub queues : List OpenQueue  -- the queues that are open
  pub mirrors : List OpenMirror  -- the mirrors that there are

-- what a call is answered, and what then is
pub record Outcome : Type 0 where
  pub told : Verdict
  pub after : State

abbrev pub outcome : Verdict → State → Outcome
outcome told after = record { told = told; after = after }

abbrev pub refused : Verdict → State → Outcome
refused told state = record { told = told; after = state }

abbrev pub made : State → Outcome
made state = record { told = Make; after = state }

-- what a verdict lets pass is done; where it doesn't, that is told
abbrev pub where_made : Verdict → State → Outcome → Outcome
where_made verdict state done = if is_make verdict then done else refused verdict state

-- what is done where there is room
abbrev pub where_room : Bool → State → State → Outcome
where_room has_room state done = if has_room then made done else refused NoRoom state

-- a user comes, in its pace, where it has fewer sessions than it may
abbrev pub counted : Limits → ℕ → Comer → Comer
counted limits now comer = record comer { pace = pace_after limits.connect_time now comer.pace }

abbrev pub may_come : State → Comer → Verdict
may_come s comer =
    if keeps_pace s.limits.connects comer.pace then within (nat_lt (sessions_of s.sessions comer.user) s.limits.sessions) else TooOften

abbrev pub newcomer : State → ℕ → ℕ → Session
newcomer s user now = record { session = s.next; user = user; since = now; client = None; pace = record { begun = now; count = 0 }; unsent = 0 }

abbrev pub joined : State → ℕ → ℕ → State
joined s user now = record s { next = suc s.next; sessions = s.sessions ++ newcomer s user now ∷ [] }

abbrev pub has_seat : State → Bool
has_seat s = nat_lt (length s.sessions) s.places.sessions && nat_lt (suc s.next) (2 ^ 64)

abbrev pub come_as : State → Comer → ℕ → Outcome
come_as s comer now = where_made (may_come s comer) s (where_room (has_seat s) s (joined s comer.user now))

abbrev pub come_by : State → ℕ → Option Comer → Outcome
come_by s now None = refused Unknown s
come_by s now (Some comer) = come_as (record s { users = put_comer (counted s.limits now comer) s.users }) (counted s.limits now comer) now

abbrev pub come : State → ℕ → ℕ → Outcome
come s user now = come_by s now (comer_in s.users user)

-- a session's row as it is now
abbrev pub with_row : State → Session → State
with_row s row = record s { sessions = put_session row s.sessions }

-- a session says who it is, once, and in time
abbrev pub may_greet : Limits → Session → ℕ → Verdict
may_greet limits row now = elim row.client [ None ↦ if nat_lt (now - row.since) limits.greeting_time then Make else TooLate | Some client ↦ NotNow ]

abbrev pub greet_by : State → ℕ → ℕ → Option Session → Outcome
greet_by s client now None = refused Unknown s
greet_by s client now (Some row) = where_made (may_greet s.limits row now) s (made (with_row s (record row { client = Some client })))

abbrev pub greet : State → ℕ → ℕ → ℕ → Outcome
greet s session client now = greet_by s client now (session_in s.sessions session)

-- a message comes, in its session's pace, where no answer waits to be sent
abbrev pub heard : Limits → ℕ → Session → Session
heard limits now row = record row { pace = pace_after limits.message_time now row.pace }

abbrev pub may_speak : Limits → Session → Verdict
may_speak limits row = if keeps_pace limits.messages row.pace then (if nat_lt row.unsent limits.answers then Make else NotNow) else TooOften

abbrev pub message_by : State → ℕ → Option Session → Outcome
message_by s now None = refused Unknown s
message_by s now (Some row) = refused (may_speak s.limits (heard s.limits now row)) (with_row s (heard s.limits now row))

abbrev pub message : State → ℕ → ℕ → Outcome
message s session now = message_by s now (session_in s.sessions session)

-- the core has opened a queue for a session: its number is greater than all before
abbrev pub may_open : State → Asker → ℕ → Verdict
may_open s asker queue =
    if nat_lt s.newest queue then within (nat_lt (queues_of s.queues asker.client) s.limits.queues) else NotYours

abbrev pub opened : State → Asker → ℕ → State
opened s asker queue = record s { newest = queue; queues = s.queues ++ record { queue = queue; session = asker.session; client = asker.client } ∷ [] }

abbrev pub opening_by : State → ℕ → Option Asker → Outcome
opening_by s queue None = refused NotNow s
opening_by s queue (Some asker) = where_made (may_open s asker queue) s (where_room (nat_lt (length s.queues) s.places.queues) s (opened s asker queue))

abbrev pub opening : State → ℕ → ℕ → Outcome
opening s session queue = opening_by s queue (asker_in s.sessions session)

-- a queue is no longer open
abbrev pub without : State → ℕ → ℕ → State
without s session queue = record s { queues = filter (stays_open session queue) s.queues }

-- the core has closed a session's queue, which the session asked
abbrev pub close_by : State → ℕ → Option Asker → Outcome
close_by s queue None = refused NotNow s
close_by s queue (Some asker) = if is_own s.queues asker queue then made (without s asker.session queue) else refused NotYours s

abbrev pub close : State → ℕ → ℕ → Outcome
close s session queue = close_by s queue (asker_in s.sessions session)

-- the core has closed a queue whose session is gone
abbrev pub closed_by : State → ℕ → Option ℕ → Outcome
closed_by s queue None = refused NotYours s
closed_by s queue (Some session) = if is_there s.sessions session then refused NotYours s else made (without s session queue)

abbrev pub closed : State → ℕ → Outcome
closed s queue = closed_by s queue (owner_in s.queues queue)

-- a session is given a mirror of a region, of so many bytes
abbrev pub may_mirror : State → Asker → ℕ → ℕ → Verdict
may_mirror s asker region bytes =
    if has_mirror s.mirrors asker.session region then NotNow else within (nat_le (bytes_of s.mirrors asker.client + bytes) s.limits.mirrors)

abbrev pub mirrored : State → Asker → ℕ → ℕ → State
mirrored s asker region bytes =
    record s { mirrors = s.mirrors ++ record { session = asker.session; client = asker.client; region = region; bytes = bytes } ∷ [] }

abbrev pub mirror_by : State → ℕ → ℕ → Option Asker → Outcome
mirror_by s region bytes None = refused NotNow s
mirror_by s region bytes (Some asker) = where_made (may_mirror s asker region bytes) s (where_room (nat_lt (length s.mirrors) s.places.mirrors) s (mirrored s asker region bytes))

abbrev pub mirror : State → ℕ → ℕ → ℕ → Outcome
mirror s session region bytes = mirror_by s region bytes (asker_in s.sessions session)

-- an answer of a session can't be sent yet
abbrev pub unsent_by : State → Option Session → Outcome
unsent_by s None = refused Unknown s
unsent_by s (Some row) = if nat_lt row.unsent s.limits.answers then made (with_row s (record row { unsent = suc row.unsent })) else refused Quota s

abbrev pub unsent : State → ℕ → Outcome
unsent s session = unsent_by s (session_in s.sessions session)

-- an answer of a session that waited was sent
abbrev pub sent_by : State → Option Session → Outcome
sent_by s None = refused Unknown s
sent_by s (Some row) = if nat_lt 0 row.unsent then made (with_row s (record row { unsent = row.unsent - 1 })) else refused NotNow s

abbrev pub sent : State → ℕ → Outcome
sent s session = sent_by s (session_in s.sessions session)

-- a session is gone: its mirrors go with it, its queues are closed one after another
abbrev pub left : State → ℕ → State
left s session = record s { sessions = filter (stays_connected session) s.sessions; mirrors = filter (stays_mirrored session) s.mirrors }

abbrev pub gone : State → ℕ → Outcome
gone s session = if is_there s.sessions session then made (left s session) else refused Unknown s

-- what comes of what a session asks: nothing before it was greeted
abbrev pub asked : State → ℕ → Request → Verdict
asked s session request = elim (asker_in s.sessions session) [ None ↦ NotNow | Some asker ↦ judged s.queues s.limits.queues asker request ]

-- each call
abbrev pub step : State → Call → Outcome
step s (call.Come user now) = come s user now
step s (call.Greet session client now) = greet s session client now
step s (call.Message session now) = message s session now
step s (call.Open session queue) = opening s session queue
step s (call.Close session queue) = close s session queue
step s (call.Closed queue) = closed s queue
step s (call.Mirror session region bytes) = mirror s session region bytes
step s (call.Unsent session) = unsent s session
step s (call.Sent session) = sent s session
step s (call.Gone session) = gone s session

-- what is after any list of calls
unfoldable pub after_all : State → List Call → State
after_all s [] = s
after_all s (first ∷ calls) = after_all (step s first).after calls

-- the calls that a session makes: a user that comes has none yet, and a queue of nobody is closed by nobody
abbrev pub is_by : ℕ → Call → Bool
is_by session (call.Come user now) = false
is_by session (call.Greet s client now) = s == session
is_by session (call.Message s now) = s == session
is_by session (call.Open s queue) = s == session
is_by session (call.Close s queue) = s == session
is_by session (call.Closed queue) = false
is_by session (call.Mirror s region bytes) = s == session
is_by session (call.Unsent s) = s == session
is_by session (call.Sent s) = s == session
is_by session (call.Gone s) = s == session

-- nobody is there; these users may come
abbrev pub comer : ℕ → Comer
comer user = record { user = user; pace = record { begun = 0; count = 0 } }

abbrev pub starting : Limits → List ℕ → Places → State
starting limits users places = record {
  limits = limits;
  places = places;
  next = 1;
  newest = 0;
  users = map comer users;
  sessions = [];
  queues = [];
  mirrors = [];
}
