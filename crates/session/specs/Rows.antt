-- Rows of who is connected, and of what is whose (own).
use Rattle.std.specs.Prelude.{ℕ, suc, ◌+◌, ◌-◌, ◌==◌, nat_lt, nat_le, Bool, true, false, ◌&&◌, ◌||◌, not, List, [], ◌∷◌, Option, Some, None, is_some, if◌then◌else◌}
use Rattle.session.specs.declared.rows.Comer.{Comer}
use Rattle.session.specs.declared.rows.Session.{Session}
use Rattle.session.specs.declared.rows.OpenMirror.{OpenMirror}
use Rattle.session.specs.declared.judging.OpenQueue.{OpenQueue}
use Rattle.session.specs.declared.judging.Asker.{Asker}
use Rattle.session.specs.declared.pace.Pace.{Pace}

-- the row of a user that may come
unfoldable pub comer_in : List Comer → ℕ → Option Comer
comer_in [] user = None
comer_in (row ∷ rows) user = if row.user == user then Some row else comer_in rows user

-- rows of users with one of them as it is now
unfoldable pub put_comer : Comer → List Comer → List Comer
put_comer now [] = []
put_comer now (row ∷ rows) = if row.user == now.user then now ∷ rows else row ∷ put_comer now rows

-- the row of a session that is there
unfoldable pub session_in : List Session → ℕ → Option Session
session_in [] session = None
session_in (row ∷ rows) session = if row.session == session then Some row else session_in rows session

abbrev pub is_there : List Session → ℕ → Bool
is_there rows session = is_some (session_in rows session)

-- rows of sessions with one of them as it is now
unfoldable pub put_session : Session → List Session → List Session
put_session now [] = []
put_session now (row ∷ rows) = if row.session == now.session then now ∷ rows else row ∷ put_session now rows

-- how many sessions a user has
unfoldable pub sessions_of : List Session → ℕ → ℕ
sessions_of [] user = 0
sessions_of (row ∷ rows) user = if row.user == user then suc (sessions_of rows user) else sessions_of rows user

-- who asks: a session that was greeted, with its client
abbrev pub asker_from : ℕ → Option ℕ → Option Asker
asker_from session None = None
asker_from session (Some client) = Some (record { session = session; client = client })

abbrev pub asker_of : Session → Option Asker
asker_of row = asker_from row.session row.client

abbrev pub asker_by : Option Session → Option Asker
asker_by None = None
asker_by (Some row) = asker_of row

abbrev pub asker_in : List Session → ℕ → Option Asker
asker_in rows session = asker_by (session_in rows session)

-- a session that was not greeted in its time
abbrev pub is_late : ℕ → ℕ → Session → Bool
is_late time now row = elim row.client [ None ↦ nat_le time (now - row.since) | Some client ↦ false ]

-- the first such session
unfoldable pub late_in : ℕ → ℕ → List Session → Option ℕ
late_in time now [] = None
late_in time now (row ∷ rows) = if is_late time now row then Some row.session else late_in time now rows

-- the first queue whose session is gone
unfoldable pub due_in : List Session → List OpenQueue → Option ℕ
due_in sessions [] = None
due_in sessions (row ∷ rows) = if is_there sessions row.session then due_in sessions rows else Some row.queue

-- how many bytes of mirrors a client has
unfoldable pub bytes_of : List OpenMirror → ℕ → ℕ
bytes_of [] client = 0
bytes_of (row ∷ rows) client = if row.client == client then row.bytes + bytes_of rows client else bytes_of rows client

-- a session has a mirror of a region
unfoldable pub has_mirror : List OpenMirror → ℕ → ℕ → Bool
has_mirror [] session region = false
has_mirror (row ∷ rows) session region = if row.session == session && row.region == region then true else has_mirror rows session region

-- rows that stay when a session's queue is closed, and when a session is gone
abbrev pub stays_open : ℕ → ℕ → OpenQueue → Bool
stays_open session queue row = not (row.session == session && row.queue == queue)

abbrev pub stays_connected : ℕ → Session → Bool
stays_connected session row = not (row.session == session)

abbrev pub stays_mirrored : ℕ → OpenMirror → Bool
stays_mirrored session row = not (row.session == session)
