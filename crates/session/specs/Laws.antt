-- What is a session's, and what holds after any list of calls (own).
use Rattle.std.specs.Prelude.{◌≡◌, ℕ, ◌<◌, ◌≤◌, ◌==◌, nat_lt, nat_le, Bool, true, false, ◌&&◌, not, List, [], ◌∷◌, filter, Option, Some, None, if◌then◌else◌}
use Rattle.session.specs.declared.rows.Session.{Session}
use Rattle.session.specs.declared.rows.OpenMirror.{OpenMirror}
use Rattle.session.specs.declared.judging.OpenQueue.{OpenQueue}
use Rattle.session.specs.declared.call.Call.{Call}
use Rattle.session.specs.Judging.{queues_of}
use Rattle.session.specs.Rows.{session_in, is_there, sessions_of, bytes_of}
use Rattle.session.specs.Tables.{State, is_by}

-- a session's queues, and its mirrors
abbrev pub is_queue_of : ℕ → OpenQueue → Bool
is_queue_of session row = row.session == session

abbrev pub is_mirror_of : ℕ → OpenMirror → Bool
is_mirror_of session row = row.session == session

-- what is a session's is as it was: its row, with its client, its pace and its answers; its queues; its mirrors
pub record IsUntouched (session : ℕ) (before now : State) : Type 0 where
  pub row : session_in now.sessions session ≡ session_in before.sessions session
  pub queues : filter (is_queue_of session) now.queues ≡ filter (is_queue_of session) before.queues
  pub mirrors : filter (is_mirror_of session) now.mirrors ≡ filter (is_mirror_of session) before.mirrors

-- none of these calls is a session's
unfoldable pub none_by : ℕ → List Call → Bool
none_by session [] = true
none_by session (first ∷ calls) = not (is_by session first) && none_by session calls

-- queues in the order of their numbers, each greater than those before it, none above a number
unfoldable pub ascend : ℕ → List OpenQueue → ℕ → Bool
ascend low [] high = nat_le low high
ascend low (row ∷ rows) high = nat_lt low row.queue && ascend row.queue rows high

-- sessions in the order of their numbers, all below a number
unfoldable pub sessions_ascend : ℕ → List Session → ℕ → Bool
sessions_ascend low [] high = nat_lt low high
sessions_ascend low (row ∷ rows) high = nat_lt low row.session && sessions_ascend row.session rows high

-- each mirror's session is there
unfoldable pub all_there : List Session → List OpenMirror → Bool
all_there sessions [] = true
all_there sessions (row ∷ rows) = is_there sessions row.session && all_there sessions rows

-- no session leaves more answers unread than it may
unfoldable pub all_answered : ℕ → List Session → Bool
all_answered most [] = true
all_answered most (row ∷ rows) = nat_le row.unsent most && all_answered most rows

-- a state that is sound: no number is two sessions' or two queues', no mirror is a gone session's, and nobody has more than it may
pub record IsSound (s : State) : Type 0 where
  pub sessions : sessions_ascend 0 s.sessions s.next ≡ true
  pub queues : ascend 0 s.queues s.newest ≡ true
  pub mirrors : all_there s.sessions s.mirrors ≡ true
  pub answers : all_answered s.limits.answers s.sessions ≡ true
  pub few_sessions : (user : ℕ) → sessions_of s.sessions user ≤ s.limits.sessions
  pub few_queues : (client : ℕ) → queues_of s.queues client ≤ s.limits.queues
  pub few_bytes : (client : ℕ) → bytes_of s.mirrors client ≤ s.limits.mirrors
