-- A sound state stays sound.
use Rattle.std.proofs.Common.{◌≡◌, ℕ, suc, zero, ◌+◌, ◌-◌, ◌<◌, ◌≤◌, ◌==◌, Bool, true, false, ◌&&◌, not, List, [], ◌∷◌, ◌++◌, filter, length, Option, Some, None, refl, arith, ap, sym, ◌∙◌}
use Rattle.std.specs.Prelude.{if◌then◌else◌, nat_lt, nat_le, is_some}
use Rattle.session.specs.declared.rows.Session.{Session}
use Rattle.session.specs.declared.rows.OpenMirror.{OpenMirror}
use Rattle.session.specs.declared.judging.OpenQueue.{OpenQueue}
use Rattle.session.specs.Judging.{queues_of}
use Rattle.session.specs.Rows.{session_in, is_there, put_session, sessions_of, bytes_of, stays_open, stays_connected, stays_mirrored}
use Rattle.session.specs.Laws.{ascend, sessions_ascend, all_there, all_answered}

-- orders
pub ascend_lower : (lower low : ℕ) (rows : List OpenQueue) (high : ℕ) → lower ≤ low → ascend low rows high ≡ true → ascend lower rows high ≡ true
unfolding ascend
ascend_lower lower low [] high less holds = grind arith
ascend_lower lower low (row ∷ rows) high less holds = grind arith

pub ascend_append : (low : ℕ) (rows : List OpenQueue) (high : ℕ) (more : OpenQueue) → ascend low rows high ≡ true → high < more.queue → ascend low (rows ++ more ∷ []) more.queue ≡ true
unfolding ascend
ascend_append low [] high more holds less = grind arith
ascend_append low (row ∷ rows) high more holds less = grind (arith, ascend_append row.queue rows high more)

pub ascend_filter : (low : ℕ) (keep : OpenQueue → Bool) (rows : List OpenQueue) (high : ℕ) → ascend low rows high ≡ true → ascend low (filter keep rows) high ≡ true
unfolding ascend
ascend_filter low keep [] high holds = holds
ascend_filter low keep (row ∷ rows) high holds = grind (arith, ascend_filter row.queue keep rows high, ascend_lower low row.queue (filter keep rows) high)

pub sessions_lower : (lower low : ℕ) (rows : List Session) (high : ℕ) → lower ≤ low → sessions_ascend low rows high ≡ true → sessions_ascend lower rows high ≡ true
unfolding sessions_ascend
sessions_lower lower low [] high less holds = grind arith
sessions_lower lower low (row ∷ rows) high less holds = grind arith

pub sessions_append : (low : ℕ) (rows : List Session) (more : Session) → sessions_ascend low rows more.session ≡ true → sessions_ascend low (rows ++ more ∷ []) (suc more.session) ≡ true
unfolding sessions_ascend
sessions_append low [] more holds = grind arith
sessions_append low (row ∷ rows) more holds = grind (arith, sessions_append row.session rows more)

pub sessions_put : (low : ℕ) (now : Session) (rows : List Session) (high : ℕ) → sessions_ascend low (put_session now rows) high ≡ sessions_ascend low rows high
unfolding sessions_ascend put_session
sessions_put low now [] high = refl
sessions_put low now (row ∷ rows) high = grind (arith, sessions_put row.session now rows high)

pub sessions_filter : (low : ℕ) (keep : Session → Bool) (rows : List Session) (high : ℕ) → sessions_ascend low rows high ≡ true → sessions_ascend low (filter keep rows) high ≡ true
unfolding sessions_ascend
sessions_filter low keep [] high holds = holds
sessions_filter low keep (row ∷ rows) high holds = grind (arith, sessions_filter row.session keep rows high, sessions_lower low row.session (filter keep rows) high)

-- mirrors of sessions that are there
pub there_append : (rows : List Session) (more : Session) (session : ℕ) → is_there rows session ≡ true → is_there (rows ++ more ∷ []) session ≡ true
unfolding session_in
there_append [] more session there = grind arith
there_append (row ∷ rows) more session there = grind (arith, there_append rows more session)

pub there_put : (now : Session) (rows : List Session) (session : ℕ) → is_there rows session ≡ true → is_there (put_session now rows) session ≡ true
unfolding session_in put_session
there_put now [] session there = there
there_put now (row ∷ rows) session there = grind (arith, there_put now rows session)

pub all_there_by : (rows other : List Session) (mirrors : List OpenMirror) → ((session : ℕ) → is_there rows session ≡ true → is_there other session ≡ true) → all_there rows mirrors ≡ true → all_there other mirrors ≡ true
unfolding all_there
all_there_by rows other [] leads holds = refl
all_there_by rows other (row ∷ mirrors) leads holds = grind (arith, leads row.session, all_there_by rows other mirrors leads)

pub all_there_append : (rows : List Session) (mirrors : List OpenMirror) (more : OpenMirror) → all_there rows mirrors ≡ true → is_there rows more.session ≡ true → all_there rows (mirrors ++ more ∷ []) ≡ true
unfolding all_there
all_there_append rows [] more holds there = grind arith
all_there_append rows (row ∷ mirrors) more holds there = grind (arith, all_there_append rows mirrors more)

pub there_without : (gone : ℕ) (rows : List Session) (session : ℕ) → (session == gone) ≡ false → is_there rows session ≡ true → is_there (filter (stays_connected gone) rows) session ≡ true
unfolding session_in
there_without gone [] session other there = there
there_without gone (row ∷ rows) session other there = grind (arith, there_without gone rows session)

pub all_there_without : (gone : ℕ) (rows : List Session) (mirrors : List OpenMirror) → all_there rows mirrors ≡ true → all_there (filter (stays_connected gone) rows) (filter (stays_mirrored gone) mirrors) ≡ true
unfolding all_there
all_there_without gone rows [] holds = refl
all_there_without gone rows (row ∷ mirrors) holds = grind (arith, there_without gone rows row.session, all_there_without gone rows mirrors)

-- answers
pub answered_append : (most : ℕ) (rows : List Session) (more : Session) → all_answered most rows ≡ true → nat_le more.unsent most ≡ true → all_answered most (rows ++ more ∷ []) ≡ true
unfolding all_answered
answered_append most [] more holds few = grind arith
answered_append most (row ∷ rows) more holds few = grind (arith, answered_append most rows more)

pub answered_put : (most : ℕ) (now : Session) (rows : List Session) → all_answered most rows ≡ true → nat_le now.unsent most ≡ true → all_answered most (put_session now rows) ≡ true
unfolding all_answered put_session
answered_put most now [] holds few = refl
answered_put most now (row ∷ rows) holds few = grind (arith, answered_put most now rows)

pub answered_filter : (most : ℕ) (keep : Session → Bool) (rows : List Session) → all_answered most rows ≡ true → all_answered most (filter keep rows) ≡ true
unfolding all_answered
answered_filter most keep [] holds = refl
answered_filter most keep (row ∷ rows) holds = grind (arith, answered_filter most keep rows)

pub answered_found : (most : ℕ) (rows : List Session) (session : ℕ) (row : Session) → all_answered most rows ≡ true → session_in rows session ≡ Some row → nat_le row.unsent most ≡ true
unfolding all_answered session_in
answered_found most [] session row holds found = grind arith
answered_found most (first ∷ rows) session row holds found = grind (arith, answered_found most rows session row)

-- counts
pub sessions_of_append : (rows : List Session) (more : Session) (user : ℕ) → sessions_of (rows ++ more ∷ []) user ≡ sessions_of rows user + (if more.user == user then 1 else 0)
unfolding sessions_of
sessions_of_append [] more user = grind arith
sessions_of_append (row ∷ rows) more user = grind (arith, sessions_of_append rows more user)

pub sessions_of_put : (now : Session) (rows : List Session) (row : Session) (user : ℕ) → session_in rows now.session ≡ Some row → row.user ≡ now.user → sessions_of (put_session now rows) user ≡ sessions_of rows user
unfolding sessions_of put_session session_in
sessions_of_put now [] row user found alike = refl
sessions_of_put now (first ∷ rows) row user found alike = grind (arith, sessions_of_put now rows row user)

pub sessions_of_filter : (keep : Session → Bool) (rows : List Session) (user : ℕ) → sessions_of (filter keep rows) user ≤ sessions_of rows user
unfolding sessions_of
sessions_of_filter keep [] user = omega arith
sessions_of_filter keep (row ∷ rows) user = grind (arith, sessions_of_filter keep rows user)

pub queues_of_append : (rows : List OpenQueue) (more : OpenQueue) (client : ℕ) → queues_of (rows ++ more ∷ []) client ≡ queues_of rows client + (if more.client == client then 1 else 0)
unfolding queues_of
queues_of_append [] more client = grind arith
queues_of_append (row ∷ rows) more client = grind (arith, queues_of_append rows more client)

pub queues_of_filter : (keep : OpenQueue → Bool) (rows : List OpenQueue) (client : ℕ) → queues_of (filter keep rows) client ≤ queues_of rows client
unfolding queues_of
queues_of_filter keep [] client = omega arith
queues_of_filter keep (row ∷ rows) client = grind (arith, queues_of_filter keep rows client)

pub bytes_of_append : (rows : List OpenMirror) (more : OpenMirror) (client : ℕ) → bytes_of (rows ++ more ∷ []) client ≡ bytes_of rows client + (if more.client == client then more.bytes else 0)
unfolding bytes_of
bytes_of_append [] more client = grind arith
bytes_of_append (row ∷ rows) more client = grind (arith, bytes_of_append rows more client)

pub bytes_of_filter : (keep : OpenMirror → Bool) (rows : List OpenMirror) (client : ℕ) → bytes_of (filter keep rows) client ≤ bytes_of rows client
unfolding bytes_of
bytes_of_filter keep [] client = omega arith
bytes_of_filter keep (row ∷ rows) client = grind (arith, bytes_of_filter keep rows client)
