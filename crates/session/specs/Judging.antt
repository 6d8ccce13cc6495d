-- What is refused before the core is asked, and why (own).
use Rattle.std.specs.Prelude.{ℕ, zero, suc, ◌==◌, nat_lt, Bool, true, false, List, [], ◌∷◌, Option, Some, None, if◌then◌else◌}
use Rattle.session.specs.declared.judging.OpenQueue.{OpenQueue}
use Rattle.session.specs.declared.judging.Asker.{Asker}
use Rattle.session.specs.declared.judging.Verdict.{Verdict}
use Rattle.session.specs.declared.judging.Verdict.TheVariants.{Make, NotNow, Quota, NotYours, TooOften, TooLate, Unknown, NoRoom}
use Rattle.session.specs.declared.requests.Request.{Request}
use Rattle.session.specs.declared.requests.Request.TheVariants as asked

-- the session that opened a queue
unfoldable pub owner_in : List OpenQueue → ℕ → Option ℕ
owner_in [] queue = None
owner_in (row ∷ rows) queue = if row.queue == queue then Some row.session else owner_in rows queue

-- how many queues a client has open
unfoldable pub queues_of : List OpenQueue → ℕ → ℕ
queues_of [] client = 0
queues_of (row ∷ rows) client = if row.client == client then suc (queues_of rows client) else queues_of rows client

-- a session opened a queue, which is open
abbrev pub is_own : List OpenQueue → Asker → ℕ → Bool
is_own rows asker queue = elim (owner_in rows queue) [ None ↦ false | Some session ↦ session == asker.session ]

-- a request about a queue, and one for a further queue
abbrev pub own : Bool → Verdict
own is_own = if is_own then Make else NotYours

abbrev pub within : Bool → Verdict
within is_within = if is_within then Make else Quota

-- what was asked is made
abbrev pub is_make : Verdict → Bool
is_make Make = true
is_make NotNow = false
is_make Quota = false
is_make NotYours = false
is_make TooOften = false
is_make TooLate = false
is_make Unknown = false
is_make NoRoom = false

-- what comes of what a session asks that was greeted, where a client may have so many queues open: of a queue only who opened it asks;
-- nobody is greeted twice; all else is made, and its answer is the core's
abbrev pub judged : List OpenQueue → ℕ → Asker → Request → Verdict
judged rows most asker (asked.Hello greeting) = NotNow
judged rows most asker (asked.Queue new) = within (nat_lt (queues_of rows asker.client) most)
judged rows most asker (asked.Close queue) = own (is_own rows asker queue)
judged rows most asker (asked.Errors queue) = own (is_own rows asker queue)
judged rows most asker (asked.Region mirror) = Make
judged rows most asker (asked.Read range) = Make
judged rows most asker (asked.Write range) = Make
judged rows most asker (asked.Signal change) = Make
judged rows most asker (asked.Load signal) = Make
judged rows most asker asked.List = Make
judged rows most asker (asked.Sync part) = Make
judged rows most asker (asked.Number kind) = Make
