-- Each call leaves a sound state sound.
use Rattle.std.proofs.Common.{◌≡◌, ℕ, suc, zero, ◌+◌, ◌-◌, ◌<◌, ◌≤◌, ◌==◌, Bool, true, false, ◌&&◌, not, List, [], ◌∷◌, ◌++◌, filter, length, map, Option, Some, None, refl, arith, ap, sym, ◌∙◌}
use Rattle.std.proofs.lemmas.Bool.Decides.{nat_tests}
use Rattle.std.specs.Prelude.{if◌then◌else◌, nat_lt, nat_le, is_some}
use Rattle.session.specs.declared.limits.Limits.{Limits}
use Rattle.session.specs.declared.rows.Comer.{Comer}
use Rattle.session.specs.declared.rows.Session.{Session}
use Rattle.session.specs.declared.rows.OpenMirror.{OpenMirror}
use Rattle.session.specs.declared.rows.Places.{Places}
use Rattle.session.specs.declared.judging.OpenQueue.{OpenQueue}
use Rattle.session.specs.declared.judging.Asker.{Asker}
use Rattle.session.specs.declared.judging.Verdict.TheVariants.{Quota, NotNow, NotYours, Unknown, TooOften}
use Rattle.session.specs.declared.call.Call.{Call}
use Rattle.session.specs.declared.call.Call.TheVariants as call
use Rattle.session.specs.Pace.{keeps_pace}
use Rattle.session.specs.Judging.{queues_of, owner_in, is_own, is_make, within}
use Rattle.session.specs.Rows.{comer_in, put_comer, session_in, is_there, put_session, asker_in, asker_by, sessions_of, bytes_of, has_mirror, stays_open, stays_connected, stays_mirrored}
use Rattle.session.specs.Tables.{State, Outcome, come_by, counted, may_come, has_seat, joined, newcomer, greet_by, may_greet, with_row, message_by, heard, opening_by, may_open, opened, close_by, without, closed_by, mirror_by, may_mirror, mirrored, unsent_by, sent_by, left, made, refused, where_room, step, after_all, starting}
use Rattle.session.specs.Laws.{IsSound, ascend, sessions_ascend, all_there, all_answered}
use Rattle.session.proofs.Looking.{found_is, asker_is}
use Rattle.session.proofs.Keeping.{where_made_keeps, where_room_keeps, if_keeps}
use Rattle.session.proofs.Sound.{ascend_append, ascend_filter, sessions_append, sessions_put, sessions_filter, there_append, there_put, all_there_by, all_there_append, all_there_without, answered_append, answered_put, answered_filter, answered_found, sessions_of_append, sessions_of_put, sessions_of_filter, queues_of_append, queues_of_filter, bytes_of_append, bytes_of_filter}

-- one more is no more than may be, where the count was below it
pub one_more : (count more most : ℕ) (own : Bool) → count ≤ most → (own ≡ true → count + more ≤ most) → count + (if own then more else 0) ≤ most
one_more count more most true few below = below refl
one_more count more most false few below = omega (arith, few)

lt_true : (a b : ℕ) → nat_lt a b ≡ true → a < b
lt_true a b holds = grind (arith, nat_tests)

le_true : (a b : ℕ) → nat_le a b ≡ true → a ≤ b
le_true a b holds = grind (arith, nat_tests)

le_holds : (a b : ℕ) → a ≤ b → nat_le a b ≡ true
le_holds a b holds = grind (arith, nat_tests)

eq_true : (a b : ℕ) → (a == b) ≡ true → a ≡ b
eq_true a b holds = grind (arith, nat_tests)

differs : false ≡ true → ⊥
differs e = cc

-- what let a call pass
within_made : (b : Bool) → is_make (within b) ≡ true → b ≡ true
within_made true holds = refl
within_made false holds = holds

if_made : (b : Bool) (few : Bool) (e : is_make (if b then within few else TooOften) ≡ true) → few ≡ true
if_made true few e = within_made few e
if_made false few e = absurd (differs e)

-- a session's row that is changed stays its user's, and leaves no more answers unread than it may
put_sound : (s : State) (row now : Session) → IsSound s → session_in s.sessions now.session ≡ Some row → row.user ≡ now.user → now.unsent ≤ s.limits.answers → IsSound (with_row s now)
put_sound s row now sound found alike few = record {
  sessions = sessions_put 0 now s.sessions s.next ∙ sound.sessions;
  queues = sound.queues;
  mirrors = all_there_by s.sessions (put_session now s.sessions) s.mirrors (there_put now s.sessions) sound.mirrors;
  answers = answered_put s.limits.answers now s.sessions sound.answers (le_holds now.unsent s.limits.answers few);
  few_sessions = λ user. rw (sessions_of_put now s.sessions row user found alike) (sound.few_sessions user);
  few_queues = sound.few_queues;
  few_bytes = sound.few_bytes;
}

-- the row that is found, at its own number
found_here : (s : State) (of : ℕ) (row : Session) → session_in s.sessions of ≡ Some row → session_in s.sessions row.session ≡ Some row
found_here s of row found = ap (session_in s.sessions) (found_is s.sessions of row found) ∙ found

few_unsent : (s : State) (of : ℕ) (row : Session) → IsSound s → session_in s.sessions of ≡ Some row → row.unsent ≤ s.limits.answers
few_unsent s of row sound found = le_true row.unsent s.limits.answers (answered_found s.limits.answers s.sessions of row sound.answers found)

counted_sound : (s : State) (users : List Comer) → IsSound s → IsSound (record s { users = users })
counted_sound s users sound = record { sessions = sound.sessions; queues = sound.queues; mirrors = sound.mirrors; answers = sound.answers; few_sessions = sound.few_sessions; few_queues = sound.few_queues; few_bytes = sound.few_bytes }

joined_sound : (s : State) (user now : ℕ) → IsSound s → nat_lt (sessions_of s.sessions user) s.limits.sessions ≡ true → IsSound (joined s user now)
joined_sound s user now sound below = record {
  sessions = sessions_append 0 s.sessions (newcomer s user now) sound.sessions;
  queues = sound.queues;
  mirrors = all_there_by s.sessions (s.sessions ++ newcomer s user now ∷ []) s.mirrors (there_append s.sessions (newcomer s user now)) sound.mirrors;
  answers = answered_append s.limits.answers s.sessions (newcomer s user now) sound.answers (le_holds 0 s.limits.answers (omega arith));
  few_sessions = λ of. rw (sessions_of_append s.sessions (newcomer s user now) of)
      (one_more (sessions_of s.sessions of) 1 s.limits.sessions (user == of) (sound.few_sessions of)
      (λ own. let few : sessions_of s.sessions user < s.limits.sessions = lt_true _ _ below in
      let named : sessions_of s.sessions user ≡ sessions_of s.sessions of = ap (sessions_of s.sessions) (eq_true user of own) in omega arith));
  few_queues = sound.few_queues;
  few_bytes = sound.few_bytes;
}

come_sound : (s : State) (now : ℕ) (o : Option Comer) → IsSound s → IsSound (come_by s now o).after
come_sound s now None sound = sound
come_sound s now (Some comer) sound =
    let named = counted s.limits now comer in
    let state : State = record s { users = put_comer named s.users } in
    let still : IsSound state = counted_sound s (put_comer named s.users) sound in
    where_made_keeps IsSound (may_come state named) state (where_room (has_seat state) state (joined state named.user now)) still
    (λ h. where_room_keeps IsSound (has_seat state) state (joined state named.user now) still
    (joined_sound state named.user now still (if_made (keeps_pace s.limits.connects named.pace) (nat_lt (sessions_of s.sessions named.user) s.limits.sessions) h)))

greet_sound : (s : State) (of client now : ℕ) (o : Option Session) → session_in s.sessions of ≡ o → IsSound s → IsSound (greet_by s client now o).after
greet_sound s of client now None found sound = sound
greet_sound s of client now (Some row) found sound =
    let greeted : Session = record row { client = Some client } in
    where_made_keeps IsSound (may_greet s.limits row now) s (made (with_row s greeted)) sound
    (λ h. put_sound s row greeted sound (found_here s of row found) refl (few_unsent s of row sound found))

message_sound : (s : State) (of now : ℕ) (o : Option Session) → session_in s.sessions of ≡ o → IsSound s → IsSound (message_by s now o).after
message_sound s of now None found sound = sound
message_sound s of now (Some row) found sound = put_sound s row (heard s.limits now row) sound (found_here s of row found) refl (few_unsent s of row sound found)

unsent_sound : (s : State) (of : ℕ) (o : Option Session) → session_in s.sessions of ≡ o → IsSound s → IsSound (unsent_by s o).after
unsent_sound s of None found sound = sound
unsent_sound s of (Some row) found sound =
    let more : Session = record row { unsent = suc row.unsent } in
    if_keeps IsSound (nat_lt row.unsent s.limits.answers) (made (with_row s more)) (refused Quota s) sound
    (λ h. let few : row.unsent < s.limits.answers = lt_true _ _ h in put_sound s row more sound (found_here s of row found) refl (omega arith))

sent_sound : (s : State) (of : ℕ) (o : Option Session) → session_in s.sessions of ≡ o → IsSound s → IsSound (sent_by s o).after
sent_sound s of None found sound = sound
sent_sound s of (Some row) found sound =
    let fewer : Session = record row { unsent = row.unsent - 1 } in
    if_keeps IsSound (nat_lt 0 row.unsent) (made (with_row s fewer)) (refused NotNow s) sound
    (λ h. let few : row.unsent ≤ s.limits.answers = few_unsent s of row sound found in put_sound s row fewer sound (found_here s of row found) refl (omega arith))

opened_sound : (s : State) (asker : Asker) (queue : ℕ) → IsSound s → s.newest < queue → nat_lt (queues_of s.queues asker.client) s.limits.queues ≡ true → IsSound (opened s asker queue)
opened_sound s asker queue sound newer below =
    let more : OpenQueue = record { queue = queue; session = asker.session; client = asker.client } in record {
      sessions = sound.sessions;
      queues = ascend_append 0 s.queues s.newest more sound.queues newer;
      mirrors = sound.mirrors;
      answers = sound.answers;
      few_sessions = sound.few_sessions;
      few_queues = λ of. rw (queues_of_append s.queues more of)
          (one_more (queues_of s.queues of) 1 s.limits.queues (asker.client == of) (sound.few_queues of)
          (λ own. let few : queues_of s.queues asker.client < s.limits.queues = lt_true _ _ below in
          let named : queues_of s.queues asker.client ≡ queues_of s.queues of = ap (queues_of s.queues) (eq_true asker.client of own) in omega arith));
      few_bytes = sound.few_bytes;
    }

may_open_made : (newer few : Bool) → is_make (if newer then within few else NotYours) ≡ true → (newer ≡ true) × (few ≡ true)
may_open_made true few e = (refl, within_made few e)
may_open_made false few e = absurd (differs e)

opening_sound : (s : State) (queue : ℕ) (o : Option Asker) → IsSound s → IsSound (opening_by s queue o).after
opening_sound s queue None sound = sound
opening_sound s queue (Some asker) sound =
    where_made_keeps IsSound (may_open s asker queue) s (where_room (nat_lt (length s.queues) s.places.queues) s (opened s asker queue)) sound
    (λ h. let may = may_open_made (nat_lt s.newest queue) (nat_lt (queues_of s.queues asker.client) s.limits.queues) h in
    where_room_keeps IsSound (nat_lt (length s.queues) s.places.queues) s (opened s asker queue) sound (opened_sound s asker queue sound (lt_true _ _ may.0) may.1))

without_sound : (s : State) (of queue : ℕ) → IsSound s → IsSound (without s of queue)
without_sound s of queue sound = record {
  sessions = sound.sessions;
  queues = ascend_filter 0 (stays_open of queue) s.queues s.newest sound.queues;
  mirrors = sound.mirrors;
  answers = sound.answers;
  few_sessions = sound.few_sessions;
  few_queues = λ client. let fewer = queues_of_filter (stays_open of queue) s.queues client in let few = sound.few_queues client in omega (arith, fewer, few);
  few_bytes = sound.few_bytes;
}

close_sound : (s : State) (queue : ℕ) (o : Option Asker) → IsSound s → IsSound (close_by s queue o).after
close_sound s queue None sound = sound
close_sound s queue (Some asker) sound =
    if_keeps IsSound (is_own s.queues asker queue) (made (without s asker.session queue)) (refused NotYours s) sound (λ h. without_sound s asker.session queue sound)

closed_if : (s : State) (owner queue : ℕ) (b : Bool) → IsSound s → IsSound (if b then refused NotYours s else made (without s owner queue)).after
closed_if s owner queue true sound = sound
closed_if s owner queue false sound = without_sound s owner queue sound

closed_sound : (s : State) (queue : ℕ) (o : Option ℕ) → IsSound s → IsSound (closed_by s queue o).after
closed_sound s queue None sound = sound
closed_sound s queue (Some owner) sound = closed_if s owner queue (is_there s.sessions owner) sound

-- who asks is there
nothing : (asker : Asker) → asker_by None ≡ Some asker → ⊥
nothing asker found = cc

asker_there_by : (o : Option Session) (asker : Asker) → asker_by o ≡ Some asker → is_some o ≡ true
asker_there_by None asker found = absurd (nothing asker found)
asker_there_by (Some row) asker found = refl

asker_there : (s : State) (of : ℕ) (asker : Asker) → asker_in s.sessions of ≡ Some asker → is_there s.sessions asker.session ≡ true
asker_there s of asker found = ap (is_there s.sessions) (asker_is s.sessions of asker found) ∙ asker_there_by (session_in s.sessions of) asker found

mirrored_sound : (s : State) (asker : Asker) (region bytes : ℕ) → IsSound s → is_there s.sessions asker.session ≡ true → nat_le (bytes_of s.mirrors asker.client + bytes) s.limits.mirrors ≡ true
    → IsSound (mirrored s asker region bytes)
mirrored_sound s asker region bytes sound there below =
    let more : OpenMirror = record { session = asker.session; client = asker.client; region = region; bytes = bytes } in record {
      sessions = sound.sessions;
      queues = sound.queues;
      mirrors = all_there_append s.sessions s.mirrors more sound.mirrors there;
      answers = sound.answers;
      few_sessions = sound.few_sessions;
      few_queues = sound.few_queues;
      few_bytes = λ of. rw (bytes_of_append s.mirrors more of)
          (one_more (bytes_of s.mirrors of) bytes s.limits.mirrors (asker.client == of) (sound.few_bytes of)
          (λ own. let few : bytes_of s.mirrors asker.client + bytes ≤ s.limits.mirrors = le_true _ _ below in
          let named : bytes_of s.mirrors asker.client ≡ bytes_of s.mirrors of = ap (bytes_of s.mirrors) (eq_true asker.client of own) in omega arith));
    }

may_mirror_made : (has few : Bool) → is_make (if has then NotNow else within few) ≡ true → few ≡ true
may_mirror_made false few e = within_made few e
may_mirror_made true few e = absurd (differs e)

mirror_sound : (s : State) (of region bytes : ℕ) (o : Option Asker) → asker_in s.sessions of ≡ o → IsSound s → IsSound (mirror_by s region bytes o).after
mirror_sound s of region bytes None found sound = sound
mirror_sound s of region bytes (Some asker) found sound =
    where_made_keeps IsSound (may_mirror s asker region bytes) s (where_room (nat_lt (length s.mirrors) s.places.mirrors) s (mirrored s asker region bytes)) sound
    (λ h. where_room_keeps IsSound (nat_lt (length s.mirrors) s.places.mirrors) s (mirrored s asker region bytes) sound
    (mirrored_sound s asker region bytes sound (asker_there s of asker found)
    (may_mirror_made (has_mirror s.mirrors asker.session region) (nat_le (bytes_of s.mirrors asker.client + bytes) s.limits.mirrors) h)))

left_sound : (s : State) (of : ℕ) → IsSound s → IsSound (left s of)
left_sound s of sound = record {
  sessions = sessions_filter 0 (stays_connected of) s.sessions s.next sound.sessions;
  queues = sound.queues;
  mirrors = all_there_without of s.sessions s.mirrors sound.mirrors;
  answers = answered_filter s.limits.answers (stays_connected of) s.sessions sound.answers;
  few_sessions = λ user. let fewer = sessions_of_filter (stays_connected of) s.sessions user in let few = sound.few_sessions user in omega (arith, fewer, few);
  few_queues = sound.few_queues;
  few_bytes = λ client. let fewer = bytes_of_filter (stays_mirrored of) s.mirrors client in let few = sound.few_bytes client in omega (arith, fewer, few);
}

step_sound : (s : State) (next : Call) → IsSound s → IsSound (step s next).after
step_sound s (call.Come user now) sound = come_sound s now (comer_in s.users user) sound
step_sound s (call.Greet of client now) sound = greet_sound s of client now (session_in s.sessions of) refl sound
step_sound s (call.Message of now) sound = message_sound s of now (session_in s.sessions of) refl sound
step_sound s (call.Open of queue) sound = opening_sound s queue (asker_in s.sessions of) sound
step_sound s (call.Close of queue) sound = close_sound s queue (asker_in s.sessions of) sound
step_sound s (call.Closed queue) sound = closed_sound s queue (owner_in s.queues queue) sound
step_sound s (call.Mirror of region bytes) sound = mirror_sound s of region bytes (asker_in s.sessions of) refl sound
step_sound s (call.Unsent of) sound = unsent_sound s of (session_in s.sessions of) refl sound
step_sound s (call.Sent of) sound = sent_sound s of (session_in s.sessions of) refl sound
step_sound s (call.Gone of) sound = if_keeps IsSound (is_there s.sessions of) (made (left s of)) (refused Unknown s) sound (λ h. left_sound s of sound)

pub all_sound : (s : State) (calls : List Call) → IsSound s → IsSound (after_all s calls)
unfolding after_all
all_sound s [] sound = sound
all_sound s (next ∷ calls) sound = all_sound (step s next).after calls (step_sound s next sound)

pub starting_sound : (limits : Limits) (users : List ℕ) (places : Places) → IsSound (starting limits users places)
unfolding sessions_ascend ascend all_there all_answered sessions_of queues_of bytes_of
starting_sound limits users places = record {
  sessions = refl;
  queues = refl;
  mirrors = refl;
  answers = refl;
  few_sessions = λ user. omega arith;
  few_queues = λ client. omega arith;
  few_bytes = λ client. omega arith;
}
