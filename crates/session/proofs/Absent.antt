-- A session that is gone stays gone.
use Rattle.std.proofs.Common.{◌≡◌, ℕ, suc, ◌-◌, ◌<◌, ◌==◌, Bool, true, false, List, [], ◌∷◌, ◌++◌, filter, length, Option, Some, None, refl, arith}
use Rattle.std.specs.Prelude.{if◌then◌else◌, nat_lt}
use Rattle.session.specs.declared.rows.Comer.{Comer}
use Rattle.session.specs.declared.rows.Session.{Session}
use Rattle.session.specs.declared.judging.Asker.{Asker}
use Rattle.session.specs.declared.judging.Verdict.TheVariants.{Quota, NotNow, NotYours, Unknown}
use Rattle.session.specs.declared.call.Call.{Call}
use Rattle.session.specs.declared.call.Call.TheVariants as call
use Rattle.session.specs.Judging.{owner_in, is_own}
use Rattle.session.specs.Rows.{comer_in, put_comer, session_in, is_there, put_session, asker_in, stays_connected}
use Rattle.session.specs.Tables.{State, Outcome, come_by, counted, may_come, has_seat, joined, newcomer, greet_by, may_greet, with_row, message_by, heard, opening_by, may_open, opened, close_by, without, closed_by, mirror_by, may_mirror, mirrored, unsent_by, sent_by, left, made, refused, where_room, step, after_all}
use Rattle.session.proofs.Looking.{absent_append, absent_put, absent_without}
use Rattle.session.proofs.Keeping.{where_made_keeps, where_room_keeps, if_keeps}

-- a number was given to a session, which is there no more
pub record IsGone (session : ℕ) (s : State) : Type 0 where
  pub given : session < s.next
  pub absent : is_there s.sessions session ≡ false

put_gone : (s : State) (now : Session) (session : ℕ) → IsGone session s → IsGone session (with_row s now)
put_gone s now session gone = record { given = gone.given; absent = absent_put now s.sessions session gone.absent }

come_gone : (s : State) (now session : ℕ) (o : Option Comer) → IsGone session s → IsGone session (come_by s now o).after
come_gone s now session None gone = gone
come_gone s now session (Some comer) gone =
    let named = counted s.limits now comer in
    let counted_state : State = record s { users = put_comer named s.users } in
    let still : IsGone session counted_state = record { given = gone.given; absent = gone.absent } in
    let older : session < s.next = gone.given in
    let other : (s.next == session) ≡ false = grind arith in
    let more : IsGone session (joined counted_state named.user now) =
    record { given = omega arith; absent = absent_append s.sessions (newcomer counted_state named.user now) session gone.absent other } in
    where_made_keeps (IsGone session) (may_come counted_state named) counted_state (where_room (has_seat counted_state) counted_state (joined counted_state named.user now)) still
    (λ h. where_room_keeps (IsGone session) (has_seat counted_state) counted_state (joined counted_state named.user now) still more)

greet_gone : (s : State) (client now session : ℕ) (o : Option Session) → IsGone session s → IsGone session (greet_by s client now o).after
greet_gone s client now session None gone = gone
greet_gone s client now session (Some row) gone =
    let greeted : Session = record row { client = Some client } in
    where_made_keeps (IsGone session) (may_greet s.limits row now) s (made (with_row s greeted)) gone (λ h. put_gone s greeted session gone)

message_gone : (s : State) (now session : ℕ) (o : Option Session) → IsGone session s → IsGone session (message_by s now o).after
message_gone s now session None gone = gone
message_gone s now session (Some row) gone = put_gone s (heard s.limits now row) session gone

unsent_gone : (s : State) (session : ℕ) (o : Option Session) → IsGone session s → IsGone session (unsent_by s o).after
unsent_gone s session None gone = gone
unsent_gone s session (Some row) gone =
    if_keeps (IsGone session) _ (made (with_row s (record row { unsent = suc row.unsent }))) (refused Quota s) gone (λ h. put_gone s (record row { unsent = suc row.unsent }) session gone)

sent_gone : (s : State) (session : ℕ) (o : Option Session) → IsGone session s → IsGone session (sent_by s o).after
sent_gone s session None gone = gone
sent_gone s session (Some row) gone =
    if_keeps (IsGone session) _ (made (with_row s (record row { unsent = row.unsent - 1 }))) (refused NotNow s) gone (λ h. put_gone s (record row { unsent = row.unsent - 1 }) session gone)

opening_gone : (s : State) (queue session : ℕ) (o : Option Asker) → IsGone session s → IsGone session (opening_by s queue o).after
opening_gone s queue session None gone = gone
opening_gone s queue session (Some asker) gone =
    let much : IsGone session (opened s asker queue) = record { given = gone.given; absent = gone.absent } in
    where_made_keeps (IsGone session) (may_open s asker queue) s (where_room (nat_lt (length s.queues) s.places.queues) s (opened s asker queue)) gone
    (λ h. where_room_keeps (IsGone session) (nat_lt (length s.queues) s.places.queues) s (opened s asker queue) gone much)

mirror_gone : (s : State) (region bytes session : ℕ) (o : Option Asker) → IsGone session s → IsGone session (mirror_by s region bytes o).after
mirror_gone s region bytes session None gone = gone
mirror_gone s region bytes session (Some asker) gone =
    let much : IsGone session (mirrored s asker region bytes) = record { given = gone.given; absent = gone.absent } in
    where_made_keeps (IsGone session) (may_mirror s asker region bytes) s (where_room (nat_lt (length s.mirrors) s.places.mirrors) s (mirrored s asker region bytes)) gone
    (λ h. where_room_keeps (IsGone session) (nat_lt (length s.mirrors) s.places.mirrors) s (mirrored s asker region bytes) gone much)

without_gone : (s : State) (of queue session : ℕ) → IsGone session s → IsGone session (without s of queue)
without_gone s of queue session gone = record { given = gone.given; absent = gone.absent }

close_gone : (s : State) (queue session : ℕ) (o : Option Asker) → IsGone session s → IsGone session (close_by s queue o).after
close_gone s queue session None gone = gone
close_gone s queue session (Some asker) gone =
    if_keeps (IsGone session) (is_own s.queues asker queue) (made (without s asker.session queue)) (refused NotYours s) gone (λ h. without_gone s asker.session queue session gone)

closed_if : (s : State) (owner queue session : ℕ) (b : Bool) → IsGone session s → IsGone session (if b then refused NotYours s else made (without s owner queue)).after
closed_if s owner queue session true gone = gone
closed_if s owner queue session false gone = without_gone s owner queue session gone

closed_gone : (s : State) (queue session : ℕ) (o : Option ℕ) → IsGone session s → IsGone session (closed_by s queue o).after
closed_gone s queue session None gone = gone
closed_gone s queue session (Some owner) gone = closed_if s owner queue session (is_there s.sessions owner) gone

left_gone : (s : State) (of session : ℕ) → IsGone session s → IsGone session (left s of)
left_gone s of session gone = record { given = gone.given; absent = absent_without of s.sessions session gone.absent }

step_gone : (s : State) (next : Call) (session : ℕ) → IsGone session s → IsGone session (step s next).after
step_gone s (call.Come user now) session gone = come_gone s now session (comer_in s.users user) gone
step_gone s (call.Greet of client now) session gone = greet_gone s client now session (session_in s.sessions of) gone
step_gone s (call.Message of now) session gone = message_gone s now session (session_in s.sessions of) gone
step_gone s (call.Open of queue) session gone = opening_gone s queue session (asker_in s.sessions of) gone
step_gone s (call.Close of queue) session gone = close_gone s queue session (asker_in s.sessions of) gone
step_gone s (call.Closed queue) session gone = closed_gone s queue session (owner_in s.queues queue) gone
step_gone s (call.Mirror of region bytes) session gone = mirror_gone s region bytes session (asker_in s.sessions of) gone
step_gone s (call.Unsent of) session gone = unsent_gone s session (session_in s.sessions of) gone
step_gone s (call.Sent of) session gone = sent_gone s session (session_in s.sessions of) gone
step_gone s (call.Gone of) session gone =
    if_keeps (IsGone session) (is_there s.sessions of) (made (left s of)) (refused Unknown s) gone (λ h. left_gone s of session gone)

pub all_gone : (s : State) (calls : List Call) (session : ℕ) → IsGone session s → IsGone session (after_all s calls)
unfolding after_all
all_gone s [] session gone = gone
all_gone s (next ∷ calls) session gone = all_gone (step s next).after calls session (step_gone s next session gone)
