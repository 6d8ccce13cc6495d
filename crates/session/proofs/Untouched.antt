-- What is a session's changes by no call but its own.
use Rattle.std.proofs.Common.{◌≡◌, ℕ, ◌==◌, Bool, true, false, ◌&&◌, not, List, [], ◌∷◌, ◌++◌, filter, Option, Some, None, refl, arith, ap, sym, ◌∙◌}
use Rattle.std.specs.Prelude.{if◌then◌else◌, is_some, nat_lt, length, suc, ◌-◌}
use Rattle.session.specs.declared.rows.Comer.{Comer}
use Rattle.session.specs.declared.rows.Session.{Session}
use Rattle.session.specs.declared.rows.OpenMirror.{OpenMirror}
use Rattle.session.specs.declared.judging.OpenQueue.{OpenQueue}
use Rattle.session.specs.declared.judging.Asker.{Asker}
use Rattle.session.specs.declared.call.Call.{Call}
use Rattle.session.specs.declared.call.Call.TheVariants as call
use Rattle.session.specs.declared.judging.Verdict.TheVariants.{Quota, NotNow, NotYours, Unknown}
use Rattle.session.specs.Judging.{owner_in, is_own}
use Rattle.session.specs.Rows.{comer_in, put_comer, session_in, is_there, put_session, asker_in, stays_open, stays_connected, stays_mirrored}
use Rattle.session.specs.Tables.{State, Outcome, come, come_by, come_as, counted, may_come, has_seat, joined, newcomer, greet, greet_by, may_greet, with_row, message_by, heard, may_speak, opening_by, may_open, opened, close_by, without, closed_by, mirror_by, may_mirror, mirrored, unsent_by, sent_by, left, gone, made, refused, where_room, step, after_all, is_by}
use Rattle.session.specs.Laws.{IsUntouched, is_queue_of, is_mirror_of, none_by}
use Rattle.session.proofs.Lists.{first_true, second_true, not_true, filter_other, filter_within}
use Rattle.session.proofs.Looking.{other_row, other_asker, apart, looked_append, looked_put, looked_without}
use Rattle.session.proofs.Keeping.{where_made_keeps, where_room_keeps, if_keeps}

same : (s : State) (session : ℕ) → IsUntouched session s s
same s session = record { row = refl; queues = refl; mirrors = refl }

put_untouched : (s : State) (now : Session) (session : ℕ) → (now.session == session) ≡ false → IsUntouched session s (with_row s now)
put_untouched s now session other = record { row = looked_put now s.sessions session other; queues = refl; mirrors = refl }

joined_untouched : (s : State) (users : List Comer) (user now session : ℕ) → is_there s.sessions session ≡ true → IsUntouched session s (joined (record s { users = users }) user now)
joined_untouched s users user now session there = record { row = looked_append s.sessions (newcomer s user now) session there; queues = refl; mirrors = refl }

come_untouched : (s : State) (now session : ℕ) (o : Option Comer) → is_there s.sessions session ≡ true → IsUntouched session s (come_by s now o).after
come_untouched s now session None there = same s session
come_untouched s now session (Some comer) there =
    let users = put_comer (counted s.limits now comer) s.users in
    let named = counted s.limits now comer in
    let counted_state : State = record s { users = users } in
    let still : IsUntouched session s counted_state = record { row = refl; queues = refl; mirrors = refl } in
    where_made_keeps (IsUntouched session s) (may_come counted_state named) counted_state (where_room (has_seat counted_state) counted_state (joined counted_state named.user now)) still
    (λ h. where_room_keeps (IsUntouched session s) (has_seat counted_state) counted_state (joined counted_state named.user now) still (joined_untouched s users named.user now session there))

greet_untouched : (s : State) (of client now session : ℕ) (o : Option Session) → session_in s.sessions of ≡ o → (of == session) ≡ false → IsUntouched session s (greet_by s client now o).after
greet_untouched s of client now session None found other = same s session
greet_untouched s of client now session (Some row) found other =
    let greeted : Session = record row { client = Some client } in
    where_made_keeps (IsUntouched session s) (may_greet s.limits row now) s (made (with_row s greeted)) (same s session)
    (λ h. put_untouched s greeted session (other_row s.sessions of session row found other))

message_untouched : (s : State) (of now session : ℕ) (o : Option Session) → session_in s.sessions of ≡ o → (of == session) ≡ false → IsUntouched session s (message_by s now o).after
message_untouched s of now session None found other = same s session
message_untouched s of now session (Some row) found other = put_untouched s (heard s.limits now row) session (other_row s.sessions of session row found other)

unsent_untouched : (s : State) (of session : ℕ) (o : Option Session) → session_in s.sessions of ≡ o → (of == session) ≡ false → IsUntouched session s (unsent_by s o).after
unsent_untouched s of session None found other = same s session
unsent_untouched s of session (Some row) found other =
    if_keeps (IsUntouched session s) _ (made (with_row s (record row { unsent = suc row.unsent }))) (refused Quota s) (same s session)
    (λ h. put_untouched s (record row { unsent = suc row.unsent }) session (other_row s.sessions of session row found other))

sent_untouched : (s : State) (of session : ℕ) (o : Option Session) → session_in s.sessions of ≡ o → (of == session) ≡ false → IsUntouched session s (sent_by s o).after
sent_untouched s of session None found other = same s session
sent_untouched s of session (Some row) found other =
    if_keeps (IsUntouched session s) _ (made (with_row s (record row { unsent = row.unsent - 1 }))) (refused NotNow s) (same s session)
    (λ h. put_untouched s (record row { unsent = row.unsent - 1 }) session (other_row s.sessions of session row found other))

opening_untouched : (s : State) (of queue session : ℕ) (o : Option Asker) → asker_in s.sessions of ≡ o → (of == session) ≡ false → IsUntouched session s (opening_by s queue o).after
opening_untouched s of queue session None found other = same s session
opening_untouched s of queue session (Some asker) found other =
    let row : OpenQueue = record { queue = queue; session = asker.session; client = asker.client } in
    let much : IsUntouched session s (opened s asker queue) = record { row = refl; queues = filter_other (is_queue_of session) s.queues row (other_asker s.sessions of session asker found other); mirrors = refl } in
    where_made_keeps (IsUntouched session s) (may_open s asker queue) s (where_room (nat_lt (length s.queues) s.places.queues) s (opened s asker queue)) (same s session)
    (λ h. where_room_keeps (IsUntouched session s) (nat_lt (length s.queues) s.places.queues) s (opened s asker queue) (same s session) much)

mirror_untouched : (s : State) (of region bytes session : ℕ) (o : Option Asker) → asker_in s.sessions of ≡ o → (of == session) ≡ false → IsUntouched session s (mirror_by s region bytes o).after
mirror_untouched s of region bytes session None found other = same s session
mirror_untouched s of region bytes session (Some asker) found other =
    let row : OpenMirror = record { session = asker.session; client = asker.client; region = region; bytes = bytes } in
    let much : IsUntouched session s (mirrored s asker region bytes) = record { row = refl; queues = refl; mirrors = filter_other (is_mirror_of session) s.mirrors row (other_asker s.sessions of session asker found other) } in
    where_made_keeps (IsUntouched session s) (may_mirror s asker region bytes) s (where_room (nat_lt (length s.mirrors) s.places.mirrors) s (mirrored s asker region bytes)) (same s session)
    (λ h. where_room_keeps (IsUntouched session s) (nat_lt (length s.mirrors) s.places.mirrors) s (mirrored s asker region bytes) (same s session) much)

-- another's queue that is closed is none of a session's
stays : (gone queue session : ℕ) → (gone == session) ≡ false → (row : OpenQueue) → is_queue_of session row ≡ true → stays_open gone queue row ≡ true
stays gone queue session other row own = grind arith

mirror_stays : (gone session : ℕ) → (gone == session) ≡ false → (row : OpenMirror) → is_mirror_of session row ≡ true → stays_mirrored gone row ≡ true
mirror_stays gone session other row own = grind arith

without_untouched : (s : State) (of queue session : ℕ) → (of == session) ≡ false → IsUntouched session s (without s of queue)
without_untouched s of queue session other = record { row = refl; queues = filter_within (is_queue_of session) (stays_open of queue) (stays of queue session other) s.queues; mirrors = refl }

close_untouched : (s : State) (of queue session : ℕ) (o : Option Asker) → asker_in s.sessions of ≡ o → (of == session) ≡ false → IsUntouched session s (close_by s queue o).after
close_untouched s of queue session None found other = same s session
close_untouched s of queue session (Some asker) found other =
    if_keeps (IsUntouched session s) (is_own s.queues asker queue) (made (without s asker.session queue)) (refused NotYours s) (same s session)
    (λ h. without_untouched s asker.session queue session (other_asker s.sessions of session asker found other))

closed_if : (s : State) (owner queue session : ℕ) (b : Bool) → is_there s.sessions owner ≡ b → is_there s.sessions session ≡ true
    → IsUntouched session s (if b then refused NotYours s else made (without s owner queue)).after
closed_if s owner queue session true is there = same s session
closed_if s owner queue session false is there = without_untouched s owner queue session (apart s.sessions owner session is there)

closed_untouched : (s : State) (queue session : ℕ) (o : Option ℕ) → is_there s.sessions session ≡ true → IsUntouched session s (closed_by s queue o).after
closed_untouched s queue session None there = same s session
closed_untouched s queue session (Some owner) there = closed_if s owner queue session (is_there s.sessions owner) refl there

left_untouched : (s : State) (of session : ℕ) → (of == session) ≡ false → IsUntouched session s (left s of)
left_untouched s of session other = record {
  row = looked_without of s.sessions session other;
  queues = refl;
  mirrors = filter_within (is_mirror_of session) (stays_mirrored of) (mirror_stays of session other) s.mirrors;
}

step_untouched : (s : State) (next : Call) (session : ℕ) → is_there s.sessions session ≡ true → is_by session next ≡ false → IsUntouched session s (step s next).after
step_untouched s (call.Come user now) session there other = come_untouched s now session (comer_in s.users user) there
step_untouched s (call.Greet of client now) session there other = greet_untouched s of client now session (session_in s.sessions of) refl other
step_untouched s (call.Message of now) session there other = message_untouched s of now session (session_in s.sessions of) refl other
step_untouched s (call.Open of queue) session there other = opening_untouched s of queue session (asker_in s.sessions of) refl other
step_untouched s (call.Close of queue) session there other = close_untouched s of queue session (asker_in s.sessions of) refl other
step_untouched s (call.Closed queue) session there other = closed_untouched s queue session (owner_in s.queues queue) there
step_untouched s (call.Mirror of region bytes) session there other = mirror_untouched s of region bytes session (asker_in s.sessions of) refl other
step_untouched s (call.Unsent of) session there other = unsent_untouched s of session (session_in s.sessions of) refl other
step_untouched s (call.Sent of) session there other = sent_untouched s of session (session_in s.sessions of) refl other
step_untouched s (call.Gone of) session there other =
    if_keeps (IsUntouched session s) (is_there s.sessions of) (made (left s of)) (refused Unknown s) (same s session) (λ h. left_untouched s of session other)

pub all_untouched : (s : State) (calls : List Call) (session : ℕ) → is_there s.sessions session ≡ true → none_by session calls ≡ true → IsUntouched session s (after_all s calls)
unfolding after_all none_by
all_untouched s [] session there none = same s session
all_untouched s (next ∷ calls) session there none =
    let one = step_untouched s next session there (not_true (is_by session next) (first_true (not (is_by session next)) (none_by session calls) none)) in
    let rest = all_untouched (step s next).after calls session (ap is_some one.row ∙ there) (second_true (not (is_by session next)) (none_by session calls) none) in
    record { row = rest.row ∙ one.row; queues = rest.queues ∙ one.queues; mirrors = rest.mirrors ∙ one.mirrors }
