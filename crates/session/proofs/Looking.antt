-- What is found among rows that were changed.
use Rattle.std.proofs.Common.{◌≡◌, ℕ, ◌==◌, Bool, true, false, not, List, [], ◌∷◌, ◌++◌, filter, Option, Some, None, refl, arith, ap, sym, ◌∙◌}
use Rattle.std.specs.Prelude.{if◌then◌else◌, is_some}
use Rattle.session.specs.declared.rows.Session.{Session}
use Rattle.session.specs.declared.judging.Asker.{Asker}
use Rattle.session.specs.Rows.{session_in, is_there, put_session, asker_in, asker_by, asker_from, stays_connected}

pub found_is : (rows : List Session) (session : ℕ) (row : Session) → session_in rows session ≡ Some row → row.session ≡ session
unfolding session_in
found_is [] session row found = grind arith
found_is (first ∷ rows) session row found = grind (arith, found_is rows session row)

-- who asks is the session that is asked for
asker_from_is : (session : ℕ) (client : Option ℕ) (asker : Asker) → asker_from session client ≡ Some asker → asker.session ≡ session
asker_from_is session None asker found = cc
asker_from_is session (Some client) asker found = sym (ap (λ (o : Option Asker). elim o [ None ↦ session | Some a ↦ a.session ]) found)

asker_by_is : (o : Option Session) (session : ℕ) (asker : Asker) → ((row : Session) → o ≡ Some row → row.session ≡ session) → asker_by o ≡ Some asker → asker.session ≡ session
asker_by_is None session asker is found = cc
asker_by_is (Some row) session asker is found = asker_from_is row.session row.client asker found ∙ is row refl

pub asker_is : (rows : List Session) (session : ℕ) (asker : Asker) → asker_in rows session ≡ Some asker → asker.session ≡ session
asker_is rows session asker found = asker_by_is (session_in rows session) session asker (found_is rows session) found

pub other_row : (rows : List Session) (of session : ℕ) (row : Session) → session_in rows of ≡ Some row → (of == session) ≡ false → (row.session == session) ≡ false
other_row rows of session row found other = ap (λ n. n == session) (found_is rows of row found) ∙ other

pub other_asker : (rows : List Session) (of session : ℕ) (asker : Asker) → asker_in rows of ≡ Some asker → (of == session) ≡ false → (asker.session == session) ≡ false
other_asker rows of session asker found other = ap (λ n. n == session) (asker_is rows of asker found) ∙ other

pub apart : (rows : List Session) (gone session : ℕ) → is_there rows gone ≡ false → is_there rows session ≡ true → (gone == session) ≡ false
apart rows gone session absent there = grind arith

pub looked_append : (rows : List Session) (more : Session) (session : ℕ) → is_there rows session ≡ true → session_in (rows ++ more ∷ []) session ≡ session_in rows session
unfolding session_in
looked_append [] more session there = grind arith
looked_append (first ∷ rows) more session there = grind (arith, looked_append rows more session)

pub looked_put : (now : Session) (rows : List Session) (session : ℕ) → (now.session == session) ≡ false → session_in (put_session now rows) session ≡ session_in rows session
unfolding session_in put_session
looked_put now [] session other = refl
looked_put now (first ∷ rows) session other = grind (arith, looked_put now rows session other)

pub looked_without : (gone : ℕ) (rows : List Session) (session : ℕ) → (gone == session) ≡ false → session_in (filter (stays_connected gone) rows) session ≡ session_in rows session
unfolding session_in
looked_without gone [] session other = refl
looked_without gone (first ∷ rows) session other = grind (arith, looked_without gone rows session other)

-- who isn't there isn't there by another's row that comes, by a row that is changed, nor by one that is taken out
pub absent_append : (rows : List Session) (more : Session) (session : ℕ) → is_there rows session ≡ false → (more.session == session) ≡ false → is_there (rows ++ more ∷ []) session ≡ false
unfolding session_in
absent_append [] more session absent other = grind arith
absent_append (first ∷ rows) more session absent other = grind (arith, absent_append rows more session)

pub absent_put : (now : Session) (rows : List Session) (session : ℕ) → is_there rows session ≡ false → is_there (put_session now rows) session ≡ false
unfolding session_in put_session
absent_put now [] session absent = refl
absent_put now (first ∷ rows) session absent = grind (arith, absent_put now rows session)

pub absent_without : (gone : ℕ) (rows : List Session) (session : ℕ) → is_there rows session ≡ false → is_there (filter (stays_connected gone) rows) session ≡ false
unfolding session_in
absent_without gone [] session absent = refl
absent_without gone (first ∷ rows) session absent = grind (arith, absent_without gone rows session)
