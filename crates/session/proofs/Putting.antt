-- A row is put where the first of its number stands.
use Rattle.std.proofs.Common.{◌≡◌, ℕ, suc, zero, ◌+◌, ◌==◌, Bool, true, false, List, [], ◌∷◌, Option, Some, None, refl, arith, ap, ◌∙◌, slice_set}
use Rattle.std.specs.Prelude.{if◌then◌else◌, option_map}
use Rattle.session.specs.declared.rows.Comer.{Comer}
use Rattle.session.specs.declared.rows.Session.{Session}
use Rattle.session.specs.Rows.{put_comer, put_session}
use Rattle.session.specs.Positions.{comer_place, session_place}

same_number : (a b : ℕ) → Some a ≡ Some b → a ≡ b
same_number a b e = ap (λ (o : Option ℕ). elim o [ None ↦ a | Some n ↦ n ]) e

-- the first row of a list, or one behind it
put_by : {X : Type 0} (now row : X) (rows rest : List X) (here : Bool) (o : Option ℕ) (place : ℕ) → ((i : ℕ) → o ≡ Some i → rest ≡ slice_set rows i now)
    → (if here then Some 0 else option_map (λ i. i + 1) o) ≡ Some place → (if here then now ∷ rows else row ∷ rest) ≡ slice_set (row ∷ rows) place now
put_by now row rows rest true o place behind found = ap (λ n. slice_set (row ∷ rows) n now) (same_number 0 place found)
put_by now row rows rest false None place behind found = cc
put_by now row rows rest false (Some i) place behind found =
    let is = same_number (i + 1) place found in
    let next : suc i ≡ place = omega (arith, is) in
    ap (λ ys. row ∷ ys) (behind i refl) ∙ ap (λ n. slice_set (row ∷ rows) n now) next

none_by : {X : Type 0} (now row : X) (rows rest : List X) (here : Bool) (o : Option ℕ) → (o ≡ None → rest ≡ rows)
    → (if here then Some 0 else option_map (λ i. i + 1) o) ≡ None → (if here then now ∷ rows else row ∷ rest) ≡ row ∷ rows
none_by now row rows rest true o behind found = cc
none_by now row rows rest false None behind found = ap (λ ys. row ∷ ys) (behind refl)
none_by now row rows rest false (Some i) behind found = cc

pub session_put : (now : Session) (rows : List Session) (place : ℕ) → session_place rows now.session ≡ Some place → put_session now rows ≡ slice_set rows place now
unfolding put_session session_place
session_put now [] place found = cc
session_put now (row ∷ rows) place found =
    put_by now row rows (put_session now rows) (row.session == now.session) (session_place rows now.session) place (session_put now rows) found

pub session_left : (now : Session) (rows : List Session) → session_place rows now.session ≡ None → put_session now rows ≡ rows
unfolding put_session session_place
session_left now [] found = refl
session_left now (row ∷ rows) found =
    none_by now row rows (put_session now rows) (row.session == now.session) (session_place rows now.session) (session_left now rows) found

pub comer_put : (now : Comer) (rows : List Comer) (place : ℕ) → comer_place rows now.user ≡ Some place → put_comer now rows ≡ slice_set rows place now
unfolding put_comer comer_place
comer_put now [] place found = cc
comer_put now (row ∷ rows) place found =
    put_by now row rows (put_comer now rows) (row.user == now.user) (comer_place rows now.user) place (comer_put now rows) found

pub comer_left : (now : Comer) (rows : List Comer) → comer_place rows now.user ≡ None → put_comer now rows ≡ rows
unfolding put_comer comer_place
comer_left now [] found = refl
comer_left now (row ∷ rows) found =
    none_by now row rows (put_comer now rows) (row.user == now.user) (comer_place rows now.user) (comer_left now rows) found
