-- Where the row of a number stands.
use Rattle.std.specs.Prelude.{ℕ, ◌+◌, ◌==◌, List, [], ◌∷◌, Option, Some, None, option_map, if◌then◌else◌}
use Rattle.session.specs.declared.rows.Comer.{Comer}
use Rattle.session.specs.declared.rows.Session.{Session}

unfoldable pub comer_place : List Comer → ℕ → Option ℕ
comer_place [] user = None
comer_place (row ∷ rows) user = if row.user == user then Some 0 else option_map (λ place. place + 1) (comer_place rows user)

unfoldable pub session_place : List Session → ℕ → Option ℕ
session_place [] session = None
session_place (row ∷ rows) session = if row.session == session then Some 0 else option_map (λ place. place + 1) (session_place rows session)
