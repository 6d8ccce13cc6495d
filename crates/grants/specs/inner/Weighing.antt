-- What rows allow, kept in a table: a set of rights for each place of a cell, and lines in which the rows are gathered for one client.
use Rattle.std.specs.Prelude.{◌≡◌, ℕ, ◌+◌, ◌*◌, ◌<◌, ◌==◌, nat_lt, Bool, true, false, not, ◌&&◌, ◌||◌, List, length, slice_get, Option, Some, None, if◌then◌else◌}
use Rattle.std.specs.List.{list_any}
use Rattle.aql_packet.specs.declared.ids.ClientId.{ClientId}
use Rattle.policy.specs.declared.object.Kind.{Kind}
use Rattle.policy.specs.declared.object.Kind.TheVariants as kind
use Rattle.policy.specs.declared.object.Object.{Object}
use Rattle.policy.specs.declared.rights.Right.{Right}
use Rattle.policy.specs.declared.rights.Rights.{Rights}
use Rattle.policy.specs.declared.row.Target.{Target}
use Rattle.policy.specs.declared.row.Target.TheVariants as target
use Rattle.policy.specs.declared.row.RightsRow.{RightsRow}
use Rattle.policy.specs.declared.rows.PolicyRows.{PolicyRows}
use Rattle.policy.specs.Rights.{has}
use Rattle.policy.specs.Rules.{Rules, knows_object, rows_allow, is_for}
use Rattle.grants.specs.declared.cell.Cell.{Cell}
use Rattle.grants.specs.Cells.{has_right, object_count, object_place, place_of}

-- no right
abbrev pub no_rights : Rights
no_rights = record { 0 = 0 }

-- a right of the set, if there is one
abbrev pub has_at : Right → Option Rights → Bool
has_at right (Some rights) = has rights right
has_at right None = false

-- ---- the table

-- in the place of each declared client and object stands what the rows allow the client on the object
abbrev pub IsAllowedBy : Rules → PolicyRows → List Rights → Type 0
IsAllowedBy rules rows allowed = (client : ClientId) (object : Object) (right : Right) (place : ℕ) → place_of rules client object ≡ Some place
    → has_at right (slice_get allowed place) ≡ rows_allow rows client object right

-- the table has a place for each cell, and each line one for each object and kind
pub record HasRoom (rules : Rules) (allowed granted denied : List Rights) : Type 0 where
  pub table : length allowed ≡ rules.clients * object_count rules
  pub granted_line : length granted ≡ object_count rules + 4
  pub denied_line : length denied ≡ object_count rules + 4

-- ---- a line: a place for each object and, behind them, for all objects of each kind

-- the place of a kind
abbrev pub kind_place : Rules → Kind → ℕ
kind_place rules kind.Agent = object_count rules
kind_place rules kind.Region = object_count rules + 1
kind_place rules kind.Signal = object_count rules + 2
kind_place rules kind.Kernel = object_count rules + 3

-- the place of the kind of the object in a place
abbrev pub kind_place_at : Rules → ℕ → ℕ
kind_place_at rules place =
    if nat_lt place rules.agents then object_count rules
    else if nat_lt place (rules.agents + rules.regions) then object_count rules + 1
    else if nat_lt place (rules.agents + rules.regions + rules.signals) then object_count rules + 2
    else object_count rules + 3

-- the place of what a row is on, if it is declared
abbrev pub target_place : Rules → Target → Option ℕ
target_place rules (target.Any kind) = Some (kind_place rules kind)
target_place rules (target.One object) = if knows_object rules object then Some (object_place rules object) else None

-- the place is this one
abbrev pub is_place : ℕ → Option ℕ → Bool
is_place place (Some other) = other == place
is_place place None = false

-- the row covers the client and the right in a place
abbrev pub covers_place : Rules → ClientId → Right → ℕ → RightsRow → Bool
covers_place rules client right place row = (is_for row.subject client && is_place place (target_place rules row.target)) && has row.rights right

-- some of the rows does
abbrev pub covered_at : Rules → ClientId → List RightsRow → Right → ℕ → Bool
covered_at rules client rows right place = list_any (covers_place rules client right place) rows

-- a line has what the rows cover for the client
abbrev pub IsLine : Rules → ClientId → List RightsRow → List Rights → Type 0
IsLine rules client rows line = (place : ℕ) (right : Right) → place < object_count rules + 4
    → has_at right (slice_get line place) ≡ covered_at rules client rows right place

-- what the rows allow the client on the object in a place: some allow row covers it there or by its kind, and no deny row does
abbrev pub allowed_at : Rules → PolicyRows → ClientId → Right → ℕ → Bool
allowed_at rules rows client right place =
    (covered_at rules client rows.allows right place || covered_at rules client rows.allows right (kind_place_at rules place))
    && not (covered_at rules client rows.denies right place || covered_at rules client rows.denies right (kind_place_at rules place))

-- the places of the table up to a number have what the rows allow there
abbrev pub IsFilled : Rules → PolicyRows → ℕ → List Rights → Type 0
IsFilled rules rows last allowed = (before place : ℕ) (right : Right) → place < object_count rules → before * object_count rules + place < last
    → has_at right (slice_get allowed (before * object_count rules + place)) ≡ allowed_at rules rows (record { 0 = before + 1 }) right place

-- ---- whether rows allow what is in force

-- what two lines tell of a place: granted there or by its kind, and denied neither there nor by its kind
abbrev pub settled_at : Rules → List Rights → List Rights → Right → ℕ → Bool
settled_at rules granted denied right place =
    (has_at right (slice_get granted place) || has_at right (slice_get granted (kind_place_at rules place)))
    && not (has_at right (slice_get denied place) || has_at right (slice_get denied (kind_place_at rules place)))

-- a cell has no other right
abbrev pub IsWithin : Rules → List Rights → List Rights → ℕ → Option Cell → Type 0
IsWithin rules granted denied place cell = (right : Right) → has_right right cell ≡ true → settled_at rules granted denied right place ≡ true

-- nor has any cell of a client, up to a place
abbrev pub AreWithin : Rules → List Rights → List Rights → ℕ → ℕ → List Cell → Type 0
AreWithin rules granted denied before last cells = (place : ℕ) → place < last
    → IsWithin rules granted denied place (slice_get cells (before * object_count rules + place))

-- the rows allow all rights of the cells of the clients up to a number
abbrev pub AllowsUpTo : Rules → PolicyRows → ℕ → List Cell → Type 0
AllowsUpTo rules rows last cells = (before place : ℕ) (right : Right) → before < last → place < object_count rules
    → has_right right (slice_get cells (before * object_count rules + place)) ≡ true → allowed_at rules rows (record { 0 = before + 1 }) right place ≡ true
