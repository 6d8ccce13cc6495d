-- The table: a cell for each client and object, with the rights in force and, for each right, how many holds there are of it (`inner/Counts.antt`).
use Rattle.std.specs.Prelude.{ℕ, ◌+◌, ◌-◌, ◌*◌, Bool, false, ◌&&◌, List, Option, Some, None, if◌then◌else◌}
use Rattle.std.specs.List.{slice_get}
use Rattle.aql_packet.specs.declared.ids.ClientId.{ClientId}
use Rattle.policy.specs.declared.object.Kind.{Kind}
use Rattle.policy.specs.declared.object.Kind.TheVariants as kind
use Rattle.policy.specs.declared.object.Object.{Object}
use Rattle.policy.specs.declared.rights.Right.{Right}
use Rattle.policy.specs.Object.{kind_of, number_of}
use Rattle.policy.specs.Rights.{has}
use Rattle.grants.specs.declared.cell.Cell.{Cell}
use Rattle.policy.specs.Rules.{Rules, knows_client, knows_object}

-- ---- places

-- how many objects there are
abbrev pub object_count : Rules → ℕ
object_count rules = rules.agents + rules.regions + rules.signals + rules.kernels

-- how many objects come before those of a kind
abbrev pub objects_before : Rules → Kind → ℕ
objects_before rules kind.Agent = 0
objects_before rules kind.Region = rules.agents
objects_before rules kind.Signal = rules.agents + rules.regions
objects_before rules kind.Kernel = rules.agents + rules.regions + rules.signals

-- an object's place among all
abbrev pub object_place : Rules → Object → ℕ
object_place rules object = objects_before rules (kind_of object) + (number_of object - 1)

-- the place of a declared client's cell on a declared object: a row for each client
abbrev pub place_of : Rules → ClientId → Object → Option ℕ
place_of rules client object =
    if knows_client rules client && knows_object rules object then Some ((client.0 - 1) * object_count rules + object_place rules object) else None

-- what lies at a place
abbrev pub item_at : List Cell → Option ℕ → Option Cell
item_at cells (Some place) = slice_get cells place
item_at cells None = None

-- ---- the table as the rest of the crate sees it

-- The rules, and the cells of the declared clients and objects, by place.
pub record Table : Type 0 where
  pub rules : Rules
  pub cells : List Cell

-- the cell of a client and an object, if both are declared
abbrev pub cell_of : Table → ClientId → Object → Option Cell
cell_of table client object = item_at table.cells (place_of table.rules client object)

-- a cell's right is in force
abbrev pub has_right : Right → Option Cell → Bool
has_right right (Some cell) = has cell.rights right
has_right right None = false

-- whether the client's right on the object is in force
abbrev pub in_table : Table → ClientId → Object → Right → Bool
in_table table client object right = has_right right (cell_of table client object)
