-- Cells and their counts: what the table's invariant asks, and how a call changes a cell.
use Rattle.std.specs.Prelude.{◌≡◌, ℕ, Bool, List, Option, Some, None, if◌then◌else◌}
use Rattle.std.specs.List.{count_by}
use Rattle.aql_packet.specs.declared.ids.ClientId.{ClientId}
use Rattle.policy.specs.declared.object.Object.{Object}
use Rattle.policy.specs.declared.rights.Right.{Right}
use Rattle.policy.specs.declared.rights.Right.TheVariants.{Use, Read, Write, Wait, Change, Launch}
use Rattle.policy.specs.declared.rights.Rights.{Rights}
use Rattle.policy.specs.Pairs.{is_one_of}
use Rattle.policy.specs.Rights.{has}
use Rattle.grants.specs.declared.cell.Counts.{Counts}
use Rattle.grants.specs.declared.cell.Cell.{Cell}
use Rattle.grants.specs.declared.hold.Hold.{Hold}
use Rattle.grants.specs.Cells.{Table, cell_of, in_table}

-- the count of a right
abbrev pub count_of : Counts → Right → ℕ
count_of counts Use = counts.use_agent
count_of counts Read = counts.read
count_of counts Write = counts.write
count_of counts Wait = counts.wait
count_of counts Change = counts.change
count_of counts Launch = counts.launch

-- no right, and no hold
abbrev pub empty_cell : Cell
empty_cell = record {
  rights = record { 0 = 0 };
  held = record { use_agent = 0; read = 0; write = 0; wait = 0; change = 0; launch = 0 };
}

-- one, for a right of the set
abbrev pub one_for_right : Rights → Right → ℕ
one_for_right rights right = if has rights right then 1 else 0

-- a cell in the place of another, if there is one
abbrev pub replacement : Cell → Option Cell → Option Cell
replacement new (Some cell) = Some new
replacement new None = None

-- how many holds of a right a cell counts
abbrev pub count_in : Right → Option Cell → ℕ
count_in right (Some cell) = count_of cell.held right
count_in right None = 0

-- how many holds of the client's right on the object are counted
abbrev pub hold_count : Table → ClientId → Object → Right → ℕ
hold_count table client object right = count_in right (cell_of table client object)

-- the hold has the client's right on the object
abbrev pub is_hold_of : ClientId → Object → Right → Hold → Bool
is_hold_of client object right hold = is_one_of client object right hold.client hold.object hold.rights

-- how many holds there are of the client's right on the object
abbrev pub holds_of : List Hold → ClientId → Object → Right → ℕ
holds_of holds client object right = count_by (is_hold_of client object right) holds

-- each count is the number of listed holds of its right
abbrev pub IsCounted : Table → List Hold → Type 0
IsCounted table holds = (client : ClientId) (object : Object) (right : Right) → hold_count table client object right ≡ holds_of holds client object right

-- the rights in force, and the rules, are as before
pub record SameRights (old new : Table) : Type 0 where
  pub same_rules : new.rules ≡ old.rules
  pub same_rights : (client : ClientId) (object : Object) (right : Right) → in_table new client object right ≡ in_table old client object right

-- the counts, and the rules, are as before
pub record SameCounts (old new : Table) : Type 0 where
  pub same_rules : new.rules ≡ old.rules
  pub same_counts : (client : ClientId) (object : Object) (right : Right) → hold_count new client object right ≡ hold_count old client object right
