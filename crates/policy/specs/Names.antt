-- Names and their numbers.
use Rattle.std.specs.Prelude.{◌≡◌, ℕ, ◌+◌, List, map, position, Some}
use Rattle.std.specs.Option.{option_map_or}
use Rattle.std.specs.Str.{bytes_eq}
pub use Rattle.aql_packet.specs.Ids.{numbered}

-- a name, as its bytes
abbrev pub Name : Type 0
Name = List ℕ

-- the names of named rows
abbrev pub names : {X : Type 0} → List (Name × X) → List Name
names rows = map (λ row. row.0) rows

-- the number of a name, from 1, and 0 for a name that isn't there
abbrev pub number_in : List Name → Name → ℕ
number_in all name = option_map_or (λ index. index + 1) (position (bytes_eq name) all) 0

-- no two numbers have the same name
abbrev pub AreDistinct : List Name → Type 0
AreDistinct all = (n m : ℕ) (name : Name) → numbered all n ≡ Some name → numbered all m ≡ Some name → n ≡ m
