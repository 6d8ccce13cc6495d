-- A result that is said another way.
use Rattle.std.specs.Prelude.{Result, Ok, Err}

-- the value, changed by a function; an error stays
abbrev pub map_ok : {A B E : Type 0} → (A → B) → Result A E → Result B E
map_ok f (Ok x) = Ok (f x)
map_ok f (Err e) = Err e
