-- Named rows: what a contract sees of a table of names.
use Rattle.std.specs.Prelude.{ℕ, List, map, String, string_bytes}
use Rattle.std.specs.Borrow.{Bor}
use Rattle.std.specs.declared.alloc.Global.{Global}

-- the entries of a map from texts, with each text as its bytes
abbrev pub named_rows : {X : Type 0} → List (String Global × X) → List (List ℕ × X)
named_rows entries = map (λ entry. (string_bytes entry.0, entry.1)) entries

-- a row that is lent, with its name as bytes
abbrev pub named_row : {X : Type 0} → Bor (String Global) × Bor X → List ℕ × X
named_row row = (string_bytes row.0.now, row.1.now)

-- a row of one's own, with its name as bytes
abbrev pub named : {X : Type 0} → String Global × X → List ℕ × X
named row = (string_bytes row.0, row.1)
