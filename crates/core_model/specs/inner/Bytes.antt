-- Where bytes are kept.
use Rattle.std.specs.Prelude.{ℕ, List, ◌≤◌, take, ⊤}
use Rattle.core_model.specs.declared.bytes.Bytes.TheInside.{Inside}
use Rattle.core_model.specs.declared.bytes.KeptBytes.{KeptBytes}
use Rattle.core_model.specs.declared.bytes.KeptBytes.TheVariants.{Few, Many}

-- the bytes of either form (own)
abbrev pub kept_in_order : KeptBytes → List ℕ
kept_in_order (Few count few) = take count few
kept_in_order (Many many) = many

-- the bytes, in order (own)
abbrev pub bytes_in_order : Inside → List ℕ
bytes_in_order b = kept_in_order b.kept

-- no more are told than are kept in place (own)
abbrev pub AreKept : KeptBytes → Type 0
AreKept (Few count few) = count ≤ 16
AreKept (Many many) = ⊤

-- what a value of the type keeps (own)
abbrev pub IsBytes : Inside → Type 0
IsBytes b = AreKept b.kept
