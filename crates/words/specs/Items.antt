-- The items of a word, which commas part (own).
use Rattle.std.specs.Prelude.{ℕ, ◌==◌, List, [], ◌∷◌, ◌++◌, Option, Some, None, if◌then◌else◌}
use denote.Ref.{Bor}
use Rattle.words.specs.Lines.{Word}

-- what stands between commas, of bytes that come behind the begin of an item
unfoldable pub items_from : Word → List ℕ → List Word
items_from item [] = item ∷ []
items_from item (byte ∷ bytes) = if byte == 44 then item ∷ items_from [] bytes else items_from (item ++ byte ∷ []) bytes

-- the items of a word, which commas part
abbrev pub items : Word → List Word
items word = items_from [] word

-- the items behind a comma, where there is one
abbrev pub items_behind : Option (Bor (List ℕ)) → List Word
items_behind None = []
items_behind (Some word) = items word.now
