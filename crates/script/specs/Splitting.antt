-- What the lines of a script come to, in plain terms (own).
use Rattle.std.specs.Prelude.{ℕ, ◌==◌, Bool, true, not, List, [], ◌∷◌, ◌++◌, flat_map, if◌then◌else◌}
use Rattle.std.specs.List.{list_all}

-- a text ends with a whole line: it is empty, or its last byte is a line feed
abbrev pub ends_line : List ℕ → Bool
ends_line [] = true
ends_line (byte ∷ []) = byte == 10
ends_line (byte ∷ next ∷ bytes) = ends_line (next ∷ bytes)

-- a text, with a line feed behind a last line that has none
abbrev pub ended : List ℕ → List ℕ
ended text = text ++ (if ends_line text then [] else 10 ∷ [])

-- lines one behind the other, each with a line feed
abbrev pub joined : List (List ℕ) → List ℕ
joined lines = flat_map (λ line. line ++ 10 ∷ []) lines

-- no byte of the line is a line feed
abbrev pub is_line : List ℕ → Bool
is_line line = list_all (λ byte. not (byte == 10)) line
