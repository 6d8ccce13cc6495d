-- Comments (own).
use Rattle.std.specs.Prelude.{ℕ, ◌==◌, Bool, false, List, [], ◌∷◌}

-- a line is a comment: its first byte is `#`
abbrev pub is_comment : List ℕ → Bool
is_comment [] = false
is_comment (first ∷ rest) = first == 35
