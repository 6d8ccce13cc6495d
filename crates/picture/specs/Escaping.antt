-- Text as markup has it (XML 1.0, Character Data and Markup).
use Rattle.std.specs.Prelude.{◌≡◌, ℕ, Bool, ◌==◌, ◌||◌, nat_lt, List, [], ◌∷◌, flat_map, codes, if◌then◌else◌}

-- a byte, or what stands for it: each of the five characters of markup has a name, and a byte beyond ASCII is a question mark (own)
abbrev pub escaped_byte : ℕ → List ℕ
escaped_byte byte =
    if byte == 38 then codes "&amp;"
    else if byte == 60 then codes "&lt;"
    else if byte == 62 then codes "&gt;"
    else if byte == 34 then codes "&quot;"
    else if byte == 39 then codes "&apos;"
    else if nat_lt byte 128 then byte ∷ []
    else codes "?"

-- a text, byte by byte
abbrev pub escaped : List ℕ → List ℕ
escaped text = flat_map escaped_byte text

-- a byte that would begin or end markup: `<`, `>`, a double or a single quote
abbrev pub is_markup : ℕ → Bool
is_markup byte = byte == 60 || byte == 62 || byte == 34 || byte == 39
