-- The limit of a module's text.
use Rattle.std.specs.Prelude.{ℕ}

-- how many bytes a module's text has at the most (own)
abbrev pub most_text_bytes : ℕ
most_text_bytes = 65536
