-- The limits of a script.
use Rattle.std.specs.Prelude.{ℕ, ◌^◌}

-- how many bytes a line has at the most (own)
abbrev pub longest_line : ℕ
longest_line = 16384

-- how many reads a run makes at the most (own)
abbrev pub most_reads : ℕ
most_reads = 2 ^ 40
