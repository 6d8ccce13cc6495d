-- The limits of what is run.
use Rattle.std.specs.Prelude.{ℕ}

-- how many work-items a work-group has at the most (own)
abbrev pub most_group_items : ℕ
most_group_items = 1024

-- how many bytes a group segment, and a private segment, has at the most (own)
abbrev pub most_segment_bytes : ℕ
most_segment_bytes = 65536

-- how many instructions a work-item executes at the most (own)
abbrev pub budget : ℕ
budget = 65536
