-- The sizes of grids and of work-groups (PSA, Architected Queuing Language).
use Rattle.std.specs.Prelude.{ℕ, ◌≤◌}
use Rattle.assemble.specs.declared.operands.Sizes.{Sizes}

-- one to three sizes, of which none is greater than the most
abbrev pub AreAtMost : ℕ → Sizes → Type 0
AreAtMost most sizes = (sizes.count ≤ 3) × (sizes.x ≤ most) × (sizes.y ≤ most) × (sizes.z ≤ most)

-- those of a grid, of 32 bits
abbrev pub AreGridSizes : Sizes → Type 0
AreGridSizes sizes = AreAtMost 4294967295 sizes

-- those of a work-group, of 16 bits
abbrev pub AreGroupSizes : Sizes → Type 0
AreGroupSizes sizes = AreAtMost 65535 sizes
