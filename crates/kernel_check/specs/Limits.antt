-- The limits of the kernels that are taken.
use Rattle.std.specs.Prelude.{ℕ}

-- how many instructions a kernel has at the most (own)
abbrev pub most_instructions : ℕ
most_instructions = 4096

-- how many bytes a kernel's argument block has at the most (own)
abbrev pub most_argument_bytes : ℕ
most_argument_bytes = 4096

-- how many bytes a kernel's group variables have at the most (own)
abbrev pub most_group_bytes : ℕ
most_group_bytes = 65536

-- how many kernels a module has at the most (own)
abbrev pub most_kernels : ℕ
most_kernels = 64

-- the greatest number of a register (own)
abbrev pub greatest_register : ℕ
greatest_register = 63

-- the greatest number of a dimension (PRM, Dispatch Packet Instructions: x, y and z)
abbrev pub greatest_dimension : ℕ
greatest_dimension = 2
