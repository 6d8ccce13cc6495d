-- The registers of a work-item: what operations read and set in them (PRM, Registers; Operands).
use Rattle.std.specs.Prelude.{ℕ, ◌%◌, ◌^◌, ◌==◌, Bool, false, if◌then◌else◌, get_or, slice_index, slice_set, replicate}
use Rattle.executor.specs.declared.registers.Registers.{Registers}
use Rattle.kernel_check.specs.declared.step.AnyRegister.{AnyRegister}
use Rattle.kernel_check.specs.declared.step.AnyRegister.TheVariants as register
use Rattle.kernel_check.specs.declared.step.AnySource.{AnySource}
use Rattle.kernel_check.specs.declared.step.AnySource.TheVariants as any
use Rattle.kernel_check.specs.declared.step.Source.{Source}
use Rattle.kernel_check.specs.declared.step.Source.TheVariants as source

-- registers as a work-item begins (own)
abbrev pub cleared : Registers
cleared = record { control = replicate 64 false; single = replicate 64 0; double = replicate 64 0 }

-- ---- what is read

abbrev pub read1 : Registers → Source Bool → Bool
read1 r (source.Register s) = get_or r.control s false
read1 r (source.Constant bit) = bit

abbrev pub read32 : Registers → Source ℕ → ℕ
read32 r (source.Register s) = slice_index r.single s
read32 r (source.Constant bits) = bits

abbrev pub read64 : Registers → Source ℕ → ℕ
read64 r (source.Register s) = slice_index r.double s
read64 r (source.Constant bits) = bits

abbrev pub read_any : Registers → AnySource → ℕ
read_any r (any.Control s) = if read1 r s then 1 else 0
read_any r (any.Single s) = read32 r s
read_any r (any.Double s) = read64 r s

-- ---- what is set

abbrev pub with1 : Registers → ℕ → Bool → Registers
with1 r s bit = record r { control = slice_set r.control s bit }

abbrev pub with32 : Registers → ℕ → ℕ → Registers
with32 r s bits = record r { single = slice_set r.single s bits }

abbrev pub with64 : Registers → ℕ → ℕ → Registers
with64 r s bits = record r { double = slice_set r.double s bits }

-- a register gets the low bits of a number, as many as it has
abbrev pub with_any : Registers → AnyRegister → ℕ → Registers
with_any r (register.Control s) bits = with1 r s (bits % 2 == 1)
with_any r (register.Single s) bits = with32 r s (bits % 2 ^ 32)
with_any r (register.Double s) bits = with64 r s bits
