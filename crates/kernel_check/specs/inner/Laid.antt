-- What the code keeps of a layout (own).
use Rattle.std.specs.Prelude.{ℕ, nat_le, if◌then◌else◌, List, Option, Some, None}
use Rattle.kernel_check.specs.Names.{Known}
use Rattle.kernel_check.specs.declared.kernarg.KernargSegment.{KernargSegment}
use Rattle.kernel_check.specs.declared.layout.Placed.{Placed}
use Rattle.hsail_reader.specs.declared.module.Argument.{Argument}
use Rattle.kernel_check.specs.Layout.{placed_from, end_from, wide_from}

-- a number, if it is no greater than a limit
abbrev pub within : ℕ → ℕ → Option ℕ
within limit n = if nat_le n limit then Some n else None

-- the arguments of a kernel at their places
pub record Laid : Type 0 where
  pub names : Known Placed
  pub wide : List ℕ
  pub end : ℕ

abbrev pub laid_out : List Argument → Laid
laid_out arguments = record {
  names = placed_from 0 arguments;
  wide = wide_from 0 arguments;
  end = end_from 0 arguments;
}

-- the code's kernarg segment, as the layout has it
abbrev pub kernarg_laid : KernargSegment → Laid
kernarg_laid kernarg = record { names = kernarg.names; wide = kernarg.wide.items; end = kernarg.end }
