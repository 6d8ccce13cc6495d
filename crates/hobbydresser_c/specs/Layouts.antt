-- How a kernel's layout is told (own).
use Rattle.core_model.specs.declared.kernel.KernelSegments.{KernelSegments}
use Rattle.hobbydresser_c.specs.declared.layouts.LayoutRecord.{LayoutRecord}

-- how large its segments are
abbrev pub layout_told : KernelSegments → LayoutRecord
layout_told segments = record { kernarg = segments.kernarg; group = segments.group }
