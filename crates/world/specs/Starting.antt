-- When a world is opened.
use Rattle.std.specs.Prelude.{◌≡◌, ℕ, List, map, None, Result, Ok, Err}
use Rattle.policy.specs.Policy.{Declared}
use Rattle.access_core.specs.declared.access.OpenFault.{OpenFault}
use Rattle.access_core.specs.declared.kernel.Kernel.{Kernel}
use Rattle.access_core.specs.Opening as cores
use Rattle.world.specs.States.{Joined}
use Rattle.world.specs.Headline.{IsBegun}

-- a world is opened as its core is, with no ring (own)
abbrev pub Begins : Declared → List Kernel → ℕ → Result Joined OpenFault → Type 0
Begins policy kernels capacity (Ok world) =
    (cores.open_fault policy kernels capacity ≡ None) × IsBegun world policy (map cores.program_of kernels) capacity
Begins policy kernels capacity (Err fault) = cores.Opens policy kernels capacity (Err fault)
