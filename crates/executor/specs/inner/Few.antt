-- Kernels that set few registers, so that an item that begins finds the others as they were (own).
use Rattle.std.specs.Prelude.{◌≡◌, ℕ, nat_lt, Bool, true, false, List, drop, replicate, Option, Some, None}
use Rattle.std.specs.List.{list_all}
use Rattle.executor.specs.declared.registers.Registers.{Registers}
use Rattle.kernel_check.specs.Steps.{sets}
use Rattle.kernel_check.specs.declared.step.Step.{Step}

-- the first eight of a class, or none
abbrev pub is_low : Option ℕ → Bool
is_low None = true
is_low (Some number) = nat_lt number 8

-- that steps set none but the first eight of each class
abbrev pub SetFew : List Step → Type 0
SetFew steps = list_all (λ s. is_low (sets s)) steps ≡ true

-- that all others are zero
abbrev pub RestIsZero : Registers → Type 0
RestIsZero r = (drop 8 r.single ≡ replicate 56 0) × ((drop 8 r.double ≡ replicate 56 0) × (drop 8 r.control ≡ replicate 56 false))

-- an item of a kernel that sets few leaves the others zero where it stops
abbrev pub LeavesRest : List Step → Bool → Registers → Registers → Type 0
LeavesRest steps true before after = SetFew steps → RestIsZero before → RestIsZero after
LeavesRest steps false before after = Unit {0}
