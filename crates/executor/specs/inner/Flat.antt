-- How what the code answers of a flat step stands to what its step does (own).
use Rattle.std.specs.Prelude.{◌≡◌, ℕ, ◌+◌, Option, Some, None}
use Rattle.executor.specs.Items.{Contents, Surroundings}
use Rattle.executor.specs.Meaning.{Act, act, goes_on, arrives, ends, broke}
use Rattle.executor.specs.declared.flat.Gone.{Gone}
use Rattle.executor.specs.declared.flat.Gone.TheVariants as gone
use Rattle.executor.specs.declared.registers.Registers.{Registers}
use Rattle.kernel_check.specs.declared.step.Step.{Step}
use Rattle.queue_error.specs.declared.error.SegmentAddress.TheVariants as segment

-- what a step does of which a flat one is told; without a step nothing is told
abbrev pub Makes : Option Step → Surroundings → Registers → ℕ → Contents → Act → Type 0
Makes None a before next m x = ⊥
Makes (Some s) a before next m x = act a (record { registers = before; next = next }) m s ≡ x

-- an item at a step goes on with other registers, at the next step or at the one that is told, arrives at a barrier with its next step
-- behind it, ends with the registers that it had, or breaks a rule by an access to an address; without memory nothing is said, and where nothing is
-- told all stays
abbrev pub Goes : Option Step → Surroundings → Registers → ℕ → Contents → Gone → Registers → Contents → Type 0
Goes s a before next m gone.Onward after now = Makes s a before next m (goes_on (record { registers = after; next = next + 1 }) now)
Goes s a before next m (gone.Next then) after now = Makes s a before next m (goes_on (record { registers = after; next = then }) now)
Goes s a before next m gone.Arrived after now = Makes s a before next m (arrives (record { registers = after; next = next + 1 }) now)
Goes s a before next m gone.Ended after now = (after ≡ before) × Makes s a before next m (ends now)
Goes s a before next m (gone.BrokeGlobal rule x) after now = Makes s a before next m (broke rule (Some (segment.Global x)))
Goes s a before next m (gone.BrokeGroup rule x) after now = Makes s a before next m (broke rule (Some (segment.Group x)))
Goes s a before next m gone.OutOfMemory after now = Unit {0}
Goes s a before next m gone.Other after now = (after ≡ before) × (now ≡ m)
