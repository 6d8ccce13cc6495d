-- How what the code answers of a turn stands to what the turn is (own).
use Rattle.std.specs.Prelude.{◌≡◌, ℕ, ◌+◌, ◌≤◌, Some}
use Rattle.executor.specs.Items.{Contents}
use Rattle.executor.specs.Meaning.{Act, goes_on, arrives, ends, broke}
use Rattle.executor.specs.declared.act.Outcome.{Outcome}
use Rattle.executor.specs.declared.act.Outcome.TheVariants as outcome
use Rattle.executor.specs.declared.item.Item.{Item}
use Rattle.kernel_check.specs.Steps.{number_bytes}
use Rattle.kernel_check.specs.declared.step.Step.{Step}
use Rattle.kernel_check.specs.declared.step.Step.TheVariants as step

-- the item and the memory are then those of the turn; without memory nothing is said
abbrev pub Acts : Act → Outcome → Item → Contents → Type 0
Acts a outcome.GoesOn item m = a ≡ goes_on item m
Acts a outcome.Arrived item m = a ≡ arrives item m
Acts a outcome.Ended item m = a ≡ ends m
Acts a (outcome.Broke rule address) item m = a ≡ broke rule (Some address)
Acts a outcome.OutOfMemory item m = Unit {0}

-- a step reads no byte behind the argument block
abbrev pub ReadsWithin : ℕ → Step → Type 0
ReadsWithin bytes (step.Argument l) = l.offset + number_bytes l.kind ≤ bytes
ReadsWithin bytes _ = Unit {0}
