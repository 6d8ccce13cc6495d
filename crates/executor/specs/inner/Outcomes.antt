-- How a store or an atomic operation ends: why it didn't take place (own).
use Rattle.std.specs.Prelude.{◌≡◌, Result, Err}
use Rattle.executor.specs.declared.access.StoreError.{StoreError}
use Rattle.executor.specs.declared.access.StoreError.TheVariants as error
use Rattle.queue_error.specs.declared.rule.Rule.{Rule}

-- a store, or an atomic operation, that broke a rule; of one without memory nothing is said
abbrev pub StoreFails : {X : Type 0} → Result X Rule → StoreError → Type 0
StoreFails s error.OutOfMemory = Unit {0}
StoreFails s (error.Broke rule) = s ≡ Err rule
