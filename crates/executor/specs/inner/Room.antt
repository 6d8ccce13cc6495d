-- Where an atomic operation has room (own).
use Rattle.std.specs.Prelude.{ℕ, ◌+◌, ◌^◌, ◌≤◌, length}
use Rattle.executor.specs.Items.{Contents}
use Rattle.queue_error.specs.declared.error.SegmentAddress.{SegmentAddress}
use Rattle.queue_error.specs.declared.error.SegmentAddress.TheVariants as segment

-- that n bytes at a place lie in memory
abbrev pub HasRoom : Contents → SegmentAddress → ℕ → Type 0
HasRoom m (segment.Global x) n = x + n ≤ 2 ^ 64
HasRoom m (segment.Group x) n = x + n ≤ length m.group
