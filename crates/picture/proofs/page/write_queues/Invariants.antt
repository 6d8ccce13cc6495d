-- The lanes so far are written.
use Rattle.std.proofs.Common.{◌≡◌, ◌++◌, string_bytes, take, flat_map}
use Rattle.picture.specs.Pages.{text_of_queue}
use Rattle.picture.proofs.page.write_queues.Given as goal

abbrev pub invariant-loop-queue : goal.invariant-loop-queue
invariant-loop-queue l = string_bytes l.out ≡ string_bytes l.fn.out ++ flat_map (text_of_queue l.frame l.policy l.entries) (take l.queue-index l.queues)
