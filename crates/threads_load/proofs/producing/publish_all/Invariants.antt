use Rattle.std.proofs.Common.{◌≡◌}
use Rattle.ring.specs.Bytes.{words_of}
use Rattle.client_threads.specs.Running.{IsEndOf}
use Rattle.threads_load.specs.Publications.{PublishesOnly}
use Rattle.threads_load.proofs.producing.publish_all.Given as goal

abbrev pub invariant-loop-before : goal.invariant-loop-before
invariant-loop-before g l = IsEndOf l.broker l.end × PublishesOnly (words_of l.bytes) l.before l.initial.end.pass l.end.pass × (l.end.queue ≡ l.initial.end.queue)
