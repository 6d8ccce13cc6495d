use Rattle.std.proofs.Common.{◌≡◌}
use Rattle.ring.specs.Bytes.{words_of}
use Rattle.ring.specs.Publishing.{IsOpen}
use Rattle.client_threads.specs.Running.{IsEndOf}
use Rattle.threads_load.specs.Publications.{PublishesOnly}
use Rattle.threads_load.proofs.producing.publish_under.Given as goal

abbrev pub invariant-loop-again : goal.invariant-loop-again
invariant-loop-again g l = IsEndOf l.broker l.end × IsOpen l.ticket.id.0 l.end.pass × PublishesOnly (words_of l.bytes) 0 l.initial.end.pass l.end.pass × (l.end.queue ≡ l.initial.end.queue)
