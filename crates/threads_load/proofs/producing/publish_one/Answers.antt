use Rattle.std.proofs.Common.{arith}
use Rattle.ring.specs.Bytes.{words_of}
use Rattle.threads_load.proofs.Publishing.{only_both, only_reserved}
use Rattle.threads_load.proofs.producing.publish_one.Goals as goal

pub returns-in-Ok-clause-only : goal.returns-in-Ok-clause-only
returns-in-Ok-clause-only g c =
    only_both (words_of c.args.bytes.now) 1 0 1 c.args.end.now.pass c.reserve.new.self.pass c.publish_under.new.end.pass
    (only_reserved c.args.broker.now c.args.end.now c.reserve.new.self c.in-Ok.ticket.id.0 (words_of c.args.bytes.now) c.requires c.in-Ok.ensures.steps)
    c.publish_under.ensures.only (omega arith)
