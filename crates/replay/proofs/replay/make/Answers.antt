use Rattle.replay.proofs.Going.{call-replied}
use Rattle.replay.proofs.replay.make.Goals as goal

pub judged-requires : goal.judged-requires
judged-requires c = call-replied c.args.core.now.history c.args.request c.serve-reply.result c.serve-reply.new.self.history c.requires c.serve-reply.ensures.served
