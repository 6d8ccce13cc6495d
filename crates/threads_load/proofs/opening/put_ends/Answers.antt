use Rattle.std.specs.Prelude.{is_ok}
use Rattle.threads_load.proofs.Belonging.{ends_put, more_ends}
use Rattle.threads_load.proofs.opening.put_ends.Goals as goal

pub returns-clause-put : goal.returns-clause-put
returns-clause-put g c = ends_put c.append.result c.args.ends.now.items c.append.new.self.items c.args.more.items c.append.ensures.items

pub returns-clause-ends : goal.returns-clause-ends
returns-clause-ends g c = more_ends c.args.broker.now (is_ok c.append.result) c.args.ends.now.items c.args.more.items c.append.new.self.items c.requires.ends c.requires.more c.append.ensures.items
