use Rattle.std.proofs.Common.{map, sym, arith}
use Rattle.access_core.specs.Opening.{program_of}
use Rattle.replay.proofs.Finding.{judged_more, judged_stop}
use Rattle.replay.proofs.Replaying.{replayed-none}
use Rattle.replay.proofs.verdict.judge.Goals as goal

pub entries-init : goal.entries-init
entries-init c = replayed-none c.args.policy (map program_of c.args.kernels.items) c.args.further c.in-Ok.replay c.in-Ok.ensures.1 c.in-Ok.ensures.2

pub returns-in-Err-take : goal.returns-in-Err-take
returns-in-Err-take c =
    judged_stop c.args.policy (map program_of c.args.kernels.items) c.args.further c.args.entries.now c.entries.place c.index-entries-place.result c.in-Err-take.why c.entries.replay c.take.new.self
    c.entries-test.true (sym c.index-entries-place.is) c.entries.invariant c.in-Err-take.ensures

pub entries-preserved : goal.entries-preserved
entries-preserved c =
    judged_more c.args.policy (map program_of c.args.kernels.items) c.args.further c.args.entries.now c.entries.place c.index-entries-place.result c.entries.replay c.take.new.self
    c.entries-test.true (sym c.index-entries-place.is) c.entries.invariant c.in_default.ensures
