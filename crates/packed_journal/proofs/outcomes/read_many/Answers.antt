use Rattle.std.proofs.Common.{◌-◌, ◌+◌, ap, sym, ◌∙◌, arith}
use Rattle.std.specs.Prelude.{Ok}
use Rattle.packed_journal.specs.Readings.{reads, times}
use Rattle.packed_journal.specs.Entries.{read_effect}
use Rattle.packed_journal.proofs.Times.{times_stop, times_more, times_end}
use Rattle.packed_journal.proofs.outcomes.read_many.Goals as goal

pub returns-in-Err : goal.returns-in-Err
returns-in-Err c =
    times_stop read_effect (times read_effect c.args.count c.args.bytes.now) c.loop-place.effects.items (c.args.count - c.loop-place._place) c.loop-place.left.now c.in-Err.why
    c.loop-place.invariant (omega arith) (sym c.in_ok-read.ensures ∙ ap reads c.in-Err.is)

pub loop-place-preserved : goal.loop-place-preserved
loop-place-preserved c =
    times_more read_effect (times read_effect c.args.count c.args.bytes.now) c.loop-place.effects.items c.push.new.self.items (c.args.count - c.loop-place._place)
    (c.args.count - (c.loop-place._place + 1)) c.loop-place.left.now c.in-Ok.read.1.now c.in-Ok.read.0
    c.loop-place.invariant (omega arith) (sym c.in_ok-read.ensures ∙ ap reads c.in-Ok.is) c.in_ok-push.ensures.items

pub returns : goal.returns
returns c =
    ap (λ all. Ok (all, c.loop-place.left.now)) c.many.ensures
    ∙ times_end read_effect (times read_effect c.args.count c.args.bytes.now) c.loop-place.effects.items (c.args.count - c.loop-place._place) c.loop-place.left.now
    c.loop-place.invariant (omega arith)
