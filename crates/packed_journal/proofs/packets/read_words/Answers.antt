use Rattle.std.proofs.Common.{◌-◌, sym, ap, ◌∙◌, take, arith}
use Rattle.std.specs.Prelude.{Err}
use Rattle.packed_journal.specs.Readings.{reads, read_words}
use Rattle.packed_journal.proofs.Written.{no_word, one_put, packet_whole, packet_more}
use Rattle.packed_journal.proofs.packets.read_words.Goals as goal

pub returns-in-Err : goal.returns-in-Err
returns-in-Err c =
    no_word (read_words 8 c.args.mask c.args.bytes.now) (take c.loop-place.place c.loop-place.words) (8 - c.loop-place.place) c.loop-place.left c.loop-place.rest.now c.in-Err.why
    c.loop-place.invariant.0 (omega arith) (sym c.read_word.ensures ∙ ap reads c.in-Err.is)

pub loop-place-preserved : goal.loop-place-preserved
loop-place-preserved c =
    one_put (read_words 8 c.args.mask c.args.bytes.now) c.loop-place.words c.loop-place.place c.loop-place.left c.loop-place.rest.now
    c.in-Ok.read.0 c.in-Ok.read.1.now
    c.loop-place.invariant.0 c.loop-place.invariant.1 (omega arith) (sym c.read_word.ensures ∙ ap reads c.in-Ok.is)

pub returns-then-left-eq0 : goal.returns-then-left-eq0
returns-then-left-eq0 c =
    packet_whole (read_words 8 c.args.mask c.args.bytes.now) c.loop-place.words c.loop-place.place c.loop-place.left c.loop-place.rest.now
    c.loop-place.invariant.0 c.loop-place.invariant.1 (omega arith) c.if-left-eq0.true

pub returns-else-left-eq0 : goal.returns-else-left-eq0
returns-else-left-eq0 c =
    ap (λ why. Err why) c.wrong.ensures
    ∙ packet_more (read_words 8 c.args.mask c.args.bytes.now) c.loop-place.words c.loop-place.place c.loop-place.left c.loop-place.rest.now
    c.loop-place.invariant.0 (omega arith) (omega arith)
