-- One line is done, and the other behind it.
use Rattle.std.proofs.Common.{Err, None, Ok}
use Rattle.std.specs.Prelude.{⊤}
use Rattle.readable.proofs.Asking.{any_line, cut_next, served_next}
use Rattle.readable.proofs.lines.Readable.do_lines.Goals as goal

pub returns-in-Ok : goal.returns-in-Ok
returns-in-Ok g c =
    served_next g.S.Voice.tells g.S.DrainVoice.drains g.S.DrainVoice.states c.args.later.now g.V.Watch.watching c.args.world.now c.do_line.new.world c.do_next.new.world
    _ _ c.args.lines.now _ _ _ c.in-Ok-Some.first c.in-Ok.said (rw c.in-Ok-Some.field-0-is at c.in-Ok-Some.ensures) c.in-Ok.ensures

pub returns-in-Err-do_next : goal.returns-in-Err-do_next
returns-in-Err-do_next g c =
    cut_next g.S.Voice.tells g.S.DrainVoice.drains g.S.DrainVoice.states c.args.later.now g.V.Watch.watching c.args.world.now c.do_line.new.world c.do_next.new.world
    _ _ c.args.lines.now _ _ _ c.in-Ok-Some.first c.in-Err-do_next.fault (rw c.in-Ok-Some.field-0-is at c.in-Ok-Some.ensures) c.in-Err-do_next.ensures

pub returns-in-Ok-None : goal.returns-in-Ok-None
returns-in-Ok-None g c =
    any_line g.S.Voice.tells g.S.DrainVoice.drains g.S.DrainVoice.states c.args.later.now g.V.Watch.watching {F = ⊤} c.args.world.now c.do_line.new.world _ c.args.lines.now _ _ (Ok None) (rw c.in-Ok-None.field-0-is at c.in-Ok-None.ensures)

pub returns-in-Err : goal.returns-in-Err
returns-in-Err g c =
    any_line g.S.Voice.tells g.S.DrainVoice.drains g.S.DrainVoice.states c.args.later.now g.V.Watch.watching c.args.world.now c.do_line.new.world _ c.args.lines.now _ _ (Err c.in-Err.fault) c.in-Err.ensures
