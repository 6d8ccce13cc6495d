-- Whatever a readable line comes to, it is done as that.
use Rattle.readable.proofs.Asking.{any_line, refused_line}
use Rattle.readable.proofs.lines.ReadableStyle.answer.Goals as goal

pub returns-in-Ok-Itself : goal.returns-in-Ok-Itself
returns-in-Ok-Itself g c = any_line g.S.Voice.tells g.S.DrainVoice.drains g.S.DrainVoice.states c.args.later.now g.V.Watch.watching c.args.world.now c.do_line.new.world _ c.args.line.now _ _ c.do_line.result c.do_line.ensures

pub returns-in-Ok-Lines : goal.returns-in-Ok-Lines
returns-in-Ok-Lines g c = any_line g.S.Voice.tells g.S.DrainVoice.drains g.S.DrainVoice.states c.args.later.now g.V.Watch.watching c.args.world.now c.do_lines.new.world _ c.args.line.now _ _ c.do_lines.result c.do_lines.ensures

pub returns-in-Ok-Drain : goal.returns-in-Ok-Drain
returns-in-Ok-Drain g c = any_line g.S.Voice.tells g.S.DrainVoice.drains g.S.DrainVoice.states c.args.later.now g.V.Watch.watching c.args.world.now c.do_drain.new.world _ c.args.line.now _ _ c.do_drain.result c.do_drain.ensures

pub returns-in-Ok-State : goal.returns-in-Ok-State
returns-in-Ok-State g c = any_line g.S.Voice.tells g.S.DrainVoice.drains g.S.DrainVoice.states c.args.later.now g.V.Watch.watching c.args.world.now c.args.world.now _ c.args.line.now _ _ c.do_state.result c.do_state.ensures

pub returns : goal.returns
returns g c = refused_line g.S.Voice.tells g.S.DrainVoice.drains g.S.DrainVoice.states c.args.later.now g.V.Watch.watching c.args.world.now c.args.line.now _ c.refuse.result c.refuse.ensures
