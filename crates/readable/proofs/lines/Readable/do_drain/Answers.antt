-- A drain is requests in turn, and just they are replied to.
use Rattle.std.proofs.Common.{refl}
use Rattle.std.specs.Prelude.{⊤}
use Rattle.script.specs.declared.fault.RunFault.TheVariants.{Script}
use Rattle.script.specs.declared.fault.ScriptFault.TheVariants.{OutOfMemory}
use Rattle.readable.specs.Drains.{queues_of, story_in}
use Rattle.readable.proofs.Asking.{drained_line, drained_unsaid}
use Rattle.readable.proofs.lines.Readable.do_drain.Goals as goal

pub returns-in-Ok-reply_to_drain : goal.returns-in-Ok-reply_to_drain
returns-in-Ok-reply_to_drain g c =
    drained_line g.S.Voice.tells g.S.DrainVoice.drains g.S.DrainVoice.states c.args.later.now g.V.Watch.watching (queues_of c.args.queue) c.args.world.now c.drain.new.world c.args.line.now _ _
    (story_in c.in-Ok.drained) c.in-Ok-reply_to_drain.flow c.in-Ok.ensures.over c.in-Ok-reply_to_drain.ensures.told

pub returns-in-Ok : goal.returns-in-Ok
returns-in-Ok g c =
    drained_unsaid g.S.Voice.tells g.S.DrainVoice.drains g.S.DrainVoice.states c.args.later.now g.V.Watch.watching c.args.world.now c.drain.new.world c.args.line.now _ _
    c.in-Err-reply_to_drain.fault c.in-Ok.ensures.made c.in-Err-reply_to_drain.ensures.kept c.in-Err-reply_to_drain.ensures.cut

pub returns : goal.returns
returns g c =
    drained_unsaid g.S.Voice.tells g.S.DrainVoice.drains g.S.DrainVoice.states c.args.later.now g.V.Watch.watching {F = ⊤} c.args.world.now c.drain.new.world c.args.line.now _ _
    (Script OutOfMemory) c.in-Err.ensures.made refl tt
