-- What there is asks nothing, and is told.
use Rattle.std.proofs.Common.{refl}
use Rattle.std.specs.Prelude.{⊤}
use Rattle.script.specs.declared.fault.RunFault.TheVariants.{Script}
use Rattle.script.specs.declared.fault.ScriptFault.TheVariants.{OutOfMemory}
use Rattle.script.specs.declared.watch.Flow.TheVariants.{GoOn}
use Rattle.readable.proofs.Asking.{stated_line, unsaid_line}
use Rattle.readable.proofs.lines.Readable.do_state.Goals as goal

pub returns-in-Ok : goal.returns-in-Ok
returns-in-Ok g c =
    stated_line g.S.Voice.tells g.S.DrainVoice.drains g.S.DrainVoice.states c.args.later.now g.V.Watch.watching c.args.world.now c.args.line.now _ _ GoOn c.in-Ok.ensures.told

pub returns-in-Err : goal.returns-in-Err
returns-in-Err g c =
    unsaid_line g.S.Voice.tells g.S.DrainVoice.drains g.S.DrainVoice.states c.args.later.now g.V.Watch.watching {F = ⊤} c.args.world.now c.args.line.now _ _
    (Script OutOfMemory) refl c.in-Err.ensures.kept
