-- A line of a script is a readable one that comes to itself.
use Rattle.std.proofs.lemmas.Result.{MatchResult-weaker}
use Rattle.readable.proofs.Asking.{cut_line, served_line}
use Rattle.readable.proofs.lines.Readable.do_line.Goals as goal

pub returns : goal.returns
returns g c =
    let old = c.args.world.now in
    let new = c.answer.new.world in
    let line = c.args.line.now in
    MatchResult-weaker c.answer.result c.answer.ensures
    (λ said. λ served. served_line g.S.Voice.tells g.S.DrainVoice.drains g.S.DrainVoice.states c.args.later.now g.V.Watch.watching old new line line _ _ said served)
    (λ fault. λ cut. cut_line g.S.Voice.tells g.S.DrainVoice.drains g.S.DrainVoice.states c.args.later.now g.V.Watch.watching old new line line _ _ fault cut)
