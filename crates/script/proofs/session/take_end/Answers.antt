use Rattle.std.proofs.Common.{◌<◌, inr, length, arith}
use Rattle.std.proofs.lemmas.Bool.Decides.{nat_tests}
use Rattle.std.proofs.lemmas.Result.{MatchResult-weaker}
use Rattle.script.specs.Runs.{law}
use Rattle.script.specs.Sessions.{begun}
use Rattle.script.proofs.Running.{failed_last}
use Rattle.script.proofs.session.take_end.Goals as goal

pub returns : goal.returns
returns g c =
    let some : 0 < length (begun c.args.session.now) = grind (arith, nat_tests, c.is_empty.ensures, c.if-is_empty.false) in
    MatchResult-weaker c.end_line.result c.end_line.ensures (λ _. λ ended. inr (some, ended))
    (λ fault. failed_last (law g.L.Style.answering g.V.Watch.watching c.args.later.now) _ _ _ _ fault some)
