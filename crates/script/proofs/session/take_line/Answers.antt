use Rattle.std.proofs.Common.{◌≡◌, ◌++◌, length, subst, arith}
use Rattle.std.proofs.lemmas.Bool.Decides.{nat_tests}
use Rattle.std.proofs.lemmas.Result.{MatchResult-weaker, err_from_is_err_and}
use Rattle.script.specs.Runs.{law}
use Rattle.script.specs.Sessions.{AnsweredLine, FailedLine, begun}
use Rattle.script.proofs.Running.{ended_part, failed_ended, failed_front, failed_line, failed_part, none_begun}
use Rattle.script.proofs.session.take_line.Goals as goal

pub returns-then-is_empty : goal.returns-then-is_empty
returns-then-is_empty g c =
    let l = law g.L.Style.answering g.V.Watch.watching c.args.later.now in
    let old = c.args.world.now in
    let new = c.serve_line.new.world in
    let before = c.args.session.now in
    let after = c.serve_line.new.session in
    let none : length (begun before) ≡ 0 = grind (arith, nat_tests, c.is_empty.ensures, c.if-is_empty.true) in
    let whole = none_begun before c.args.part.now none in
    MatchResult-weaker c.serve_line.result c.serve_line.ensures
    (λ said. λ ended. subst (λ line. AnsweredLine l old new line before after said) whole ended)
    (λ fault. λ failed. failed_line l old new before after c.args.part.now fault c.requires.part (subst (λ line. FailedLine l old new line before after fault) whole failed))

pub returns-in_err-take_part : goal.returns-in_err-take_part
returns-in_err-take_part g c =
    let p = err_from_is_err_and c.from_residual.result c.from_residual.ensures.1 in
    let l = law g.L.Style.answering g.V.Watch.watching c.args.later.now in
    rw (p.1, p.2)
    (failed_front l _ _ _ _ _ _ _ (failed_part _ l c.args.world.now _ _ c.args.part.now _ c.requires.part c.in_err-take_part.ensures))

pub returns : goal.returns
returns g c =
    let l = law g.L.Style.answering g.V.Watch.watching c.args.later.now in
    let old = c.args.world.now in
    let new = c.end_line.new.world in
    let before = c.args.session.now in
    let between = c.take_part.new.session in
    let after = c.end_line.new.session in
    MatchResult-weaker c.end_line.result c.end_line.ensures
    (λ said. λ ended. ended_part l old new before between after c.args.part.now said c.in_ok-take_part.ensures ended)
    (λ fault. λ failed. failed_line l old new before after c.args.part.now fault c.requires.part (failed_ended l old new before between after c.args.part.now fault c.in_ok-take_part.ensures failed))
