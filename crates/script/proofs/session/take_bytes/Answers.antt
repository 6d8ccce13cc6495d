use Rattle.std.proofs.Common.{◌++◌, arith, refl, subst}
use Rattle.std.proofs.lemmas.Result.{MatchResult-weaker, err_from_is_err_and}
use Rattle.script.specs.Runs.{law}
use Rattle.script.specs.Sessions.{AnsweredLine, begun}
use Rattle.script.proofs.Running.{front_none, front_line, front_failed, front_end, front_paused, front_stop, some_paused}
use Rattle.script.proofs.session.take_bytes.Goals as goal

pub returns-in_err-said : goal.returns-in_err-said
returns-in_err-said g c =
    let p = err_from_is_err_and c.from_residual.result c.from_residual.ensures.1 in
    rw (p.1, p.2) (front_failed (law g.L.Style.answering g.V.Watch.watching c.args.later.now)
    _ _ _ _ _ _ _ _ _ _ _ c.loop-line.invariant c.in-Some.ensures c.in_err-said.ensures)

pub returns-then-has_turn : goal.returns-then-has_turn
returns-then-has_turn g c =
    let l = law g.L.Style.answering g.V.Watch.watching c.args.later.now in
    some_paused l _ _ _ _ _ _ c.in_ok-said.said (c.has_turn.ensures.some c.if-has_turn.true)
    (front_paused l _ _ _ _ _ _ _ _ _ _ c.in_ok-said.said c.loop-line.invariant c.in-Some.ensures c.in_ok-said.ensures)

pub loop-line-preserved : goal.loop-line-preserved
loop-line-preserved g c =
    let l = law g.L.Style.answering g.V.Watch.watching c.args.later.now in
    front_line l _ _ _ _ _ _ _ _ _ _ c.loop-line.invariant c.in-Some.ensures
    (subst (λ said. AnsweredLine l c.loop-line.world c.take_line.new.world (begun c.loop-line.session ++ c.in-Some.line.now) c.loop-line.session c.take_line.new.session said) (c.has_turn.ensures.none c.if-has_turn.false) c.in_ok-said.ensures)

pub returns-in_err-take_part : goal.returns-in_err-take_part
returns-in_err-take_part g c =
    let p = err_from_is_err_and c.from_residual-in_err-take_part.result c.from_residual-in_err-take_part.ensures.1 in
    rw (p.1, p.2) (front_stop _ (law g.L.Style.answering g.V.Watch.watching c.args.later.now)
    _ _ _ _ _ _ _ _ c.loop-line.invariant c.in_default.ensures c.in_err-take_part.ensures)

pub returns : goal.returns
returns g c = (
  refl,
  front_end (law g.L.Style.answering g.V.Watch.watching c.args.later.now)
      _ _ _ _ _ _ _ c.loop-line.invariant c.in_default.ensures c.in_ok-take_part.ensures,
)
