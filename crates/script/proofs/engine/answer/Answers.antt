use Rattle.std.proofs.Common.{Some, length, string_bytes, ap, sym, ◌∙◌}
use Rattle.std.proofs.lemmas.Result.{err_from_is_err_and}
use Rattle.script.specs.Lines.{line_of}
use Rattle.script.proofs.Cutting.{cut_asked}
use Rattle.script.proofs.engine.answer.Goals as goal

pub returns-in_err-flow-in-Some-Asks : goal.returns-in_err-flow-in-Some-Asks
returns-in_err-flow-in-Some-Asks g c =
    let p = err_from_is_err_and c.from_residual-in_err-flow-in-Some-Asks.result c.from_residual-in_err-flow-in-Some-Asks.ensures.1 in
    let served = c.in_err-flow-in-Some-Asks.ensures.served in
    rw (p.1, p.2)
    (cut_asked g.S.Voice.tells g.V.Watch.watching c.args.later.now c.args.world.now c.serve.new.world c.args.line.now c.in-Some-Asks.command served.0
    (string_bytes c.args.out.now) (string_bytes c.serve.new.out) _ (ap (λ p. line_of p (length c.args.later.now) c.args.line.now) (sym c.policy.ensures) ∙ sym c.in_ok-read_line.ensures ∙ c.in-Some-Asks.is ∙ ap Some c.in-Some-Asks.field-0-is)
    served.1 c.in_err-flow-in-Some-Asks.ensures.kept c.in_err-flow-in-Some-Asks.ensures.cut)
