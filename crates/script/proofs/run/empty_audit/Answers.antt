-- An emptied audit is a rotation with its part dropped; one that is refused leaves the world.
use Rattle.std.proofs.Common.{◌∙◌, sym}
use Rattle.script.proofs.Emptying.{emptied, stays, too_far}
use Rattle.script.proofs.run.empty_audit.Goals as goal

pub returns-clause-emptied : goal.returns-clause-emptied
returns-clause-emptied c = λ done.
    emptied _ _ c.truncate.result c.truncate.ensures.truncated c.truncate.ensures.rings (sym c.is_ok.ensures.value ∙ done)

pub returns-clause-kept : goal.returns-clause-kept
returns-clause-kept c = λ refused.
    stays _ _ c.truncate.result c.truncate.ensures.truncated c.truncate.ensures.rings (sym c.is_ok.ensures.value ∙ refused)

pub returns-clause-far : goal.returns-clause-far
returns-clause-far c = λ refused. too_far _ _ c.truncate.result c.truncate.ensures.truncated (sym c.is_ok.ensures.value ∙ refused)
