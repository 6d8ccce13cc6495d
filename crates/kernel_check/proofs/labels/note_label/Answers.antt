use Rattle.std.proofs.Common.{[], ◌∷◌, ◌∙◌, ap, sym}
use Rattle.std.proofs.lemmas.Result.{on_ok_weaker}
use Rattle.kernel_check.specs.Names.{find}
use Rattle.kernel_check.proofs.NameLemmas.{find-append, kept}
use Rattle.kernel_check.proofs.labels.note_label.Goals as goal

pub returns : goal.returns
returns c =
    on_ok_weaker c.add.result
    (λ new q. ap (λ names. find names q) new
    ∙ find-append q c.args.names.now ((c.args.name.now, c.args.number) ∷ [])) c.add.ensures.ok

pub returns-then-is_some : goal.returns-then-is_some
returns-then-is_some c q =
    kept q c.args.name.now c.args.names.now c.args.number c.get.result c.get.ensures (sym c.is_some.ensures ∙ c.if-is_some.true)
