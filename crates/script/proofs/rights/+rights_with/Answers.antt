use Rattle.std.proofs.Common.{[], ◌∷◌, ap, sym, ◌∙◌}
use Rattle.words.specs.Items.{items_from, items_behind}
use Rattle.script.proofs.Reading.{rights_end, rights_none, rights_some}
use Rattle.script.proofs.rights.+rights_with.Goals as goal

pub returns-in_err-right_named : goal.returns-in_err-right_named
returns-in_err-right_named t c =
    c.from_residual.ensures ∙ sym (rights_none c.args.rights (items_from [] c.args.word.now) _ _ c.split_item.ensures.items (sym c.right_named.ensures ∙ c.in_err-right_named.was))

pub returns-in-Some : goal.returns-in-Some
returns-in-Some t c =
    c.rights_with.ensures ∙ sym (rights_some c.args.rights c.with_right-rights.result (items_from [] c.args.word.now) _ (items_from [] c.in-Some.names.now) c.in_ok-right_named.field-0
    (c.split_item.ensures.items ∙ ap (λ further. c.split_item.result.0.now ∷ items_behind further) c.in-Some.is)
    (sym c.right_named.ensures ∙ c.in_ok-right_named.was) c.with_right-rights.ensures)

pub returns-in-None : goal.returns-in-None
returns-in-None t c =
    sym (rights_some c.args.rights c.with_right-rights.result (items_from [] c.args.word.now) _ [] c.in_ok-right_named.field-0
    (c.split_item.ensures.items ∙ ap (λ further. c.split_item.result.0.now ∷ items_behind further) c.in-None.is)
    (sym c.right_named.ensures ∙ c.in_ok-right_named.was) c.with_right-rights.ensures ∙ rights_end c.with_right-rights.result)
