use Rattle.std.proofs.Common.{◌+◌, sym, ap, ◌∙◌, arith, drop}
use Rattle.std.proofs.Math.Path.{fun_ext}
use Rattle.std.proofs.lemmas.List.{drop_all}
use Rattle.kernel_check.specs.Names.{find}
use Rattle.kernel_check.specs.inner.Bound.{or_else}
use Rattle.kernel_check.specs.Checks.{labels_from}
use Rattle.kernel_check.proofs.LabelLemmas.{noted, number_behind_le}
use Rattle.kernel_check.proofs.NameLemmas.{or_else-None}
use Rattle.kernel_check.proofs.Walks.{at_index}
use Rattle.kernel_check.proofs.labels.labels.Goals as goal

pub returns : goal.returns
returns c = fun_ext (λ q.
    sym (or_else-None (find c.items.names q))
    ∙ ap (λ rest. or_else (find c.items.names q) (find (labels_from c.items.number rest) q))
    (sym (drop_all c.items.item-index c.args.items.now (omega arith)))
    ∙ c.items.invariant.known q)

pub items-preserved : goal.items-preserved
items-preserved c = record {
  known = λ q.
      noted q c.items.names c.note_item.new.names c.items.number c.in_ok-number.number c.item-item.result
      (drop (c.items.item-index + 1) c.args.items.now) c.in_ok-number.ensures.number (c.in_ok-number.ensures.names q)
      ∙ ap (λ rest. or_else (find c.items.names q) (find (labels_from c.items.number rest) q))
      (sym (at_index c.args.items.now c.items.item-index c.item-item.result (omega arith) c.item-item.is))
      ∙ c.items.invariant.known q;
  count = omega (arith, number_behind_le c.items.number c.item-item.result, c.in_ok-number.ensures.number);
}
