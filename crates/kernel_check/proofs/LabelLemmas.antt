-- A walk over the labels of a kernel finds what the list of them finds.
use Rattle.std.proofs.Common.{◌≡◌, ℕ, ◌+◌, ◌≤◌, List, ◌∷◌, sym, ap, ◌∙◌, arith}
use Rattle.hsail_reader.specs.declared.module.Item.{Item}
use Rattle.hsail_reader.specs.declared.module.Item.TheVariants as item
use Rattle.kernel_check.specs.Checks.{label_at, number_behind, labels_from}
use Rattle.kernel_check.specs.Names.{Known, find}
use Rattle.kernel_check.specs.inner.Bound.{or_else}
use Rattle.kernel_check.proofs.NameLemmas.{find-append, or_else-assoc}

pub noted : (q : List ℕ) (names new : Known ℕ) (n m : ℕ) (x : Item) (rest : List Item)
    → m ≡ number_behind n x → find new q ≡ or_else (find names q) (find (label_at n x) q)
    → or_else (find new q) (find (labels_from m rest) q) ≡ or_else (find names q) (find (labels_from n (x ∷ rest)) q)
noted q names new n m x rest behind is =
    ap (λ found. or_else found (find (labels_from m rest) q)) is
    ∙ or_else-assoc (find names q) (find (label_at n x) q) (find (labels_from m rest) q)
    ∙ ap (or_else (find names q))
    (ap (λ k. or_else (find (label_at n x) q) (find (labels_from k rest) q)) behind
    ∙ sym (find-append q (label_at n x) (labels_from (number_behind n x) rest)))

pub number_behind_le : (n : ℕ) (x : Item) → number_behind n x ≤ n + 1
number_behind_le n (item.Label l) = omega arith
number_behind_le n (item.Variable v) = omega arith
number_behind_le n (item.Instruction i) = omega arith
