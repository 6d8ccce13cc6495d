-- What is held of the copy is counted as it is of what was copied.
use Rattle.std.proofs.Common.{◌≡◌, ◌∙◌, sym, subst}
use Rattle.grants.proofs.Terms.{IsCounted, Table}
use Rattle.grants.proofs.grants.Grants.copy.Goals as goal

pub invariant_of-result : goal.invariant_of-result
invariant_of-result c =
    let table : c.in_ok-copy.field-0 ≡ c.self.inside.table = c.in_ok-copy.ensures in
    let items : c.in_ok-from_slice.field-0.items ≡ c.self.inside.holds.items = c.in_ok-from_slice.ensures.items ∙ c.as_slice.ensures.value in
    subst (λ (t : Table). IsCounted t c.in_ok-from_slice.field-0.items) (sym table) (subst (λ holds. IsCounted c.self.inside.table holds) (sym items) c.self.invariant)
