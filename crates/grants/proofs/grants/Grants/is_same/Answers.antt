-- Both tables include each other, and both lists of holds have each other's.
use Rattle.std.proofs.Common.{◌≡◌, true, subst}
use Rattle.std.specs.Bool.{Decides}
use Rattle.std.specs.Prelude.{vec_len, vec_capacity, ◌-◌}
use Rattle.grants.specs.inner.Comparing.{AreHeldToo}
use Rattle.grants.proofs.CompareLemmas.{same-grants}
use Rattle.grants.proofs.grants.Grants.is_same.Goals as goal

pub returns : goal.returns
returns c =
    let one = c.self.inside in
    let other = c.other.inside in
    same-grants one.table other.table one.holds.items other.holds.items (vec_capacity one.holds - vec_len one.holds) (vec_capacity other.holds - vec_len other.holds) c.args.self.now c.args.other.now c.self.view_is c.other.view_is
    c.includes_all.result c.includes_all-2.result c.are_held_too.result c.are_held_too-2.result c.includes_all.ensures c.includes_all-2.ensures
    (subst (λ hs. Decides c.are_held_too.result (AreHeldToo hs other.holds.items)) c.as_slice.ensures.value (subst (λ hs. Decides c.are_held_too.result (AreHeldToo c.as_slice.result.now hs)) c.as_slice-2.ensures.value c.are_held_too.ensures))
    (subst (λ hs. Decides c.are_held_too-2.result (AreHeldToo hs one.holds.items)) c.as_slice-3.ensures.value (subst (λ hs. Decides c.are_held_too-2.result (AreHeldToo c.as_slice-3.result.now hs)) c.as_slice-4.ensures.value c.are_held_too-2.ensures))
