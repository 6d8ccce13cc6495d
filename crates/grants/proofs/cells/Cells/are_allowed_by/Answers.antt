-- What is in force by client and object is what is in force by place.
use Rattle.std.proofs.Common.{◌≡◌, ◌↔◌, true, subst}
use Rattle.policy.specs.Rules.{rows_allow}
use Rattle.grants.specs.inner.Weighing.{AllowsUpTo}
use Rattle.grants.proofs.Terms.{ClientId, Object, Right, Table, boxed_slice_items, in_table}
use Rattle.grants.proofs.WeighLemmas.{all-allows, allows-all}
use Rattle.grants.proofs.cells.Cells.are_allowed_by.Goals as goal

pub returns-clause-allowed : goal.returns-clause-allowed
returns-clause-allowed c =
    let inside = c.self.inside in
    let cells = boxed_slice_items inside.cells in
    let told : (c.allow.result ≡ true) ↔ AllowsUpTo inside.rules c.args.rows.now inside.rules.clients cells =
    subst (λ cells. (c.allow.result ≡ true) ↔ AllowsUpTo inside.rules c.args.rows.now inside.rules.clients cells) c.as_slice.ensures.value c.allow.ensures.allowed in
    subst (λ (t : Table). (c.allow.result ≡ true) ↔ ((client : ClientId) (on : Object) (right : Right) → in_table t client on right ≡ true → rows_allow c.args.rows.now client on right ≡ true)) c.self.view_is (
      λ is. allows-all inside.rules c.args.rows.now cells (told.0 is),
      λ all. told.1 (all-allows inside.rules c.args.rows.now cells all),
    )
