-- Rights are looked for in each item of the list, and not each right in the list.
use Rattle.std.proofs.Common.{◌∙◌, ap, sym, Some}
use Rattle.access_core.proofs.HeldRights.{lists-named}
use Rattle.access_core.proofs.Terms.{rights_for}
use Rattle.access_core.specs.inner.ArgumentBlocks.{names_one}
use Rattle.access_core.proofs.holders.lists_one.Goals as goal

pub returns : goal.returns
returns c = c.names_one.ensures ∙ ap (names_one c.args.object c.args.rights) c.rights_for.ensures
    ∙ sym (lists-named c.args.object c.args.rights (rights_for c.args.client (Some c.args.block.now)))
