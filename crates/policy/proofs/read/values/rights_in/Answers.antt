use Rattle.std.proofs.Common.{◌∙◌, sym}
use Rattle.policy.proofs.ValueLemmas.{no_rights, rights_seen}
use Rattle.policy.proofs.read.values.rights_in.Goals as goal

pub returns-then-not-all_name_rights : goal.returns-then-not-all_name_rights
returns-then-not-all_name_rights c = no_rights c.args.items.now c.args.on (sym c.all_name_rights.ensures ∙ c.if-not-all_name_rights.true)

pub returns : goal.returns
returns c =
    rights_seen c.args.items.now c.args.on c.from_each.result c.any_is.result c.any_is-2.result c.any_is-3.result c.any_is-4.result c.any_is-5.result c.any_is-6.result
    (sym c.all_name_rights.ensures ∙ c.if-not-all_name_rights.false) c.any_is.ensures c.any_is-2.ensures c.any_is-3.ensures c.any_is-4.ensures c.any_is-5.ensures c.any_is-6.ensures c.from_each.ensures
