-- The first that is found is the least.
use Rattle.std.proofs.Common.{◌∙◌, ap, option_map, subst, sym}
use Rattle.std.specs.Option.{option_copied}
use Rattle.access_core.proofs.FirstOf.{least-found}
use Rattle.access_core.proofs.Terms.{IsFirstTo, all_blocks, has_block, lists_one, packet_of}
use Rattle.access_core.proofs.holders.least_holder.Goals as goal

pub returns-in-None : goal.returns-in-None
returns-in-None c =
    let test = lists_one c.args.client c.args.object c.args.rights in
    subst (λ o. IsFirstTo (has_block test (all_blocks c.args.queues.now)) (option_map packet_of o)) (sym c.first_holding.ensures ∙ ap option_copied c.in-None.is)
    (least-found test c.args.queues.now c.requires.ascending c.requires.sound)

pub returns-in-Some : goal.returns-in-Some
returns-in-Some c =
    let test = lists_one c.args.client c.args.object c.args.rights in
    subst (λ o. IsFirstTo (has_block test (all_blocks c.args.queues.now)) (option_map packet_of o)) (sym c.first_holding.ensures ∙ ap option_copied c.in-Some.is)
    (least-found test c.args.queues.now c.requires.ascending c.requires.sound)
