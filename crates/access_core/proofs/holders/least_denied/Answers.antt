-- The first that is found is the least; where nothing is listed, or all that is in force is allowed, there is none.
use Rattle.std.proofs.Common.{◌∙◌, ap, not, option_map, subst, sym}
use Rattle.std.specs.Option.{option_copied}
use Rattle.access_core.proofs.FirstOf.{least-found}
use Rattle.access_core.proofs.Looking.{none-denied, none-listed}
use Rattle.access_core.proofs.Terms.{IsFirstTo, all_blocks, has_block, lists_denied, packet_of}
use Rattle.access_core.proofs.holders.least_denied.Goals as goal

pub returns-then-not-is_any_in_flight-clause-first : goal.returns-then-not-is_any_in_flight-clause-first
returns-then-not-is_any_in_flight-clause-first c =
    let test = lists_denied c.args.rows.now in
    subst (λ o. IsFirstTo (has_block test (all_blocks c.args.queues.now)) (option_map packet_of o))
    (none-listed test c.args.queues.now (sym c.is_any_in_flight.ensures ∙ c.if-not-is_any_in_flight.true))
    (least-found test c.args.queues.now c.requires.ascending c.requires.sound)

pub returns-then-are_allowed_by-clause-first : goal.returns-then-are_allowed_by-clause-first
returns-then-are_allowed_by-clause-first c = λ queue id.
    none-denied c.args.grants.now c.args.rows.now (all_blocks c.args.queues.now) c.requires.in_force (c.are_allowed_by.ensures.allowed.0 c.if-are_allowed_by.true) queue id

pub returns-in-None-clause-first : goal.returns-in-None-clause-first
returns-in-None-clause-first c =
    let test = lists_denied c.args.rows.now in
    subst (λ o. IsFirstTo (has_block test (all_blocks c.args.queues.now)) (option_map packet_of o)) (sym c.first_denied.ensures ∙ ap option_copied c.in-None.is)
    (least-found test c.args.queues.now c.requires.ascending c.requires.sound)

pub returns-in-Some-clause-first : goal.returns-in-Some-clause-first
returns-in-Some-clause-first c =
    let test = lists_denied c.args.rows.now in
    subst (λ o. IsFirstTo (has_block test (all_blocks c.args.queues.now)) (option_map packet_of o)) (sym c.first_denied.ensures ∙ ap option_copied c.in-Some.is)
    (least-found test c.args.queues.now c.requires.ascending c.requires.sound)
