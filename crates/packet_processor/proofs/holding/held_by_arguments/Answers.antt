use Rattle.std.proofs.Common.{◌++◌, ◌∙◌, ap, arith}
use Rattle.std.specs.Prelude.{map}
use Rattle.core_model.specs.Holds.{held_by_pointer}
use Rattle.packet_processor.specs.Judged.{facts_seen}
use Rattle.packet_processor.specs.Holding.{as_rights}
use Rattle.packet_processor.proofs.HeldByPointer.{all_pointed, at_place, more, pointed, pointed-splits}
use Rattle.packet_processor.proofs.holding.held_by_arguments.Goals as goal

pub offsets-preserved : goal.offsets-preserved
offsets-preserved c =
    let seen = facts_seen c.args.facts.now in
    let block = c.args.block.now in
    more (all_pointed seen.in_force seen.lengths block) (pointed seen.in_force seen.lengths block) (pointed-splits seen.in_force seen.lengths block) _ _ _ _ _ _
    (at_place c.args.offsets.now c.offsets.offset-index _ (omega arith))
    (c.in_ok-hold_pointed.ensures ∙ ap (λ address. c.offsets.held ++ map as_rights (held_by_pointer seen.in_force seen.lengths address)) c.wide_argument.ensures)
    c.offsets.invariant
