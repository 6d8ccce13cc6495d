-- The search goes through the packets.
use Rattle.std.proofs.Common.{rules}
use Rattle.std.proofs.lemmas.Iterator.{YieldsList-from_slice}
use Rattle.std.proofs.lemmas.Iterator.Search.{any_from_yields_List}
use Rattle.core_model.specs.LaunchRules.{is_barrier}
use Rattle.packet_processor.specs.declared.places.Place.{Place}
use Rattle.packet_processor.proofs.places.holds_barrier.Goals as goal

pub returns : goal.returns
returns c =
    any_from_yields_List (λ (p : Place). is_barrier p.packet) _ _ c.any.result c.any.ensures.ran (YieldsList-from_slice c.args.places.now cc) (λ x b q k. search rules)
