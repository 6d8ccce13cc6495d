-- It is told beside the places.
use Rattle.std.proofs.Common.{◌∙◌, ap, sym}
use Rattle.core_model.specs.LaunchRules.{is_barrier}
use Rattle.packet_processor.specs.declared.places.Place.{Place}
use Rattle.packet_processor.proofs.PlaceLemmas.{any-map}
use Rattle.packet_processor.specs.inner.Ascending.{holds_barrier}
use Rattle.packet_processor.proofs.places.Places.has_barrier.Goals as goal

pub returns : goal.returns
returns c =
    c.self.invariant.3
    ∙ ap holds_barrier c.self.view_is
    ∙ sym (any-map is_barrier (λ (p : Place). p.packet) c.args.self.now)
