-- The place that is found is there.
use Rattle.std.proofs.Common.{◌∙◌, sym, subst, List}
use Rattle.std.specs.Prelude.{Some}
use Rattle.packet_processor.specs.Queueing.{IsIndexOf, is_place_of}
use Rattle.packet_processor.specs.declared.places.Place.{Place}
use Rattle.packet_processor.proofs.PlaceLemmas.{found-at}
use Rattle.std.proofs.lemmas.Option.{slice_get-get_or}
use Rattle.packet_processor.proofs.places.Places.index_of.Goals as goal

pub returns-then-is_place_of : goal.returns-then-is_place_of
returns-then-is_place_of c =
    let xs = c.as_slice-place-items.result.now in
    let i = c.loop-index.index in
    let passes = sym c.is_place_of.ensures ∙ c.if-is_place_of.true in
    subst (λ (ys : List Place). IsIndexOf (is_place_of c.args.id) ys (Some i)) c.as_slice-place-items.ensures
    (c.loop-index-test.true, c.loop-index.invariant ∙ found-at (is_place_of c.args.id) xs i _ c.loop-index-test.true passes ∙ sym (slice_get-get_or xs i _ c.loop-index-test.true))
