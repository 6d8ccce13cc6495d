-- The place that is found is the packet's.
use Rattle.std.proofs.Common.{◌≡◌, ◌∙◌, ◌<◌, ℕ, List, [], ◌∷◌, Some, find, get_or, length, option_map, ap, arith}
use Rattle.std.specs.Prelude.{slice_get}
use Rattle.access_core.proofs.Terms.{IsFoundIn, PacketId, Place, found-passes, is_place_of, slice_get-get_or}
use Rattle.std.proofs.lemmas.Bool.{eqb-true}
use Rattle.access_core.proofs.access.completing.found_in.Goals as goal

found-by : (id : PacketId) (ps : List Place) (i : ℕ) (d : Place) → i < length ps → find (is_place_of id) ps ≡ slice_get ps i → IsFoundIn (record { packet = id; index = i }) ps
found-by id ps i d within is =
    let here = slice_get-get_or ps i d within in
    let passes = found-passes (is_place_of id) ps _ (is ∙ here) in
    let same : (get_or ps i d).id.0 ≡ id.0 = eqb-true _ _ passes in
    ap (option_map (λ (place : Place). place.id)) here ∙ ap (λ (n : ℕ). Some (record { 0 = n })) same

found-is : (id : PacketId) (ps : List Place) (i : ℕ) → i < length ps → find (is_place_of id) ps ≡ slice_get ps i → IsFoundIn (record { packet = id; index = i }) ps
found-is id [] i within is = absurd (omega arith)
found-is id (p ∷ ps) i within is = found-by id (p ∷ ps) i p within is

pub returns-clause-at : goal.returns-clause-at
returns-clause-at c = found-is c.args.id c.args.places.now c.in_ok-index.index c.in_ok-index.ensures.0 c.in_ok-index.ensures.1
