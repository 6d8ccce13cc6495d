use Rattle.std.proofs.Common.{◌≢◌, ◌<◌, ◌∙◌, sym, length, arith, below_more, get_or-set_other, get_or-set_same, length-set}
use Rattle.std.specs.Prelude.{unwrap_or, None}
use Rattle.std.proofs.lemmas.List.{length-map, get_or-map}
use Rattle.std.proofs.lemmas.Grind.{same_number_lists}
use Rattle.ring_core.proofs.ticket.packet_of.Goals as goal

pub loop-place-preserved : goal.loop-place-preserved
loop-place-preserved c = (
  length-set _ _ _ ∙ c.loop-place.invariant.0,
  below_more _ _
      (λ k h. let ne : k ≢ c.loop-place.place = omega arith in rw get_or-set_other (c.loop-place.invariant.1 k h))
      (let lt : c.loop-place.place < length c.loop-place.packet = omega arith in rw get_or-set_same c.unwrap_or.ensures),
)

pub returns : goal.returns
returns c =
    same_number_lists _ _ (c.loop-place.invariant.0 ∙ sym (length-map _ _ ∙ c.told-words))
    (λ k h.
    let lt : k < length c.args.words.now = omega arith in
    let near : k < c.loop-place.place = omega arith in
    c.loop-place.invariant.1 k near ∙ sym (get_or-map (λ w. unwrap_or w 0) c.args.words.now k None 0 lt))
