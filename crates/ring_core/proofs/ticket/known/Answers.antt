use Rattle.std.proofs.Common.{◌<◌, ◌∙◌, sym, length, arith}
use Rattle.std.specs.Prelude.{Some, None}
use Rattle.std.proofs.lemmas.List.{length-map, get_or-map, ext_get_or}
use Rattle.ring_core.proofs.ticket.known.Goals as goal

pub returns : goal.returns
returns c =
    ext_get_or None _ _ (c.loop-place.invariant.0 ∙ sym (length-map _ _ ∙ c.told-words))
    (λ k h.
    let lt : k < length c.args.words.now = omega arith in
    let near : k < c.loop-place.place = omega arith in
    c.loop-place.invariant.1 k near ∙ sym (get_or-map (λ w. Some w) c.args.words.now k 0 None lt))
