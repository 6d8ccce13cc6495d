use Rattle.std.proofs.Common.{ℕ, List, [], ◌∷◌, ◌++◌, ap, sym, ◌∙◌}
use Rattle.ring.proofs.Places.{opening_more}
use Rattle.ring.proofs.place.opening_table.Goals as goal

pub loop-slot-preserved : goal.loop-slot-preserved
loop-slot-preserved c =
    c.in_ok-extend_from_slice.ensures.items
    ∙ ap (λ (ws : List ℕ). ws ++ (1 ∷ 0 ∷ 0 ∷ 0 ∷ 0 ∷ 0 ∷ 0 ∷ 0 ∷ [])) c.loop-slot.invariant
    ∙ sym (opening_more c.loop-slot._slot)
