-- What an event came to is put to the last fate that is of its packet.
use Rattle.std.proofs.Common.{◌≡◌, ℕ, zero, suc, ◌+◌, ◌<◌, List, [], ◌∷◌, ◌++◌, Bool, true, false, ◌||◌, not, ◌&&◌, Option, length, drop, get_or, set, if◌then◌else◌, refl, sym, ap, subst, ◌∙◌, arith}
use Rattle.std.specs.List.{list_any}
use Rattle.std.proofs.lemmas.Bool.{and_left, and_right, or_left, or_parts, or_right}
use Rattle.aql_packet.specs.declared.ids.PacketId.{PacketId}
use Rattle.aql_packet.specs.declared.ids.QueueId.{QueueId}
use Rattle.aql_packet.specs.declared.packet.Packet.{Packet}
use Rattle.core_model.specs.declared.outcome.Outcome.{Outcome}
use Rattle.readable.specs.declared.fates.Fate.{Fate}
use Rattle.readable.specs.Fates.{begun, is_of, put, with_outcome}

any_at : (p : Fate → Bool) (fates : List Fate) (place : ℕ) (d : Fate) → place < length fates → p (get_or fates place d) ≡ true → list_any p fates ≡ true
any_at p [] place d lt is = absurd (omega arith)
any_at p (fate ∷ fates) zero d lt is = or_left (p fate) (list_any p fates) is
any_at p (fate ∷ fates) (suc place) d lt is = or_right (p fate) (list_any p fates) (any_at p fates place d (omega arith) is)

module _ (queue : QueueId) (packet : PacketId) (about : Option Packet) (outcome : Outcome) where
  put_first : (fate : Fate) (fates : List Fate) → is_of queue packet fate ≡ true → list_any (is_of queue packet) fates ≡ false →
      put queue packet about outcome (fate ∷ fates) ≡ with_outcome fate outcome ∷ fates
  unfolding put
  put_first fate fates is none = rw (is, none) refl

  put_behind : (fate : Fate) (fates : List Fate) → (is_of queue packet fate && not (list_any (is_of queue packet) fates)) ≡ false →
      put queue packet about outcome (fate ∷ fates) ≡ fate ∷ put queue packet about outcome fates
  unfolding put
  put_behind fate fates isnt = ap (λ b. if b then with_outcome fate outcome ∷ fates else fate ∷ put queue packet about outcome fates) isnt

  put_none : put queue packet about outcome [] ≡ with_outcome (begun queue packet about) outcome ∷ []
  unfolding put
  put_none = refl

  pub put_here : (fates : List Fate) (place : ℕ) (fate : Fate) → place < length fates → fate ≡ get_or fates place fate →
      ((d : Fate) → is_of queue packet (get_or fates place d) ≡ true) → list_any (is_of queue packet) (drop (place + 1) fates) ≡ false →
      set fates place (with_outcome fate outcome) ≡ put queue packet about outcome fates
  put_here [] place fate lt is of none = absurd (omega arith)
  put_here (first ∷ fates) zero fate lt is of none = rw is (sym (put_first first fates (of first) none))
  put_here (first ∷ fates) (suc place) fate lt is of none =
      let one_more : suc place + 1 ≡ suc (place + 1) = omega arith in
      let behind : list_any (is_of queue packet) (drop (place + 1) fates) ≡ false =
      subst (λ n. list_any (is_of queue packet) (drop n (first ∷ fates)) ≡ false) one_more none in
      ap (λ rest. first ∷ rest) (put_here fates place fate (omega arith) is of behind)
      ∙ sym (put_behind first fates (and_right (is_of queue packet first) (not (list_any (is_of queue packet) fates))
      (ap not (any_at (is_of queue packet) fates place fate (omega arith) (of fate)))))

  pub put_new : (fates : List Fate) → list_any (is_of queue packet) fates ≡ false →
      fates ++ with_outcome (begun queue packet about) outcome ∷ [] ≡ put queue packet about outcome fates
  put_new [] none = sym put_none
  put_new (fate ∷ fates) none =
      let parts = or_parts (is_of queue packet fate) (list_any (is_of queue packet) fates) none in
      ap (λ rest. fate ∷ rest) (put_new fates parts.1)
      ∙ sym (put_behind fate fates (and_left (is_of queue packet fate) (not (list_any (is_of queue packet) fates)) parts.0))
