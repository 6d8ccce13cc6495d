-- Ends and desks are looked at one after another.
use Rattle.std.proofs.Common.{◌≡◌, ℕ, suc, zero, ◌+◌, ◌<◌, true, false, Bool, List, [], ◌∷◌, length, map, drop, get_or, refl, ap, ◌∙◌, sym, arith}
use Rattle.std.proofs.Math.Numerals.{add-one}
use Rattle.std.specs.Prelude.{◌==◌, ◌&&◌, ◌||◌}
use Rattle.std.specs.List.{list_any, list_all}
use Rattle.ring.specs.Settling.{has_pass}
use Rattle.client_threads.specs.declared.broker.Desk.{Desk}
use Rattle.client_threads.specs.declared.client_end.ClientEnd.{ClientEnd}
use Rattle.client_threads.specs.Desks.{seen}
use Rattle.client_threads.specs.Lanes.{LaneSeen}
use Rattle.client_threads.specs.Settling.{has_all_passes, has_its_passes, passes_of}
use Rattle.client_threads.proofs.Ends.{all_rings, end_is_pass}

any_at : {X : Type 0} → (p : X → Bool) (xs : List X) (i : ℕ) (x : X) → i < length xs → get_or xs i x ≡ x → list_any p (drop i xs) ≡ (p x || list_any p (drop (suc i) xs))
any_at p [] i x lt is = absurd (omega (arith, lt))
any_at p (y ∷ ys) zero x lt is = ap (λ z. p z || list_any p ys) is
any_at p (y ∷ ys) (suc i) x lt is = any_at p ys i x (omega (arith, lt)) is

all_at : {X : Type 0} → (p : X → Bool) (xs : List X) (i : ℕ) (x : X) → i < length xs → get_or xs i x ≡ x → list_all p (drop i xs) ≡ (p x && list_all p (drop (suc i) xs))
all_at p [] i x lt is = absurd (omega (arith, lt))
all_at p (y ∷ ys) zero x lt is = ap (λ z. p z && list_all p ys) is
all_at p (y ∷ ys) (suc i) x lt is = all_at p ys i x (omega (arith, lt)) is

gone : {X : Type 0} → (xs : List X) (i : ℕ) → length xs < suc i → drop i xs ≡ []
gone [] zero h = refl
gone [] (suc i) h = refl
gone (x ∷ xs) zero h = absurd (omega (arith, h))
gone (x ∷ xs) (suc i) h = gone xs i (omega (arith, h))

abbrev pub is_end : ℕ → ℕ → ClientEnd → Bool
is_end queue number end = (end.queue.0 == queue) && (end.pass.number == number)

-- what is left decides whether the end is there
abbrev pub EndsLeft : ℕ → ℕ → List ClientEnd → ℕ → Type 0
EndsLeft queue number ends i = list_any (is_end queue number) (drop i ends) ≡ list_any (is_end queue number) ends

module _ (queue number : ℕ) (ends : List ClientEnd) (i : ℕ) where
  pub end_found : (end : ClientEnd) → i < length ends → get_or ends i end ≡ end → is_end queue number end ≡ true → EndsLeft queue number ends i → true ≡ has_pass number (passes_of queue ends)
  end_found end lt is its h =
      sym (end_is_pass queue number ends ∙ sym h ∙ any_at (is_end queue number) ends i end lt is ∙ ap (λ b. b || list_any (is_end queue number) (drop (suc i) ends)) its)

  pub end_passed : (end : ClientEnd) → i < length ends → get_or ends i end ≡ end → is_end queue number end ≡ false → EndsLeft queue number ends i → EndsLeft queue number ends (i + 1)
  end_passed end lt is its h =
      ap (λ n. list_any (is_end queue number) (drop n ends)) (add-one i)
      ∙ sym (ap (λ b. b || list_any (is_end queue number) (drop (suc i) ends)) its)
      ∙ sym (any_at (is_end queue number) ends i end lt is)
      ∙ h

  pub end_missing : length ends < suc i → EndsLeft queue number ends i → false ≡ has_pass number (passes_of queue ends)
  end_missing over h = sym (end_is_pass queue number ends ∙ sym h ∙ ap (list_any (is_end queue number)) (gone ends i over))

-- and whether all rings have their passes
abbrev pub RingsLeft : List ClientEnd → List LaneSeen → List Desk → ℕ → Type 0
RingsLeft ends lanes desks i = list_all (λ desk. has_its_passes ends lanes (seen desk)) (drop i desks) ≡ list_all (λ desk. has_its_passes ends lanes (seen desk)) desks

module _ (ends : List ClientEnd) (lanes : List LaneSeen) (desks : List Desk) (i : ℕ) where
  pub ring_lacks : (desk : Desk) → i < length desks → get_or desks i desk ≡ desk → has_its_passes ends lanes (seen desk) ≡ false → RingsLeft ends lanes desks i → false ≡ has_all_passes (map seen desks) ends lanes
  ring_lacks desk lt is lacks h =
      sym (all_rings (has_its_passes ends lanes) desks ∙ sym h ∙ all_at (λ d. has_its_passes ends lanes (seen d)) desks i desk lt is ∙ ap (λ b. b && list_all (λ d. has_its_passes ends lanes (seen d)) (drop (suc i) desks)) lacks)

  pub ring_passed : (desk : Desk) → i < length desks → get_or desks i desk ≡ desk → has_its_passes ends lanes (seen desk) ≡ true → RingsLeft ends lanes desks i → RingsLeft ends lanes desks (i + 1)
  ring_passed desk lt is good h =
      ap (λ n. list_all (λ d. has_its_passes ends lanes (seen d)) (drop n desks)) (add-one i)
      ∙ sym (ap (λ b. b && list_all (λ d. has_its_passes ends lanes (seen d)) (drop (suc i) desks)) good)
      ∙ sym (all_at (λ d. has_its_passes ends lanes (seen d)) desks i desk lt is)
      ∙ h

  pub rings_have : length desks < suc i → RingsLeft ends lanes desks i → true ≡ has_all_passes (map seen desks) ends lanes
  rings_have over h = sym (all_rings (has_its_passes ends lanes) desks ∙ sym h ∙ ap (list_all (λ d. has_its_passes ends lanes (seen d))) (gone desks i over))
