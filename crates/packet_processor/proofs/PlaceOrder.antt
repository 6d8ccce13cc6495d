-- Places in the order of ids: each packet has one of them, and it may be changed or taken out there.
use Rattle.std.proofs.Common.{◌≡◌, ℕ, zero, suc, ◌<◌, Bool, true, false, ◌&&◌, if◌then◌else◌, List, [], ◌∷◌, ◌++◌, Option, None, Some, option_map, All, drop, ◌+◌, length, get_or, map, not, refl, ap, arith, sym, subst, ◌∙◌}
use Rattle.std.specs.Prelude.{◌||◌, slice_get, slice_set}
use Rattle.std.specs.List.{remove}
use Rattle.std.proofs.lemmas.List.{length-drop}
use Rattle.std.proofs.lemmas.Option.{get_or_from_slice_get, slice_get_within}
use Rattle.aql_packet.specs.declared.ids.PacketId.{PacketId}
use Rattle.core_model.specs.declared.flight.Progress.{Progress}
use Rattle.core_model.specs.LaunchRules.{is_barrier}
use Rattle.packet_processor.specs.Queueing.{IsFoundIn, further, is_place_of, with_progress, without_packet}
use Rattle.packet_processor.specs.declared.places.FoundPacket.{FoundPacket}
use Rattle.packet_processor.specs.declared.places.Place.{Place}
use Rattle.packet_processor.proofs.LeftBehind.{first-behind, got-behind, got_or-behind, removed-behind, set-behind}
use Rattle.packet_processor.specs.inner.Ascending.{Above, Ascends, holds_barrier}

-- ---- one place more, behind the others

above-append : (n : ℕ) (xs : List Place) (x : Place) → Above n xs → n < x.id.0 → Above n (xs ++ x ∷ [])
above-append n [] x above last = (last, tt)
above-append n (y ∷ ys) x above last = (above.0, above-append n ys x above.1 last)

pub ascends-append : (xs : List Place) (x : Place) → Ascends xs → All (λ place. place.id.0 < x.id.0) xs → Ascends (xs ++ x ∷ [])
ascends-append [] x order below = (tt, tt)
ascends-append (y ∷ ys) x order below =
    (above-append y.id.0 ys x order.0 (below 0 y (omega arith)), ascends-append ys x order.1 (λ k d within. below (suc k) d (omega (arith, within))))

-- ---- the places of other packets stay

above-at : (n : ℕ) (xs : List Place) (i : ℕ) (p : Place) → Above n xs → slice_get xs i ≡ Some p → n < p.id.0
above-at n [] i p above at = absurd cc
above-at n (x ∷ xs) zero p above at = grind (arith, above)
above-at n (x ∷ xs) (suc i) p above at = above-at n xs i p above.1 at

above-further : (id : PacketId) (so_far : Progress) (xs : List Place) → Above id.0 xs → map (with_progress id so_far) xs ≡ xs
above-further id so_far [] above = refl
above-further id so_far (x ∷ xs) above = grind (arith, above-further id so_far xs above.1)

above-without : (id : PacketId) (xs : List Place) → Above id.0 xs → without_packet id xs ≡ xs
above-without id [] above = refl
above-without id (x ∷ xs) above = grind (arith, above-without id xs above.1)

-- ---- what is left without a packet

gone : (id : PacketId) (x : Place) (xs : List Place) → is_place_of id x ≡ true → without_packet id (x ∷ xs) ≡ without_packet id xs
gone id x xs is = ap (λ b. if not b then x ∷ without_packet id xs else without_packet id xs) is

stays : (id : PacketId) (x : Place) (xs : List Place) → is_place_of id x ≡ false → without_packet id (x ∷ xs) ≡ x ∷ without_packet id xs
stays id x xs is = ap (λ b. if not b then x ∷ without_packet id xs else without_packet id xs) is

-- ---- the place of an index is changed, or taken out

first-without : (x : Place) (xs : List Place) → Above x.id.0 xs → xs ≡ without_packet x.id (x ∷ xs)
first-without x xs above = grind (arith, above-without x.id xs above)

later-without : (x : Place) (xs : List Place) (id : PacketId) → x.id.0 < id.0 → without_packet id (x ∷ xs) ≡ x ∷ without_packet id xs
later-without x xs id later = grind arith

pub further-at : (xs : List Place) (i : ℕ) (p : Place) (so_far : Progress) → Ascends xs → slice_get xs i ≡ Some p
    → slice_set xs i (further so_far p) ≡ map (with_progress p.id so_far) xs
further-at [] i p so_far order at = absurd cc
further-at (x ∷ xs) zero p so_far order at = grind (arith, above-further p.id so_far xs)
further-at (x ∷ xs) (suc i) p so_far order at =
    let later : x.id.0 < p.id.0 = above-at x.id.0 xs i p order.0 at in
    grind (arith, further-at xs i p so_far order.1 at)

pub without-at : (xs : List Place) (i : ℕ) (p : Place) → Ascends xs → slice_get xs i ≡ Some p → remove xs i ≡ without_packet p.id xs
without-at [] i p order at = absurd cc
without-at (x ∷ xs) zero p order at =
    let here : x ≡ p = grind (arith, at) in
    subst (λ q. xs ≡ without_packet q.id (x ∷ xs)) here (first-without x xs order.0)
without-at (x ∷ xs) (suc i) p order at =
    let later : x.id.0 < p.id.0 = above-at x.id.0 xs i p order.0 at in
    ap (λ ys. x ∷ ys) (without-at xs i p order.1 at) ∙ sym (later-without x xs p.id later)

-- the place that was found of a packet
there : (xs : List Place) (found : FoundPacket) → IsFoundIn found xs → (p : Place) × (slice_get xs found.index ≡ Some p) × (p.id ≡ found.packet)
there xs found is = by_place (slice_get xs found.index) refl is
  where
    by_place : (o : Option Place) → slice_get xs found.index ≡ o → option_map (λ place. place.id) o ≡ Some found.packet
        → (p : Place) × (slice_get xs found.index ≡ Some p) × (p.id ≡ found.packet)
    by_place None at is = absurd cc
    by_place (Some p) at is = (p, at, cc)

-- it may be changed there
pub changed : (xs : List Place) (found : FoundPacket) (so_far : Progress) (old : Place) → Ascends xs → IsFoundIn found xs → old ≡ get_or xs found.index old
    → slice_set xs found.index (further so_far old) ≡ map (with_progress found.packet so_far) xs
changed xs found so_far old order is at =
    let p = there xs found is in
    let same : p.0 ≡ old = sym (get_or_from_slice_get xs found.index p.0 old p.1) ∙ sym at in
    let here : slice_get xs found.index ≡ Some old = p.1 ∙ ap Some same in
    let named : old.id ≡ found.packet = ap (λ (q : Place). q.id) (sym same) ∙ p.2 in
    further-at xs found.index old so_far order here ∙ ap (λ id. map (with_progress id so_far) xs) named

-- there is such a place
pub none-lost : (xs : List Place) (found : FoundPacket) → IsFoundIn found xs → (found.index < length xs → ⊥) → ⊥
none-lost xs found is past = past (slice_get_within xs found.index _ (there xs found is).1)

pub taken-out : (xs : List Place) (found : FoundPacket) → Ascends xs → IsFoundIn found xs → remove xs found.index ≡ without_packet found.packet xs
taken-out xs found order is =
    let p = there xs found is in
    without-at xs found.index p.0 order p.1 ∙ ap (λ id. without_packet id xs) p.2

-- ---- the places behind those that were left behind

pub found-within : (d : ℕ) (xs : List Place) (found : FoundPacket) → IsFoundIn found (drop d xs) → d + found.index < length xs
found-within d xs found is =
    let p = there (drop d xs) found is in
    slice_get_within xs (d + found.index) p.0 (sym (got-behind d xs found.index) ∙ p.1)

pub out-first : (d : ℕ) (xs : List Place) (found : FoundPacket) → Ascends (drop d xs) → IsFoundIn found (drop d xs) → found.index ≡ 0
    → drop (d + 1) xs ≡ without_packet found.packet (drop d xs)
out-first d xs found order is first = first-behind d xs ∙ ap (remove (drop d xs)) (sym first) ∙ taken-out (drop d xs) found order is

pub out-later : (d : ℕ) (xs : List Place) (found : FoundPacket) → Ascends (drop d xs) → IsFoundIn found (drop d xs)
    → drop d (remove xs (d + found.index)) ≡ without_packet found.packet (drop d xs)
out-later d xs found order is = removed-behind d xs found.index ∙ taken-out (drop d xs) found order is

-- one is gone of those behind, be it the first or a later one
pub fewer-first : (d : ℕ) (xs : List Place) → d < length xs → length (drop (d + 1) xs) + 1 ≡ length (drop d xs)
fewer-first d xs lt = omega (arith, lt, length-drop (d + 1) xs, length-drop d xs)

pub fewer-later : (d : ℕ) (xs ys : List Place) → d < length xs → length ys + 1 ≡ length xs → length (drop d ys) + 1 ≡ length (drop d xs)
fewer-later d xs ys lt one = omega (arith, lt, one, length-drop d ys, length-drop d xs)

pub changed-behind : (d : ℕ) (xs : List Place) (found : FoundPacket) (so_far : Progress) (old : Place) → Ascends (drop d xs) → IsFoundIn found (drop d xs)
    → old ≡ get_or xs (d + found.index) old → drop d (slice_set xs (d + found.index) (further so_far old)) ≡ map (with_progress found.packet so_far) (drop d xs)
changed-behind d xs found so_far old order is at =
    set-behind d xs found.index (further so_far old) ∙ changed (drop d xs) found so_far old order is (at ∙ sym (got_or-behind d xs found.index old))

-- ---- the order stays

above-filter : (n : ℕ) (id : PacketId) (xs : List Place) → Above n xs → Above n (without_packet id xs)
above-filter n id [] above = tt
above-filter n id (x ∷ xs) above = by_test (is_place_of id x) refl (above-filter n id xs above.1)
  where
    by_test : (b : Bool) → is_place_of id x ≡ b → Above n (without_packet id xs) → Above n (without_packet id (x ∷ xs))
    by_test true is rest = subst (Above n) (sym (gone id x xs is)) rest
    by_test false is rest = subst (Above n) (sym (stays id x xs is)) (above.0, rest)

pub ascends-without : (id : PacketId) (xs : List Place) → Ascends xs → Ascends (without_packet id xs)
ascends-without id [] order = tt
ascends-without id (x ∷ xs) order = by_test (is_place_of id x) refl (ascends-without id xs order.1)
  where
    by_test : (b : Bool) → is_place_of id x ≡ b → Ascends (without_packet id xs) → Ascends (without_packet id (x ∷ xs))
    by_test true is rest = subst Ascends (sym (gone id x xs is)) rest
    by_test false is rest = subst Ascends (sym (stays id x xs is)) (above-filter x.id.0 id xs order.0, rest)

above-map : (n : ℕ) (id : PacketId) (so_far : Progress) (xs : List Place) → Above n xs → Above n (map (with_progress id so_far) xs)
above-map n id so_far [] above = tt
above-map n id so_far (x ∷ xs) above = (grind (arith, above), above-map n id so_far xs above.1)

pub ascends-map : (id : PacketId) (so_far : Progress) (xs : List Place) → Ascends xs → Ascends (map (with_progress id so_far) xs)
ascends-map id so_far [] order = tt
ascends-map id so_far (x ∷ xs) order = (grind (arith, above-map x.id.0 id so_far xs order.0), ascends-map id so_far xs order.1)

-- ---- whether one of them is a barrier packet's

-- without one packet there is a barrier packet only where there was one before
barred-without : (id : PacketId) (xs : List Place) → (holds_barrier xs && holds_barrier (without_packet id xs)) ≡ holds_barrier (without_packet id xs)
barred-without id [] = refl
barred-without id (x ∷ xs) = grind (arith, barred-without id xs)

-- a packet leaves: where there was none before, none is left
pub barred-less : (barred told : Bool) (id : PacketId) (xs ys : List Place) → barred ≡ holds_barrier xs → ys ≡ without_packet id xs
    → told ≡ (barred && holds_barrier ys) → told ≡ holds_barrier ys
barred-less barred told id xs ys before less is = grind (arith, barred-without id xs)

-- one place more, behind the others
pub barred-more : (xs : List Place) (x : Place) → (holds_barrier xs || is_barrier x.packet) ≡ holds_barrier (xs ++ x ∷ [])
barred-more [] x = grind arith
barred-more (y ∷ xs) x = grind (arith, barred-more xs x)

pub barred-map : (id : PacketId) (so_far : Progress) (xs : List Place) → holds_barrier (map (with_progress id so_far) xs) ≡ holds_barrier xs
barred-map id so_far [] = refl
barred-map id so_far (x ∷ xs) = grind (arith, barred-map id so_far xs)
