-- Queues are found by their numbers, which ascend.
use Rattle.std.proofs.Common.{◌≡◌, ℕ, zero, suc, ◌+◌, ◌<◌, ◌≤◌, ◌==◌, Bool, true, false, not, List, [], ◌∷◌, ◌++◌, length, map, filter, find, refl, sym, ◌∙◌, ap, Option, Some, None, arith, get_or, min, slice_get, if◌then◌else◌}
use Rattle.access_core.proofs.Terms.{AscendFrom, IsNotFrom, IsQueueIndex, Queue, QueueId, has_number, queue_in, slice_get-get_or, slice_get_within}

-- ---- what lies where

-- numbers that ascend from one number ascend from a lesser one
pub ascend-lower : (low below : ℕ) (qs : List Queue) → low ≤ below → AscendFrom below qs → AscendFrom low qs
ascend-lower low below [] less ascending = tt
ascend-lower low below (x ∷ xs) less ascending = (omega (arith, less, ascending.0), ascending.1)

-- a number is above as many as lie before it
pub above-place : (below : ℕ) (qs : List Queue) (i : ℕ) (q : Queue) → AscendFrom below qs → slice_get qs i ≡ Some q → below + i < q.number.0
above-place below [] i q ascending at = absurd cc
above-place below (x ∷ xs) zero q ascending at = let same : x.number.0 ≡ q.number.0 = cc in omega (arith, same, ascending.0)
above-place below (x ∷ xs) (suc i) q ascending at = let above = above-place x.number.0 xs i q ascending.1 at in omega (arith, above, ascending.0)

-- so from the place of a number on no queue has it
pub not-behind : (qs : List Queue) (queue : QueueId) (behind : ℕ) → AscendFrom 0 qs → queue.0 ≤ behind → IsNotFrom qs queue behind
not-behind qs queue behind ascending less index q from at = let above = above-place 0 qs index q ascending at in grind arith

pub not-beyond : (qs : List Queue) (queue : QueueId) (behind : ℕ) → length qs ≤ behind → IsNotFrom qs queue behind
not-beyond qs queue behind less index q from at = let within = slice_get_within qs index q at in absurd (omega (arith, within, less, from))

-- nor from the place of the number or the end of the list on, whichever comes first
pub not-last : (qs : List Queue) (queue : QueueId) (behind : ℕ) → AscendFrom 0 qs → behind ≡ min queue.0 (length qs) → IsNotFrom qs queue behind
not-last qs queue behind ascending is index q from at =
    let within = slice_get_within qs index q at in
    let less : queue.0 ≤ index = omega (arith, is, from, within) in
    not-behind qs queue queue.0 ascending (omega arith) index q less at

-- one place less is looked at
pub not-before : (qs : List Queue) (queue : QueueId) (i : ℕ) (one : Queue) → IsNotFrom qs queue (i + 1) → slice_get qs i ≡ Some one → has_number queue one ≡ false → IsNotFrom qs queue i
not-before qs queue i one not_behind here other index q from at = by_place (index == i) refl
  where
    by_place : (b : Bool) → (index == i) ≡ b → has_number queue q ≡ false
    by_place true is = grind arith
    by_place false is = not_behind index q (grind arith) at

-- where all were looked at, none is found
pub none-from : (qs : List Queue) (queue : QueueId) → IsNotFrom qs queue 0 → queue_in qs queue ≡ None
none-from [] queue not_from = refl
none-from (x ∷ xs) queue not_from =
    let here : has_number queue x ≡ false = not_from 0 x (omega arith) refl in
    let rest = none-from xs queue (λ index q from at. not_from (suc index) q (omega arith) at) in
    rw here rest

-- one that has the number is the one that is found
pub found-at : (below : ℕ) (qs : List Queue) (queue : QueueId) (i : ℕ) (q : Queue) → AscendFrom below qs → slice_get qs i ≡ Some q → has_number queue q ≡ true → queue_in qs queue ≡ Some q
found-at below [] queue i q ascending at is = absurd cc
found-at below (x ∷ xs) queue zero q ascending at is = let same : x ≡ q = cc in rw (same, is) refl
found-at below (x ∷ xs) queue (suc i) q ascending at is =
    let above = above-place x.number.0 xs i q ascending.1 at in
    let other : has_number queue x ≡ false = grind arith in
    let rest = found-at x.number.0 xs queue i q ascending.1 at is in
    rw other rest

-- none of these has a number that isn't above them
pub none-above : (qs : List Queue) (queue : QueueId) (below : ℕ) → AscendFrom below qs → queue.0 ≤ below → queue_in qs queue ≡ None
none-above [] queue below ascending less = refl
none-above (x ∷ xs) queue below ascending less =
    let other : has_number queue x ≡ false = let above = ascending.0 in grind arith in
    rw other (none-above xs queue x.number.0 ascending.1 (omega (arith, less, ascending.0)))

-- which is its index
pub index-is : (qs : List Queue) (queue : QueueId) (i : ℕ) (q : Queue) → AscendFrom 0 qs → i < length qs → get_or qs i q ≡ q → has_number queue q ≡ true → IsQueueIndex qs queue (Some i)
index-is qs queue i q ascending within at is =
    let here : slice_get qs i ≡ Some q = slice_get-get_or qs i q within ∙ ap Some at in
    (within, found-at 0 qs queue i q ascending here is ∙ sym here)
