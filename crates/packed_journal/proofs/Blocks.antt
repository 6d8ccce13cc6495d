-- What is put at the end of a block, and where a journal stands behind it.
use Rattle.std.proofs.Common.{◌≡◌, ℕ, ◌+◌, ◌-◌, ◌<◌, ◌≤◌, true, false, List, [], ◌∷◌, ◌++◌, length, take, drop, refl, sym, ap, ◌∙◌, arith, append_assoc, append-nil, length-append, length-drop}
use Rattle.std.proofs.lemmas.Bool.Decides.{nat_tests}
use Rattle.std.proofs.lemmas.List.{drop_at, take_all, take_at}
use Rattle.sha2.specs.Sha512.{sha512}
use Rattle.packed_journal.specs.Words.{packed_number}
use Rattle.packed_journal.specs.Journals.{Place, added, begins, between, body, digest_of, end_of, is_full, mark, onward, turn_of, with_form}

-- ---- one step of the definitions

pub digest_is : (place : Place) → digest_of place ≡ sha512 (place.told ++ mark place)
unfolding digest_of
digest_is place = refl

pub body_end : (place : Place) → body place [] ≡ end_of place
unfolding body
body_end place = refl

pub body_more : (place : Place) (form : List ℕ) (forms : List (List ℕ)) → body place (form ∷ forms) ≡ added place form ++ body (onward (with_form place form)) forms
unfolding body
body_more place form forms = refl

-- ---- a block's end

-- a mark is put, and what stands behind what was there is the mark
pub marked : (old one new : List ℕ) (filled before : ℕ) → length old ≡ before → one ≡ old ++ 0 ∷ [] → new ≡ one ++ packed_number filled → new ≡ old ++ (0 ∷ packed_number filled)
marked old one new filled before b o n = n ∙ ap (λ front. front ++ packed_number filled) o ∙ append_assoc old (0 ∷ []) (packed_number filled)

pub behind_old : (old form new : List ℕ) (before : ℕ) → length old ≡ before → new ≡ old ++ form → drop before new ≡ form
behind_old old form new before b n = ap (drop before) n ∙ drop_at old form before b

-- behind what was there stand a block's mark and its digest
pub ended : (place : Place) (old one new all digest : List ℕ) → one ≡ old ++ 0 ∷ [] → new ≡ one ++ packed_number place.filled → digest ≡ digest_of place → all ≡ new ++ digest → all ≡ old ++ end_of place
ended place old one new all digest o n d a =
    a ∙ ap (λ front. front ++ digest) (marked old one new place.filled (length old) refl o n) ∙ append_assoc old (mark place) digest ∙ ap (λ it. old ++ (mark place ++ it)) d

-- what was put behind what was there is the block's mark
pub mark_is : (place : Place) (old one new : List ℕ) (before : ℕ) → length old ≡ before → one ≡ old ++ 0 ∷ [] → new ≡ one ++ packed_number place.filled → take (length new - before) (drop before new) ≡ mark place
mark_is place old one new before b o n =
    let long : length (drop before new) ≡ length new - before = length-drop before new in
    take_all (length new - before) (drop before new) (omega (arith, long)) ∙ behind_old old (mark place) new before b (marked old one new place.filled before b o n)

-- ---- an entry more

pub full_is : (place : Place) (form : List ℕ) (filled : ℕ) → filled ≡ place.filled + length form → 65536 ≤ filled → is_full (with_form place form) ≡ true
full_is place form filled e h = grind (arith, nat_tests)

pub not_full_is : (place : Place) (form : List ℕ) (filled : ℕ) → filled ≡ place.filled + length form → filled < 65536 → is_full (with_form place form) ≡ false
not_full_is place form filled e h = grind (arith, nat_tests)

-- nothing stands behind an entry whose block isn't full, and the block goes on
pub goes_on : (place : Place) (old : List ℕ) → is_full place ≡ false → (old ≡ old ++ between place) × (onward place ≡ place)
goes_on place old h = (rw h (sym (append-nil old)), rw h refl)

-- behind one whose block is full stand its end and the next one's beginning
pub turns : (place : Place) (old new : List ℕ) → is_full place ≡ true → new ≡ old ++ turn_of place → (new ≡ old ++ between place) × (onward place ≡ begins (digest_of place) place.number)
turns place old new h n = (n ∙ rw h refl, rw h refl)

-- the front of bytes, before those that are left
pub front_is : (form bytes rest : List ℕ) → bytes ≡ form ++ rest → take (length bytes - length rest) bytes ≡ form
front_is form bytes rest e =
    let long : length (form ++ rest) ≡ length form + length rest = length-append form rest in
    let whole : length bytes ≡ length (form ++ rest) = ap length e in
    ap (take (length bytes - length rest)) e ∙ take_at form rest (length bytes - length rest) (omega (arith, long, whole))
