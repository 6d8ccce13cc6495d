-- Reading one after the other, as a loop does.
use Rattle.std.proofs.Common.{◌≡◌, ℕ, zero, suc, ◌<◌, List, [], ◌∷◌, ◌++◌, length, Bool, true, false, if◌then◌else◌, Ok, Err, refl, sym, ap, ◌∙◌, append_assoc, arith}
use Rattle.std.proofs.lemmas.List.{append-nil}
use Rattle.hsail_reader.specs.Faults.{Fails}
use Rattle.hsail_reader.specs.Grammars.{Reading, ◌>>=◌, many_at, all_at, with_first}
use Rattle.hsail_reader.specs.TextTokens.{PlacedToken}
use Rattle.hsail_reader.specs.Nouns.{Stop}
use Rattle.hsail_reader.specs.declared.fault.Stop.TheVariants as stop

-- reading one takes a token at least
abbrev pub Shortens : {X : Type 0} → (List PlacedToken → Reading X) → Type 0
Shortens {X} one = (tokens : List PlacedToken) (y : X × List PlacedToken) → one tokens ≡ Ok y → length y.1 < length tokens

same_turn : {X : Type 0} (stops : Bool) (x : Reading X) (tokens : List PlacedToken) (f g : List PlacedToken → Reading (List X)) →
    ((y : X × List PlacedToken) → x ≡ Ok y → f y.1 ≡ g y.1) →
    (if stops then Ok ([], tokens) else x >>= λ y. with_first y.0 (f y.1)) ≡ (if stops then Ok ([], tokens) else x >>= λ y. with_first y.0 (g y.1))
same_turn true x tokens f g alike = refl
same_turn false (Ok y) tokens f g alike = ap (with_first y.0) (alike y refl)
same_turn false (Err r) tokens f g alike = refl

-- how many may come doesn't count where there are more than tokens
many_enough : {X : Type 0} (stops : List PlacedToken → Bool) (one : List PlacedToken → Reading X) → Shortens one →
    (n m : ℕ) (tokens : List PlacedToken) → length tokens < n → length tokens < m →
    many_at stops one n tokens ≡ many_at stops one m tokens
many_enough stops one shorter zero m tokens lt lt' = absurd (omega arith)
many_enough stops one shorter (suc n) zero tokens lt lt' = absurd (omega arith)
many_enough stops one shorter (suc n) (suc m) tokens lt lt' =
    same_turn (stops tokens) (one tokens) tokens (many_at stops one n) (many_at stops one m)
    (λ y is. let less = shorter tokens y is in many_enough stops one shorter n m y.1 (omega (arith, less, lt)) (omega (arith, less, lt')))

-- one turn
turn : {X : Type 0} (stops : List PlacedToken → Bool) (one : List PlacedToken → Reading X) → Shortens one → (tokens : List PlacedToken) →
    all_at stops one tokens
    ≡ (if stops tokens then Ok ([], tokens) else one tokens >>= λ y. with_first y.0 (all_at stops one y.1))
turn stops one shorter tokens =
    same_turn (stops tokens) (one tokens) tokens (many_at stops one (length tokens)) (all_at stops one)
    (λ y is. let less = shorter tokens y is in
    many_enough stops one shorter (length tokens) (suc (length y.1)) y.1 less (omega arith))

-- what was read before, and what is still read
abbrev pub with_front : {X : Type 0} → List X → Reading (List X) → Reading (List X)
with_front front read = read >>= λ x. Ok (front ++ x.0, x.1)

regroup : {X : Type 0} (front : List X) (x : X) (read : Reading (List X)) →
    with_front front (with_first x read) ≡ with_front (front ++ x ∷ []) read
regroup {X} front x (Ok xs) = ap (λ (ys : List X). Ok (ys, xs.1)) (simp append_assoc)
regroup front x (Err r) = refl

pub goes_on : {X : Type 0} (stops : List PlacedToken → Bool) (one : List PlacedToken → Reading X) → Shortens one →
    (front after : List X) (tokens rest : List PlacedToken) (x : X) (total : Reading (List X)) →
    after ≡ front ++ x ∷ [] → stops tokens ≡ false → one tokens ≡ Ok (x, rest) →
    with_front front (all_at stops one tokens) ≡ total → with_front after (all_at stops one rest) ≡ total
goes_on stops one shorter front after tokens rest x total pushed open_ is so_far =
    let step : with_front front (all_at stops one tokens) ≡ with_front front (with_first x (all_at stops one rest)) =
    ap (with_front front) (turn stops one shorter tokens ∙ rw (open_, is) refl) in
    ap (λ f. with_front f (all_at stops one rest)) pushed
    ∙ sym (regroup front x (all_at stops one rest)) ∙ sym step ∙ so_far

pub ends : {X : Type 0} (stops : List PlacedToken → Bool) (one : List PlacedToken → Reading X) → Shortens one →
    (e : Stop) (front : List X) (tokens : List PlacedToken) (total : Reading (List X)) →
    stops tokens ≡ false → Fails e (one tokens) → with_front front (all_at stops one tokens) ≡ total → Fails e total
ends stops one shorter stop.OutOfMemory front tokens total open_ is so_far = tt
ends {X} stops one shorter (stop.Refused r) front tokens total open_ is so_far =
    let step : all_at stops one tokens ≡ Err r = turn stops one shorter tokens ∙ rw (open_, is) refl in
    sym so_far ∙ ap (with_front front) step

pub is_done : {X : Type 0} (stops : List PlacedToken → Bool) (one : List PlacedToken → Reading X) (front : List X) (tokens : List PlacedToken) (total : Reading (List X)) →
    stops tokens ≡ true → with_front front (all_at stops one tokens) ≡ total → total ≡ Ok (front, tokens)
is_done {X} stops one front tokens total closed so_far =
    let step : with_front front (all_at stops one tokens) ≡ Ok (front, tokens) =
    rw closed (ap (λ (xs : List X). Ok (xs, tokens)) (append-nil front)) in
    sym so_far ∙ step

-- before the first turn, behind a mark
pub begins : {A X : Type 0} (first : List PlacedToken → Reading A) (next : List PlacedToken → Reading (List X)) (front : List X) (tokens rest : List PlacedToken) (a : A) →
    front ≡ [] → first tokens ≡ Ok (a, rest) → with_front front (next rest) ≡ (first tokens >>= λ a. next a.1)
begins {A} {X} first next front tokens rest a none is =
    ap (λ f. with_front f (next rest)) none ∙ alone (next rest) ∙ sym (ap (λ r. r >>= λ a. next a.1) is)
  where
    alone : (read : Reading (List X)) → with_front [] read ≡ read
    alone (Ok xs) = refl
    alone (Err r) = refl

-- before the first turn, behind the first one
pub begins_behind : {X : Type 0} (first : List PlacedToken → Reading X) (next : List PlacedToken → Reading (List X)) (front : List X) (tokens rest : List PlacedToken) (x : X) →
    front ≡ x ∷ [] → first tokens ≡ Ok (x, rest) → with_front front (next rest) ≡ (first tokens >>= λ x. with_first x.0 (next x.1))
begins_behind {X} first next front tokens rest x only is =
    ap (λ f. with_front f (next rest)) only ∙ alone (next rest) ∙ sym (ap (λ r. r >>= λ x. with_first x.0 (next x.1)) is)
  where
    alone : (read : Reading (List X)) → with_front (x ∷ []) read ≡ with_first x read
    alone (Ok xs) = refl
    alone (Err r) = refl
