-- Fronts of bytes: runs of bytes that pass a test, the end of a comment, and spellings.
use Rattle.std.proofs.Common.{◌≡◌, ℕ, ◌+◌, ◌≤◌, inl, inr, ⊎_elim, List, [], ◌∷◌, ◌++◌, length, Bool, true, false, ◌&&◌, ◌==◌, Some, refl, sym, ap, subst, ◌∙◌, arith}
use Rattle.std.proofs.lemmas.Bool.{cases_Bool}
use Rattle.std.proofs.lemmas.Bool.Decides.{eqb_tells}
use Rattle.std.specs.List.{prefix_len}
use Rattle.hsail_reader.specs.Bytes.{behind, closing_at}
use Rattle.hsail_reader.specs.Spelling.{AllPass, IsClosed, first_passes}
use Rattle.hsail_reader.proofs.Options.{nothing, true_is_not_false}

pub heads : (x y : ℕ) (xs ys : List ℕ) → x ∷ xs ≡ y ∷ ys → x ≡ y
heads x y xs ys e = cc

pub tails : (x y : ℕ) (xs ys : List ℕ) → x ∷ xs ≡ y ∷ ys → xs ≡ ys
tails x y xs ys e = cc

-- a list of length 0 is empty
pub no_more : (xs : List ℕ) → length xs ≡ 0 → xs ≡ []
no_more [] e = refl
no_more (x ∷ xs) e = absurd (omega (arith, e))

-- a byte that passes a test is none that doesn't
pub differs : (test : ℕ → Bool) (b c : ℕ) → test b ≡ true → test c ≡ false → (b == c) ≡ false
differs test b c passes fails =
    ⊎_elim (λ w. true_is_not_false (test b) passes (ap test w.1 ∙ fails)) (λ w. w.0) (eqb_tells b c)

-- some bytes are a run of those that pass, and bytes of which the first doesn't
abbrev Run : (ℕ → Bool) → List ℕ → Type 0
Run test bytes =
    (run : List ℕ) × (rest : List ℕ) × (bytes ≡ run ++ rest) × AllPass test run × (first_passes test rest ≡ false)

pub run_of : (test : ℕ → Bool) (bytes : List ℕ) → Run test bytes
run_of test [] = ([], [], refl, tt, refl)
run_of test (b ∷ bytes) =
    ⊎_elim
    (λ yes'. let r = run_of test bytes in (b ∷ r.0, r.1, ap (λ xs. b ∷ xs) r.2, (yes', r.3), r.4))
    (λ no'. ([], b ∷ bytes, refl, tt, no'))
    (cases_Bool (test b))

-- bytes that pass, before bytes that pass
pub pass_append : (test : ℕ → Bool) (xs ys : List ℕ) → AllPass test xs → AllPass test ys → AllPass test (xs ++ ys)
pass_append test [] ys p q = q
pass_append test (x ∷ xs) ys p q = (p.0, pass_append test xs ys p.1 q)

-- a byte among some that pass passes
pub pass_inside : (test : ℕ → Bool) (xs ys : List ℕ) (b : ℕ) → AllPass test (xs ++ b ∷ ys) → test b ≡ true
pass_inside test [] ys b p = p.0
pass_inside test (x ∷ xs) ys b p = pass_inside test xs ys b p.1

-- the run is as long as is counted
pub run_length : (test : ℕ → Bool) (run rest : List ℕ) → AllPass test run → first_passes test rest ≡ false →
    prefix_len test (run ++ rest) ≡ length run
run_length test [] [] pass ends = refl
run_length test [] (b ∷ rest) pass ends = rw ends refl
run_length test (b ∷ run) rest pass ends =
    let later = run_length test run rest pass.1 ends in rw pass.0 (omega (arith, later))

-- of two fronts of the same bytes the longer has the shorter as its front
pub front_of : (text more whole rest : List ℕ) → text ++ more ≡ whole ++ rest → length text ≤ length whole →
    (extra : List ℕ) × (whole ≡ text ++ extra) × (more ≡ extra ++ rest)
front_of [] more whole rest e long = (whole, refl, e)
front_of (t ∷ text) more [] rest e long = absurd (omega (arith, long))
front_of (t ∷ text) more (w ∷ whole) rest e long =
    let r = front_of text more whole rest (tails t w (text ++ more) (whole ++ rest) e) (omega (arith, long)) in
    (r.0, ap (λ x. x ∷ whole) (sym (heads t w (text ++ more) (whole ++ rest) e)) ∙ ap (λ xs. t ∷ xs) r.1, r.2)

-- a comment's end is found
pub closing_is_read : (before : ℕ) (inside more : List ℕ) → IsClosed inside →
    closing_at before (inside ++ more) ≡ Some (before + length inside)
closing_is_read before [] more closed = absurd closed
closing_is_read before (b ∷ inside) more (inl e) =
    subst (λ xs. closing_at before (xs ++ more) ≡ Some (before + length xs)) (sym e) refl
closing_is_read before (b ∷ []) more (inr w) = absurd w.1
closing_is_read before (b ∷ c ∷ inside) more (inr w) =
    let count : before + 1 + length (c ∷ inside) ≡ before + length (b ∷ c ∷ inside) = omega arith in
    rw w.0 (closing_is_read (before + 1) (c ∷ inside) more w.1 ∙ ap (λ n. Some n) count)

closes : (b : ℕ) (bytes : List ℕ) → (b == 42 && first_passes (λ c. c == 47) bytes) ≡ true →
    (rest : List ℕ) × (b ∷ bytes ≡ 42 ∷ 47 ∷ rest)
closes b [] e =
    ⊎_elim (λ w. true_is_not_false false (rw w.0 at e) refl) (λ w. true_is_not_false false (rw w.0 at e) refl) (eqb_tells b 42)
closes b (c ∷ bytes) e =
    ⊎_elim
    (λ w. ⊎_elim
    (λ v. (bytes, ap (λ x. x ∷ c ∷ bytes) w.1 ∙ ap (λ x. 42 ∷ x ∷ bytes) v.1))
    (λ v. true_is_not_false false (rw (w.0, v.0) at e) refl)
    (eqb_tells c 47))
    (λ w. true_is_not_false false (rw w.0 at e) refl)
    (eqb_tells b 42)

closed_begins : (text more : List ℕ) → IsClosed text →
    first_passes (λ c. c == 47) (text ++ more) ≡ first_passes (λ c. c == 47) text
closed_begins [] more closed = absurd closed
closed_begins (b ∷ text) more closed = refl

-- the end that is found closes a comment
pub closing_is_spelled : (before : ℕ) (bytes : List ℕ) (n : ℕ) → closing_at before bytes ≡ Some n →
    (text : List ℕ) × (more : List ℕ) × (bytes ≡ text ++ more) × IsClosed text
closing_is_spelled before [] n is = nothing n is
closing_is_spelled before (b ∷ bytes) n is =
    ⊎_elim
    (λ yes'. let c = closes b bytes yes' in (42 ∷ 47 ∷ [], c.0, c.1, inl refl))
    (λ no'. let r = closing_is_spelled (before + 1) bytes n (rw no' at is) in
    let begins = ap (first_passes (λ c. c == 47)) r.2 ∙ closed_begins r.0 r.1 r.3 in
    let open' : (b == 42 && first_passes (λ c. c == 47) r.0) ≡ false = sym (ap (λ x. b == 42 && x) begins) ∙ no' in
    (b ∷ r.0, r.1, ap (λ xs. b ∷ xs) r.2, inr (open', r.3)))
    (cases_Bool (b == 42 && first_passes (λ c. c == 47) bytes))

-- behind a front stands what was put there
pub behind_front : (front rest : List ℕ) → behind front (front ++ rest) ≡ Some rest
behind_front [] rest = refl
behind_front (f ∷ front) rest =
    ⊎_elim (λ w. rw w.0 (behind_front front rest)) (λ w. absurd (w.1 refl)) (eqb_tells f f)

-- what stands behind a front is behind it
pub behind_parts : (front bytes rest : List ℕ) → behind front bytes ≡ Some rest → bytes ≡ front ++ rest
behind_parts [] bytes rest is = cc
behind_parts (f ∷ front) [] rest is = nothing rest is
behind_parts (f ∷ front) (b ∷ bytes) rest is =
    ⊎_elim
    (λ w. let later : behind front bytes ≡ Some rest = rw w.0 at is in
    ap (λ x. x ∷ bytes) w.1 ∙ ap (λ xs. f ∷ xs) (behind_parts front bytes rest later))
    (λ w. nothing rest (rw w.0 at is))
    (eqb_tells b f)
