-- The pieces of a word, one at a time.
use Rattle.std.proofs.Common.{◌≡◌, ℕ, zero, suc, ◌+◌, ◌-◌, ◌<◌, List, [], ◌∷◌, drop, refl, arith, ap, subst, ◌∙◌, ◌==◌, if◌then◌else◌}
use Rattle.std.proofs.lemmas.List.Sums.{prefix_len-le-length}
use Rattle.std.proofs.Math.Dec.{eqb-zero-suc}
use Rattle.hsail_reader.specs.Lexemes.{pieces_length, piece_length}

-- to go on after k bytes is to go on there
pub pieces_length_drop : (k before : ℕ) (bytes : List ℕ) →
    pieces_length k before bytes ≡ pieces_length 0 before (drop k bytes)
pieces_length_drop zero before bytes = refl
pieces_length_drop (suc k) before [] = refl
pieces_length_drop (suc k) before (b ∷ bytes) = pieces_length_drop k before bytes

-- a piece that isn't empty is passed
pub pieces_length_step : (before step : ℕ) (bytes : List ℕ) → step ≡ piece_length bytes → 0 < step →
    pieces_length 0 before bytes ≡ pieces_length 0 (before + step) (drop step bytes)
pieces_length_step before zero bytes is some = absurd (omega arith)
pieces_length_step before (suc k) [] is some = absurd (omega arith)
pieces_length_step before (suc k) (b ∷ bytes) is some =
    let P : ℕ → Type 0 = λ p.
    (if 0 == p then before else pieces_length (p - 1) (before + p) bytes)
    ≡ pieces_length 0 (before + suc k) (drop k bytes) in
    let one : suc k - 1 ≡ k = omega arith in
    subst P is (rw (eqb-zero-suc k) (ap (λ n. pieces_length n (before + suc k) bytes) one
    ∙ pieces_length_drop k (before + suc k) bytes))

pub ruleset prefix_bound = (prefix_len-le-length)
