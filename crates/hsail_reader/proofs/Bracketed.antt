-- align(n) is read where it is spelled, and just that is.
use Rattle.std.proofs.Common.{◌≡◌, ℕ, ◌+◌, List, ◌∷◌, ◌++◌, length, drop, Option, Some, sym, ap, subst, ◌∙◌, codes, append_assoc, arith}
use Rattle.std.proofs.Math.Seq.{drop-append_seam}
use Rattle.hsail_reader.specs.Bytes.{align_at, behind, numeral_at, spelled, ◌>>=◌}
use Rattle.hsail_reader.specs.WordSpelling.{SpellsNumber}
use Rattle.hsail_reader.specs.Nouns.{Prefix}
use Rattle.hsail_reader.proofs.Numbers.{number_before_bracket_is_read, number_is_spelled}
use Rattle.hsail_reader.proofs.Options.{bound, same_some}
use Rattle.hsail_reader.proofs.Runs.{behind_front, behind_parts}

-- what stands before a bracket that is found, and behind it
pub closed : (inside text more rest : List ℕ) (n : ℕ) → inside ≡ text ++ more → length text ≡ n →
    behind (codes ")") (drop n inside) ≡ Some rest → inside ≡ (text ++ codes ")") ++ rest
closed inside text more rest n parts counts is =
    let there : drop n inside ≡ more =
    ap (drop n) parts ∙ ap (λ k. drop k (text ++ more)) (sym counts) ∙ drop-append_seam text more in
    parts ∙ ap (λ xs. text ++ xs) (sym there ∙ behind_parts (codes ")") (drop n inside) rest is)
    ∙ sym (append_assoc text (codes ")") rest)

abbrev close_at : List ℕ → Prefix ℕ → Option (Prefix ℕ)
close_at inside n = behind (codes ")") (drop n.length inside) >>= λ rest. Some (spelled n.value (n.length + 7))

pub align_is_read : (n : ℕ) (inside rest : List ℕ) → SpellsNumber n inside →
    align_at (codes "align(" ++ ((inside ++ codes ")") ++ rest)) ≡ Some (spelled n (length inside + 7))
align_is_read n inside rest s =
    ap (λ o. o >>= λ bytes. numeral_at bytes >>= close_at bytes) (behind_front (codes "align(") ((inside ++ codes ")") ++ rest))
    ∙ ap (λ bytes. numeral_at bytes >>= close_at bytes) (append_assoc inside (codes ")") rest)
    ∙ ap (λ o. o >>= close_at (inside ++ 41 ∷ rest)) (number_before_bracket_is_read n inside rest s)
    ∙ ap (λ o. behind (codes ")") o >>= λ (r : List ℕ). Some (spelled n (length inside + 7))) (drop-append_seam inside (41 ∷ rest))

-- where align(n) is found
pub align_is_found : (bytes : List ℕ) (m : Prefix ℕ) → align_at bytes ≡ Some m →
    (inside : List ℕ) × (rest : List ℕ) × (bytes ≡ codes "align(" ++ ((inside ++ codes ")") ++ rest))
    × (m.length ≡ length inside + 7) × SpellsNumber m.value inside
align_is_found bytes m is =
    let p = bound (behind (codes "align(") bytes) (λ bytes. numeral_at bytes >>= close_at bytes) m is in
    let q = bound (numeral_at p.0) (close_at p.0) m p.2 in
    let r = bound (behind (codes ")") (drop q.0.length p.0)) (λ rest. Some (spelled q.0.value (q.0.length + 7))) m q.2 in
    let v = number_is_spelled p.0 q.0 q.1 in
    let same = same_some (spelled q.0.value (q.0.length + 7)) m r.2 in
    let long : q.0.length + 7 ≡ m.length = ap (λ (n : Prefix ℕ). n.length) same in (
      v.0,
      r.0,
      behind_parts (codes "align(") bytes p.0 p.1 ∙ ap (λ xs. codes "align(" ++ xs) (closed p.0 v.0 v.1 r.0 q.0.length v.2 v.3 r.1),
      omega (arith, long, v.3),
      subst (λ x. SpellsNumber x v.0) (ap (λ (n : Prefix ℕ). n.value) same) v.4,
    )
