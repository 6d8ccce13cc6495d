-- Bytes that are laid over a buffer, one run behind another.
use Rattle.std.proofs.Common.{◌≡◌, ℕ, zero, suc, ◌+◌, ◌-◌, ◌<◌, ◌≤◌, List, [], ◌∷◌, ◌++◌, length, sym, ap, ◌∙◌, add-one, arith, drop, take, append_assoc, flat_map, length-append, get_or}
use Rattle.std.proofs.lemmas.List.{append-nil, drop-drop, length-drop}
use Rattle.regions.specs.Memory.{overlaid}

-- past a first byte all is laid as without it
overlaid-cons : (b : ℕ) (before : List ℕ) (at : ℕ) (patch : List ℕ) → overlaid (b ∷ before) (suc at) patch ≡ b ∷ overlaid before at patch
overlaid-cons b before at patch =
    let more : suc at + length patch ≡ suc (at + length patch) = omega arith in
    ap (λ n. b ∷ (take at before ++ (patch ++ drop n (b ∷ before)))) more

over-rest : (done patch rest : List ℕ) → overlaid (done ++ rest) (length done) patch ≡ (done ++ patch) ++ drop (length patch) rest
over-rest [] patch rest = let none : 0 + length patch ≡ length patch = omega arith in ap (λ n. patch ++ drop n rest) none
over-rest (d ∷ done) patch rest = overlaid-cons d (done ++ rest) (length done) patch ∙ ap (λ xs. d ∷ xs) (over-rest done patch rest)

-- what is laid behind what was laid over a buffer's beginning
pub laid-behind : (done patch before : List ℕ)
    → overlaid (done ++ drop (length done) before) (length done) patch ≡ (done ++ patch) ++ drop (length (done ++ patch)) before
laid-behind done patch before =
    over-rest done patch (drop (length done) before)
    ∙ ap (λ xs. (done ++ patch) ++ xs) (drop-drop (length patch) (length done) before ∙ ap (λ n. drop n before) (sym (length-append done patch)))

-- a run is laid in two parts
pub laid-twice : (before : List ℕ) (at : ℕ) (one two : List ℕ) → at + length one ≤ length before
    → overlaid (overlaid before at one) (at + length one) two ≡ overlaid before at (one ++ two)
laid-twice before zero one two fits =
    let none : 0 + length one ≡ length one = omega arith in
    let both : 0 + length (one ++ two) ≡ length (one ++ two) = omega arith in
    ap (λ n. overlaid (one ++ drop n before) n two) none ∙ (laid-behind one two before ∙ ap (λ n. (one ++ two) ++ drop n before) (sym both))
laid-twice [] (suc at) one two fits = absurd (omega (arith, fits))
laid-twice (b ∷ before) (suc at) one two fits =
    let rest : at + length one ≤ length before = omega (arith, fits) in
    let more : suc at + length one ≡ suc (at + length one) = omega arith in
    ap (λ xs. overlaid xs (suc at + length one) two) (overlaid-cons b before at one)
    ∙ (ap (λ n. overlaid (b ∷ overlaid before at one) n two) more ∙ (overlaid-cons b (overlaid before at one) (at + length one) two
    ∙ (ap (λ xs. b ∷ xs) (laid-twice before at one two rest) ∙ sym (overlaid-cons b before at (one ++ two)))))

-- a run is laid in two parts, which are known by their meanings
pub laid-in_two : (before mid after one record-bytes two written : List ℕ) (at : ℕ) → one ≡ record-bytes → two ≡ written → length record-bytes ≡ 64
    → at + 64 ≤ length before → mid ≡ overlaid before at one → after ≡ overlaid mid (at + 64) two → after ≡ overlaid before at (record-bytes ++ written)
laid-in_two before mid after one record-bytes two written at one-is two-is long fits first second =
    let room : at + length record-bytes ≤ length before = omega (arith, long, fits) in
    second ∙ (ap (λ xs. overlaid xs (at + 64) two) (first ∙ ap (λ xs. overlaid before at xs) one-is)
    ∙ (ap (λ xs. overlaid (overlaid before at record-bytes) (at + 64) xs) two-is
    ∙ (ap (λ n. overlaid (overlaid before at record-bytes) (at + n) written) (sym long) ∙ laid-twice before at record-bytes written room)))

next-run : {A : Type 0} (f : A → List ℕ) (items : List A) (i : ℕ) (item : A) → i < length items → item ≡ get_or items i item
    → flat_map f (take (suc i) items) ≡ flat_map f (take i items) ++ f item
next-run f [] i item there is = absurd (omega (arith, there))
next-run f (x ∷ xs) zero item there is = append-nil (f x) ∙ ap f (sym is)
next-run f (x ∷ xs) (suc i) item there is =
    let less : i < length xs = omega (arith, there) in
    ap (λ ys. f x ++ ys) (next-run f xs i item less is) ∙ sym (append_assoc (f x) (flat_map f (take i xs)) (f item))

-- the runs of one item more
run-more : {A : Type 0} (f : A → List ℕ) (items : List A) (i : ℕ) (item : A) → i < length items → item ≡ get_or items i item
    → flat_map f (take (i + 1) items) ≡ flat_map f (take i items) ++ f item
run-more f items i item there is = rw add-one (next-run f items i item there is)

-- the runs of the first items are no longer than those of all
first-runs : {A : Type 0} (f : A → List ℕ) (n : ℕ) (items : List A) → length (flat_map f (take n items)) ≤ length (flat_map f items)
first-runs f zero [] = omega arith
first-runs f zero (x ∷ xs) = omega arith
first-runs f (suc n) [] = omega arith
first-runs f (suc n) (x ∷ xs) =
    omega (arith, first-runs f n xs, length-append (f x) (flat_map f (take n xs)), length-append (f x) (flat_map f xs))

-- there is room for the next run
pub run-fits : {A : Type 0} (f : A → List ℕ) (items : List A) (i : ℕ) (item : A) (before out : List ℕ) (at : ℕ) → i < length items
    → item ≡ get_or items i item → length (flat_map f items) ≤ length before → at ≡ length (flat_map f (take i items))
    → out ≡ flat_map f (take i items) ++ drop (length (flat_map f (take i items))) before → at + length (f item) ≤ length out
run-fits f items i item before out at there is fits at-is out-is =
    let long : length out ≡ length (flat_map f (take i items)) + (length before - length (flat_map f (take i items))) =
    ap length out-is ∙ (length-append (flat_map f (take i items)) (drop (length (flat_map f (take i items))) before)
    ∙ ap (λ n. length (flat_map f (take i items)) + n) (length-drop (length (flat_map f (take i items))) before)) in
    let run : length (flat_map f (take (i + 1) items)) ≡ length (flat_map f (take i items)) + length (f item) =
    ap length (run-more f items i item there is) ∙ length-append (flat_map f (take i items)) (f item) in
    omega (arith, long, run, first-runs f (i + 1) items, at-is, fits)

-- where the next run is laid behind those before it
pub run-laid : {A : Type 0} (f : A → List ℕ) (items : List A) (i : ℕ) (item : A) (before out : List ℕ) (at : ℕ) (out-now : List ℕ) (at-now : ℕ)
    → i < length items → item ≡ get_or items i item → at ≡ length (flat_map f (take i items))
    → out ≡ flat_map f (take i items) ++ drop (length (flat_map f (take i items))) before → at-now ≡ at + length (f item) → out-now ≡ overlaid out at (f item)
    → (at-now ≡ length (flat_map f (take (i + 1) items)))
    × (out-now ≡ flat_map f (take (i + 1) items) ++ drop (length (flat_map f (take (i + 1) items))) before)
run-laid f items i item before out at out-now at-now there is at-is out-is next laid =
    let more = run-more f items i item there is in (
      next ∙ (ap (λ n. n + length (f item)) at-is ∙ (sym (length-append (flat_map f (take i items)) (f item)) ∙ ap length (sym more))),
      laid ∙ (ap (λ xs. overlaid xs at (f item)) out-is
          ∙ (ap (λ n. overlaid (flat_map f (take i items) ++ drop (length (flat_map f (take i items))) before) n (f item)) at-is
          ∙ (laid-behind (flat_map f (take i items)) (f item) before ∙ ap (λ xs. xs ++ drop (length xs) before) (sym more)))),
    )
