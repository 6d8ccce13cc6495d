-- Records that are told one after another.
use Rattle.std.proofs.Common.{◌≡◌, ℕ, zero, suc, ◌+◌, ◌<◌, List, [], ◌∷◌, ◌++◌, length, refl, ap, ◌∙◌, add-one, arith, drop, map, take, slice_index_or, slice_set}

-- the next record is put after those before it
next-set : {A T : Type 0} (told : A → T) (items : List A) (before : List T) (i : ℕ) (other : A) → i < length items → i < length before
    → slice_set (map told (take i items) ++ drop i before) i (told (slice_index_or items i other)) ≡ map told (take (suc i) items) ++ drop (suc i) before
next-set told [] before i other there room = absurd (omega (arith, there))
next-set told (x ∷ xs) [] i other there room = absurd (omega (arith, room))
next-set told (x ∷ xs) (b ∷ bs) zero other there room = refl
next-set told (x ∷ xs) (b ∷ bs) (suc i) other there room =
    let less : i < length xs = omega (arith, there) in let fits : i < length bs = omega (arith, room) in
    ap (λ ys. told x ∷ ys) (next-set told xs bs i other less fits)

pub record-put : {A T : Type 0} (told : A → T) (items : List A) (before out : List T) (i : ℕ) (other : A) (record-now : T)
    → out ≡ map told (take i items) ++ drop i before → record-now ≡ told (slice_index_or items i other) → i < length items → i < length before
    → slice_set out i record-now ≡ map told (take (i + 1) items) ++ drop (i + 1) before
record-put told items before out i other record-now so-far is there room =
    ap (λ v. slice_set out i v) is ∙ ap (λ xs. slice_set xs i (told (slice_index_or items i other))) so-far
    ∙ (rw add-one (next-set told items before i other there room))
