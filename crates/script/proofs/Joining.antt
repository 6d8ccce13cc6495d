-- Lines give their text back.
use Rattle.std.proofs.Common.{◌≡◌, ℕ, suc, ◌+◌, ◌*◌, ◌^◌, Bool, true, false, cond, not, List, [], ◌∷◌, ◌++◌, length, Option, Some, None, refl, sym, ap, ◌∙◌, inl, inr, ◌⊎◌, eqb, append_assoc, append-nil, arith}
use Rattle.std.proofs.lemmas.List.{length-map}
use Rattle.std.specs.Prelude.{◌==◌, ◌&&◌, nat_lt, option_and_then, unwrap_or, if◌then◌else◌}
use Rattle.std.specs.List.{list_all}
use Rattle.std.proofs.lemmas.Bool.Decides.{nat_tests, eqb_tells}
use Rattle.std.proofs.lemmas.List.Folds.{list_all-append}
use Rattle.std.proofs.Math.Nat.{add-mul, mul_assoc, mul-one, pow-succ', pow-zero}
use Rattle.words.specs.Lines.{nonempty_before}
use Rattle.words.specs.Numbers.{digit_of, with_digit, number_from, decimal_word, address_word}
use Rattle.script.specs.Runs.{lines_from, lines_of}
use Rattle.script.specs.Splitting.{ends_line, ended, joined, is_line}
use Rattle.words.specs.Numbers.{digits_of, sum_of_digits}
use Rattle.script.proofs.Running.{lines_end, lines_feed, lines_byte}

-- ---- lines

-- what a last line without a line feed lacks, of bytes that come behind the begin of a line
lacks : List ℕ → List ℕ → List ℕ
lacks [] [] = []
lacks (first ∷ line) [] = 10 ∷ []
lacks line (byte ∷ bytes) = if byte == 10 then lacks [] bytes else lacks (line ++ byte ∷ []) bytes

joined_kept : (line : List ℕ) → joined (nonempty_before line []) ≡ (line ++ []) ++ lacks line []
unfolding lacks
joined_kept [] = refl
joined_kept (first ∷ line) = append-nil ((first ∷ line) ++ 10 ∷ []) ∙ ap (λ front. front ++ 10 ∷ []) (sym (append-nil (first ∷ line)))

joined_at : (line : List ℕ) (byte : ℕ) (bytes : List ℕ) → ((eqb byte 10 ≡ true) × (byte ≡ 10)) ⊎ ((eqb byte 10 ≡ false) × (byte ≡ 10 → ⊥)) →
    joined (lines_from [] bytes) ≡ ([] ++ bytes) ++ lacks [] bytes →
    joined (lines_from (line ++ byte ∷ []) bytes) ≡ ((line ++ byte ∷ []) ++ bytes) ++ lacks (line ++ byte ∷ []) bytes →
    joined (lines_from line (byte ∷ bytes)) ≡ (line ++ byte ∷ bytes) ++ lacks line (byte ∷ bytes)
unfolding lacks
joined_at line byte bytes (inl feed) none more =
    ap joined (lines_feed line byte bytes feed.1)
    ∙ ap (λ rest. (line ++ 10 ∷ []) ++ rest) none
    ∙ append_assoc line (10 ∷ []) (bytes ++ lacks [] bytes)
    ∙ ap (λ b. line ++ b ∷ (bytes ++ lacks [] bytes)) (sym feed.1)
    ∙ sym (append_assoc line (byte ∷ bytes) (lacks [] bytes))
    ∙ ap (λ b. (line ++ byte ∷ bytes) ++ cond b (lacks [] bytes) (lacks (line ++ byte ∷ []) bytes)) (sym feed.0)
joined_at line byte bytes (inr other) none more =
    ap joined (lines_byte line byte bytes other.1) ∙ more
    ∙ ap (λ front. front ++ lacks (line ++ byte ∷ []) bytes) (append_assoc line (byte ∷ []) bytes)
    ∙ ap (λ b. (line ++ byte ∷ bytes) ++ cond b (lacks [] bytes) (lacks (line ++ byte ∷ []) bytes)) (sym other.0)

joined_from : (line bytes : List ℕ) → joined (lines_from line bytes) ≡ (line ++ bytes) ++ lacks line bytes
joined_from line [] = ap joined (lines_end line) ∙ joined_kept line
joined_from line (byte ∷ bytes) = joined_at line byte bytes (eqb_tells byte 10) (joined_from [] bytes) (joined_from (line ++ byte ∷ []) bytes)

lacks_begun : (line : List ℕ) (byte : ℕ) → lacks (line ++ byte ∷ []) [] ≡ 10 ∷ []
unfolding lacks
lacks_begun [] byte = refl
lacks_begun (first ∷ line) byte = refl

lacks_one : (line : List ℕ) (byte : ℕ) → lacks line (byte ∷ []) ≡ cond (byte == 10) [] (10 ∷ [])
unfolding lacks
lacks_one line byte = ap (λ other. cond (byte == 10) [] other) (lacks_begun line byte)

same_either : (b : Bool) (x y z : List ℕ) → x ≡ z → y ≡ z → cond b x y ≡ z
same_either true x y z e f = e
same_either false x y z e f = f

lacks_ends : (line : List ℕ) (byte : ℕ) (bytes : List ℕ) → lacks line (byte ∷ bytes) ≡ cond (ends_line (byte ∷ bytes)) [] (10 ∷ [])
unfolding lacks
lacks_ends line byte [] = lacks_one line byte
lacks_ends line byte (next ∷ bytes) =
    same_either (byte == 10) (lacks [] (next ∷ bytes)) (lacks (line ++ byte ∷ []) (next ∷ bytes)) (cond (ends_line (next ∷ bytes)) [] (10 ∷ []))
    (lacks_ends [] next bytes) (lacks_ends (line ++ byte ∷ []) next bytes)

pub lines_give_back : (text : List ℕ) → joined (lines_of text) ≡ ended text
unfolding lacks
lines_give_back [] = joined_from [] []
lines_give_back (byte ∷ bytes) = joined_from [] (byte ∷ bytes) ∙ ap (λ rest. (byte ∷ bytes) ++ rest) (lacks_ends [] byte bytes)

is_line_more : (line : List ℕ) (byte : ℕ) → is_line line ≡ true → (byte ≡ 10 → ⊥) → is_line (line ++ byte ∷ []) ≡ true
is_line_more line byte h other =
    let e : (byte == 10) ≡ false = grind (arith, nat_tests) in
    list_all-append (λ b. not (b == 10)) line (byte ∷ []) ∙ rw (h, e) refl

kept_lines : (line : List ℕ) → is_line line ≡ true → list_all is_line (nonempty_before line []) ≡ true
kept_lines [] h = refl
kept_lines (first ∷ line) h = rw h refl

lines_from_lines : (line bytes : List ℕ) → is_line line ≡ true → list_all is_line (lines_from line bytes) ≡ true
lines_from_lines line [] h = ap (list_all is_line) (lines_end line) ∙ kept_lines line h
lines_from_lines line (byte ∷ bytes) h =
    elim (eqb_tells byte 10) [
      | inl feed ↦ ap (list_all is_line) (lines_feed line byte bytes feed.1) ∙ ap (λ b. b && list_all is_line (lines_from [] bytes)) h ∙ lines_from_lines [] bytes refl
      | inr other ↦ ap (list_all is_line) (lines_byte line byte bytes other.1) ∙ lines_from_lines (line ++ byte ∷ []) bytes (is_line_more line byte h other.1)
    ]

pub lines_are_lines : (text : List ℕ) → list_all is_line (lines_of text) ≡ true
lines_are_lines text = lines_from_lines [] text refl
