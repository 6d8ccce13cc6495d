-- The modifiers of a word are read where they are spelled, and what is read as modifiers spells them; and so the
-- words of a row, with the modifiers and the type behind its stem.
use Rattle.std.proofs.Common.{◌≡◌, ℕ, ◌⊎◌, inl, inr, ⊎_elim, List, [], ◌∷◌, ◌++◌, Bool, true, false, ◌&&◌, ◌||◌, not, Option, Some, None, drop, refl, sym, ap, subst, ◌∙◌, codes, append_assoc}
use Rattle.std.proofs.lemmas.Bool.Decides.{eqb_tells}
use Rattle.std.proofs.Math.Seq.{drop-append_seam}
use Rattle.std.specs.Char.{is_digit}
use Rattle.std.specs.Option.{option_map}
use Rattle.hsail_reader.specs.Bytes.{behind, numeral_at, ◌>>=◌}
use Rattle.hsail_reader.specs.Rows.{InstructionRow, ModifierSpelling, allows, modifier_rows, type_name, with_number}
use Rattle.hsail_reader.specs.Spelling.{first_passes}
use Rattle.hsail_reader.specs.Words.{closed_at, ended_at, modifier_among, modifier_by, modifier_at, first_behind, second_behind, modifiers_at, opcode, opcode_behind, opcode_at, type_at}
use Rattle.hsail_reader.specs.WordSpelling.{SpellsEnd, SpellsModifier, SpellsModifiers, SpellsType, SpellsBehindStem}
use Rattle.hsail_reader.specs.Nouns.{DataType, Modifier, ModifierEnd, Modifiers, Opcode, TypeSet, B1, Untyped}
use Rattle.hsail_reader.specs.declared.rows.ModifierEnd.TheVariants as end
use Rattle.hsail_reader.specs.declared.types.Modifiers.TheVariants as modifiers
use Rattle.hsail_reader.proofs.Bracketed.{closed}
use Rattle.hsail_reader.proofs.Numbers.{first_digit, number_before_bracket_is_read, number_is_spelled}
use Rattle.hsail_reader.proofs.Options.{bound, chosen, mapped, nothing, not_false, same_some, true_is_not_false}
use Rattle.hsail_reader.proofs.Runs.{behind_front, behind_parts, differs}
use Rattle.hsail_reader.proofs.WordRows.{all_apart, clash, clash_not_behind, apart_is_read, first_is_found, type_is_read, type_is_found}

-- a text is a front up to a byte that is no digit
abbrev before_no_digit : List ℕ → List ℕ → Bool
before_no_digit [] text = false
before_no_digit (f ∷ front) [] = not (is_digit f 10)
before_no_digit (f ∷ front) (b ∷ text) = before_no_digit front text

-- so a number behind the text isn't the rest of the front
number_not_behind : (front text digits : List ℕ) → before_no_digit front text ≡ true →
    first_passes (λ d. is_digit d 10) digits ≡ true → behind front (text ++ digits) ≡ None
number_not_behind [] text digits e first = true_is_not_false false e refl
number_not_behind (f ∷ front) [] [] e first = refl
number_not_behind (f ∷ front) [] (d ∷ digits) e first =
    rw (differs (λ d. is_digit d 10) d f first (not_false (is_digit f 10) e)) refl
number_not_behind (f ∷ front) (b ∷ text) digits e first =
    ⊎_elim (λ w. rw w.0 (number_not_behind front text digits e first)) (λ w. rw w.0 refl) (eqb_tells b f)

abbrev is_numbered : ModifierEnd → Bool
is_numbered (end.Whole m) = false
is_numbered (end.Number k) = true

-- where a modifier of the second spelling stands, the text of the first doesn't
abbrev stands_apart : ModifierSpelling → ModifierSpelling → Bool
stands_apart z x = clash z.text x.text || (is_numbered x.end && before_no_digit z.text x.text)

one_holds : (p q : Bool) → (p || q) ≡ true → (p ≡ true) ⊎ (q ≡ true)
one_holds true q e = inl refl
one_holds false q e = inr e

apart_not_behind : (front text : List ℕ) (e : ModifierEnd) (m : Modifier) (rest more : List ℕ) → SpellsEnd e m rest →
    (clash front text || (is_numbered e && before_no_digit front text)) ≡ true → behind front (text ++ (rest ++ more)) ≡ None
apart_not_behind front text (end.Whole x) m rest more s apart =
    ⊎_elim (λ w. clash_not_behind front text (rest ++ more) w) (λ w. true_is_not_false false w refl)
    (one_holds (clash front text) false apart)
apart_not_behind front text (end.Number k) m rest more (n, number, e, s, is) apart =
    ⊎_elim (λ w. clash_not_behind front text (rest ++ more) w)
    (λ w. number_not_behind front text (rest ++ more) w
    (ap (λ xs. first_passes (λ d. is_digit d 10) (xs ++ more)) e
    ∙ ap (first_passes (λ d. is_digit d 10)) (append_assoc number (codes ")") more) ∙ first_digit n number more s))
    (one_holds (clash front text) (before_no_digit front text) apart)

-- what stands behind the text of a modifier's row is read
end_is_read : (e : ModifierEnd) (m : Modifier) (rest more : List ℕ) → SpellsEnd e m rest → ended_at e (rest ++ more) ≡ Some (m, more)
end_is_read (end.Whole x) m rest more (none, is) =
    ap (λ xs. ended_at (end.Whole x) (xs ++ more)) none ∙ ap (λ (y : Modifier). Some (y, more)) (sym is)
end_is_read (end.Number k) m rest more (n, number, e, s, is) =
    ap (λ xs. ended_at (end.Number k) (xs ++ more)) e ∙ ap (ended_at (end.Number k)) (append_assoc number (codes ")") more)
    ∙ ap (λ o. o >>= closed_at k (number ++ 41 ∷ more)) (number_before_bracket_is_read n number more s)
    ∙ ap (λ o. option_map (λ (after : List ℕ). (with_number k n, after)) (behind (codes ")") o)) (drop-append_seam number (41 ∷ more))
    ∙ ap (λ (y : Modifier). Some (y, more)) (sym is)

-- and what is read there is spelled
end_is_found : (e : ModifierEnd) (rest : List ℕ) (m : Modifier × List ℕ) → ended_at e rest ≡ Some m →
    (text : List ℕ) × (rest ≡ text ++ m.1) × SpellsEnd e m.0 text
end_is_found (end.Whole x) rest m is =
    let same = same_some (x, rest) m is in
    ([], ap (λ (p : Modifier × List ℕ). p.1) same, (refl, sym (ap (λ (p : Modifier × List ℕ). p.0) same)))
end_is_found (end.Number k) rest m is =
    let n = bound (numeral_at rest) (closed_at k rest) m is in
    let after = mapped (λ (after : List ℕ). (with_number k n.0.value, after)) (behind (codes ")") (drop n.0.length rest)) m n.2 in
    let same = same_some (with_number k n.0.value, after.0) m after.2 in
    let v = number_is_spelled rest n.0 n.1 in (
      v.0 ++ codes ")",
      closed rest v.0 v.1 after.0 n.0.length v.2 v.3 after.1
          ∙ ap (λ (p : Modifier × List ℕ). (v.0 ++ codes ")") ++ p.1) same,
      (n.0.value, v.0, refl, v.4, sym (ap (λ (p : Modifier × List ℕ). p.0) same)),
    )

module _ (spellings : List ModifierSpelling) where
  -- a modifier is read where one of these rows spells it, if the rows stand apart
  pub modifier_is_read : all_apart stands_apart spellings ≡ true → (m : Modifier) (text more : List ℕ) →
      SpellsModifier spellings m text → modifier_among spellings (text ++ more) ≡ Some (m, more)
  modifier_is_read apart m text more (row, rest, c, e, s) =
      ap (λ xs. modifier_among spellings (xs ++ more)) e ∙ ap (modifier_among spellings) (append_assoc row.text rest more)
      ∙ apart_is_read stands_apart modifier_by row (row.text ++ (rest ++ more)) (m, more)
      (λ z one. ap (λ o. o >>= ended_at z.end) (apart_not_behind z.text row.text row.end m rest more s one)) spellings apart c
      (ap (λ o. o >>= ended_at row.end) (behind_front row.text (rest ++ more)) ∙ end_is_read row.end m rest more s)

  -- what is read as a modifier spells it
  pub modifier_is_found : (bytes : List ℕ) (m : Modifier × List ℕ) → modifier_among spellings bytes ≡ Some m →
      (text : List ℕ) × (bytes ≡ text ++ m.1) × SpellsModifier spellings m.0 text
  modifier_is_found bytes m is =
      let f = first_is_found modifier_by spellings bytes m is in
      let b = bound (behind f.0.text bytes) (ended_at f.0.end) m f.2 in
      let e = end_is_found f.0.end b.0 m b.2 in (
        f.0.text ++ e.0,
        behind_parts f.0.text bytes b.0 b.1 ∙ ap (λ xs. f.0.text ++ xs) e.1 ∙ sym (append_assoc f.0.text e.0 m.1),
        (f.0, e.0, f.1, refl, e.2),
      )

-- modifiers are read in front of what is none
pub modifiers_are_read : (m : Modifiers) (text more : List ℕ) → SpellsModifiers m text → modifier_at more ≡ None →
    modifiers_at (text ++ more) ≡ (m, more)
modifiers_are_read modifiers.Plain text more e none =
    ap (λ xs. modifiers_at (xs ++ more)) e ∙ ap (λ o. first_behind o more) none
modifiers_are_read (modifiers.One m) text more s none =
    ap (λ o. first_behind o (text ++ more)) (modifier_is_read modifier_rows refl m text more s) ∙ ap (λ o. second_behind m o more) none
modifiers_are_read (modifiers.Two m n) text more (first, second, e, s, t) none =
    ap (λ xs. modifiers_at (xs ++ more)) e ∙ ap modifiers_at (append_assoc first second more)
    ∙ ap (λ o. first_behind o (first ++ (second ++ more))) (modifier_is_read modifier_rows refl m first (second ++ more) s)
    ∙ ap (λ o. second_behind m o (second ++ more)) (modifier_is_read modifier_rows refl n second more t)

-- the front that is taken for modifiers, and what stands behind them
abbrev ModifiersFound : List ℕ → Modifiers × List ℕ → Type 0
ModifiersFound bytes m = (text : List ℕ) × (bytes ≡ text ++ m.1) × SpellsModifiers m.0 text

second_is_found : (first rest : List ℕ) (m : Modifier) (o : Option (Modifier × List ℕ)) → SpellsModifier modifier_rows m first →
    modifier_at rest ≡ o → ModifiersFound (first ++ rest) (second_behind m o rest)
second_is_found first rest m None s is = (first, refl, s)
second_is_found first rest m (Some n) s is =
    let f = modifier_is_found modifier_rows rest n is in
    (first ++ f.0, ap (λ xs. first ++ xs) f.1 ∙ sym (append_assoc first f.0 n.1), (first, f.0, refl, s, f.2))

first_is_taken : (bytes : List ℕ) (o : Option (Modifier × List ℕ)) → modifier_at bytes ≡ o → ModifiersFound bytes (first_behind o bytes)
first_is_taken bytes None is = ([], refl, refl)
first_is_taken bytes (Some m) is =
    let f = modifier_is_found modifier_rows bytes m is in
    let g = second_is_found f.0 m.1 m.0 (modifier_at m.1) f.2 refl in (g.0, f.1 ∙ g.1, g.2)

-- what is taken for modifiers spells them
modifiers_are_found : (bytes : List ℕ) → ModifiersFound bytes (modifiers_at bytes)
modifiers_are_found bytes = first_is_taken bytes (modifier_at bytes) refl

-- no modifier stands where a type does
type_not_modifier : (set : TypeSet) (t : DataType) (text : List ℕ) → SpellsType set t text → modifier_at text ≡ None
type_not_modifier Untyped t text (e, is) = ap modifier_at e
type_not_modifier set t text (e, c) = ap modifier_at e ∙ named t
  where
    named : (t : DataType) → modifier_at (codes "_" ++ type_name t) ≡ None
    named B1 = refl
    named _ = refl

-- what stands behind the stem of a row is read
pub row_is_read : (row : InstructionRow) (code : Opcode) (text : List ℕ) → SpellsBehindStem row code text →
    opcode_at row text ≡ Some code
row_is_read row code text (words, type, e, spelled, allowed, typed, same, placed) =
    ap (opcode_at row) e
    ∙ ap (opcode_behind row)
    (modifiers_are_read code.modifiers words type spelled (type_not_modifier row.types code.kind type typed))
    ∙ rw allowed (ap (option_map (opcode row.form row.operands code.modifiers)) (type_is_read row.types code.kind type typed)
    ∙ ap (λ f. Some (opcode f row.operands code.modifiers code.kind)) same
    ∙ ap (λ o. Some (opcode code.form o code.modifiers code.kind)) placed)

-- what is read behind the stem of a row is spelled there
pub row_is_spelled : (row : InstructionRow) (code : Opcode) (text : List ℕ) → opcode_at row text ≡ Some code →
    SpellsBehindStem row code text
row_is_spelled row code text is =
    let m = modifiers_at text in
    let f = modifiers_are_found text in
    ⊎_elim
    (λ w. let o = mapped (opcode row.form row.operands m.0) (type_at row.types m.1) code w.1 in
    subst (λ c. SpellsBehindStem row c text) (same_some (opcode row.form row.operands m.0 o.0) code o.2)
    (f.0, m.1, f.1, f.2, w.0, type_is_found row.types m.1 o.0 o.1, refl, refl))
    (λ w. nothing code w.1)
    (chosen (allows row.modifiers m.0) (option_map (opcode row.form row.operands m.0) (type_at row.types m.1)) None (Some code) is)
