-- A text is read as the word that it spells, and as no other.
use Rattle.std.proofs.Common.{◌≡◌, ℕ, ◌+◌, ⊎_elim, List, [], ◌++◌, length, true, false, ◌==◌, if◌then◌else◌, Option, Some, None, refl, sym, ap, subst, ◌∙◌, codes, append-nil, length-append, arith}
use Rattle.std.proofs.lemmas.Bool.{eq-eqb, eqb-true}
use Rattle.std.specs.List.{Contains}
use Rattle.hsail_reader.specs.Bytes.{behind, align_at, ◌>>=◌}
use Rattle.hsail_reader.specs.Rows.{InstructionRow, rows, types_of, type_name}
use Rattle.hsail_reader.specs.Words.{is_spelled, is_end, type_among, opcode_at, opcode_among, instruction_at, variable_word, instruction_word, later_word, other_word, named_word, word_of}
use Rattle.hsail_reader.specs.WordSpelling.{SpellsNumber, SpellsBehindStem, SpellsWord, stands_in_modules}
use Rattle.hsail_reader.specs.Nouns.{DataType, Opcode, Prefix, Word, Memory}
use Rattle.hsail_reader.specs.declared.words.Word.TheVariants as word
use Rattle.hsail_reader.proofs.RowWords.{row_is_read, row_is_spelled}
use Rattle.hsail_reader.proofs.Bracketed.{align_is_read, align_is_found}
use Rattle.hsail_reader.proofs.Options.{bound, chosen, true_is_not_false}
use Rattle.hsail_reader.proofs.Runs.{behind_front, behind_parts, no_more}
use Rattle.hsail_reader.proofs.WordRows.{clashes_all, clashes_not_behind, first_is_read, first_is_found, spelled_is, name_is_read, name_is_found}

-- align(n) is read as a word
align_word : (n : ℕ) (number : List ℕ) → SpellsNumber n number →
    word_of (codes "align(" ++ (number ++ codes ")")) ≡ word.Align n
unfolding word_of
align_word n number spelled =
    let text = codes "align(" ++ (number ++ codes ")") in
    let whole : length number + 7 ≡ length text = omega (arith, length-append number (codes ")")) in
    ap (λ o. named_word o text)
    (ap (λ xs. align_at (codes "align(" ++ xs)) (sym (append-nil (number ++ codes ")")))
    ∙ align_is_read n number [] spelled)
    ∙ ap (λ p. if p then word.Align n else word.Unknown) (eq-eqb (length number + 7) (length text) whole)

-- the tests before the words of instructions
word_steps : (text : List ℕ) (w : Word) → is_spelled (codes "module") text ≡ false →
    is_spelled (codes "prog") text ≡ false → is_spelled (codes "kernel") text ≡ false → align_at text ≡ None →
    behind (codes "kernarg_") text ≡ None → behind (codes "group_") text ≡ None →
    instruction_word (instruction_at text) ≡ w → word_of text ≡ w
unfolding word_of
word_steps text w m p k a r g is = rw (m, p, k, a, r, g) is

-- the row that spells the word of an instruction reads it
instruction_steps : (row : InstructionRow) (rest : List ℕ) (code : Opcode) → Contains rows row →
    SpellsBehindStem row code rest → instruction_at (row.stem ++ rest) ≡ Some code
unfolding instruction_at
instruction_steps row rest code c spelled =
    first_is_read (λ r. r.stem) (λ r text. behind r.stem text >>= opcode_at r)
    (λ r text e. ap (λ o. o >>= opcode_at r) e) rows row rest code refl c
    (ap (λ o. o >>= opcode_at row) (behind_front row.stem rest) ∙ row_is_read row code rest spelled)

-- no align(n) is read where its name does not stand
no_align : (bytes : List ℕ) → behind (codes "align(") bytes ≡ None → align_at bytes ≡ None
no_align bytes e = rw e

-- the word of an instruction is read
instruction_is_read : (row : InstructionRow) (rest : List ℕ) (code : Opcode) → Contains rows row →
    SpellsBehindStem row code rest → word_of (row.stem ++ rest) ≡ word.Instruction code
instruction_is_read row rest code c spelled =
    let not_behind =
    λ (front : List ℕ) (e : clashes_all (λ r. r.stem) front rows ≡ true). clashes_not_behind (λ r. r.stem) front rows row rest e c in
    word_steps (row.stem ++ rest) (word.Instruction code)
    (ap is_end (not_behind (codes "module") refl))
    (ap is_end (not_behind (codes "prog") refl))
    (ap is_end (not_behind (codes "kernel") refl))
    (no_align (row.stem ++ rest) (not_behind (codes "align(") refl))
    (not_behind (codes "kernarg_") refl)
    (not_behind (codes "group_") refl)
    (ap instruction_word (instruction_steps row rest code c spelled))

-- a text is read as the word that it spells
pub word_is_read : (w : Word) (text : List ℕ) → SpellsWord w text → word_of text ≡ w
unfolding word_of
word_is_read word.Module text e = ap word_of e
word_is_read word.Prog text e = ap word_of e
word_is_read word.Kernel text e = ap word_of e
word_is_read (word.Align n) text (number, e, spelled) = ap word_of e ∙ align_word n number spelled
word_is_read (word.Argument t) text (e, c) = ap word_of e ∙ ap (variable_word word.Argument) (name_is_read Memory t c)
word_is_read (word.GroupVariable t) text (e, c) = ap word_of e ∙ ap (variable_word word.GroupVariable) (name_is_read Memory t c)
word_is_read (word.Instruction code) text (row, rest, c, e, spelled) =
    ap word_of e ∙ instruction_is_read row rest code c spelled
word_is_read word.Outside text spelled = absurd spelled
word_is_read word.Unknown text spelled = absurd spelled

-- a text spells a word that is the one it spells
spelled_of : (w other : Word) (text : List ℕ) → SpellsWord w text → w ≡ other → SpellsWord other text
spelled_of w other text spelled e = subst (λ x. SpellsWord x text) e spelled

-- a word that stands in no module is not one that does
outside : (w other : Word) (text : List ℕ) → stands_in_modules w ≡ false → w ≡ other → stands_in_modules other ≡ true →
    SpellsWord other text
outside w other text no' e stands = true_is_not_false (stands_in_modules w) (ap stands_in_modules e ∙ stands) no'

-- align(n) as a word is spelled
align_is_word : (text : List ℕ) (m : Prefix ℕ) → align_at text ≡ Some m → m.length ≡ length text →
    SpellsWord (word.Align m.value) text
align_is_word text m is whole =
    let r = align_is_found text m is in
    let inside = r.0 ++ codes ")" in
    let long = length-append inside r.1 in
    let none : length r.1 ≡ 0 = omega (arith, whole, r.3, ap length r.2, long, length-append r.0 (codes ")")) in
    let empty = no_more r.1 none in (
      r.0,
      r.2 ∙ ap (λ xs. codes "align(" ++ (inside ++ xs)) empty ∙ ap (λ xs. codes "align(" ++ xs) (append-nil inside),
      r.4,
    )

-- the word of a variable is spelled, by what stands at its front
variable_is_spelled : (front : List ℕ) (spelled : DataType → Word) →
    ((t : DataType) (text : List ℕ) → text ≡ front ++ type_name t → Contains (types_of Memory) t → SpellsWord (spelled t) text) →
    (text rest : List ℕ) (o : Option DataType) (w : Word) → behind front text ≡ Some rest → type_among (types_of Memory) rest ≡ o →
    variable_word spelled o ≡ w → stands_in_modules w ≡ true → SpellsWord w text
variable_is_spelled front spelled spells text rest None w parts found e stands = outside word.Outside w text refl e stands
variable_is_spelled front spelled spells text rest (Some t) w parts found e stands =
    let f = name_is_found (types_of Memory) rest t found in
    spelled_of (spelled t) w text (spells t text (behind_parts front text rest parts ∙ ap (λ xs. front ++ xs) f.0) f.1) e

-- the word of an instruction is spelled
instruction_is_spelled : (text : List ℕ) (o : Option Opcode) (w : Word) → opcode_among rows text ≡ o →
    instruction_word o ≡ w → stands_in_modules w ≡ true → SpellsWord w text
instruction_is_spelled text None w found e stands = outside word.Unknown w text refl e stands
instruction_is_spelled text (Some code) w found e stands =
    let f = first_is_found (λ r text. behind r.stem text >>= opcode_at r) rows text code found in
    let b = bound (behind f.0.stem text) (opcode_at f.0) code f.2 in
    spelled_of (word.Instruction code) w text
    (f.0, b.0, f.1, behind_parts f.0.stem text b.0 b.1, row_is_spelled f.0 code b.0 b.2) e

-- a word that is not align(n) nor of an argument is spelled
later_is_spelled : (o : Option (List ℕ)) (text : List ℕ) (w : Word) → behind (codes "group_") text ≡ o →
    later_word o text ≡ w → stands_in_modules w ≡ true → SpellsWord w text
unfolding instruction_at
later_is_spelled (Some rest) text w found e stands =
    variable_is_spelled (codes "group_") word.GroupVariable (λ t text parts c. (parts, c)) text rest (type_among (types_of Memory) rest) w found refl e stands
later_is_spelled None text w found e stands = instruction_is_spelled text (opcode_among rows text) w refl e stands

-- a word that is not align(n) is spelled
other_is_spelled : (o : Option (List ℕ)) (text : List ℕ) (w : Word) → behind (codes "kernarg_") text ≡ o →
    other_word o text ≡ w → stands_in_modules w ≡ true → SpellsWord w text
other_is_spelled (Some rest) text w found e stands =
    variable_is_spelled (codes "kernarg_") word.Argument (λ t text parts c. (parts, c)) text rest (type_among (types_of Memory) rest) w found refl e stands
other_is_spelled None text w found e stands = later_is_spelled (behind (codes "group_") text) text w refl e stands

-- a word that is not one of a module's beginning is spelled
named_is_spelled : (o : Option (Prefix ℕ)) (text : List ℕ) (w : Word) → align_at text ≡ o → named_word o text ≡ w →
    stands_in_modules w ≡ true → SpellsWord w text
named_is_spelled (Some n) text w found e stands =
    ⊎_elim
    (λ g. spelled_of (word.Align n.value) w text (align_is_word text n found (eqb-true n.length (length text) g.0)) g.1)
    (λ g. outside word.Unknown w text refl g.1 stands)
    (chosen (n.length == length text) (word.Align n.value) word.Unknown w e)
named_is_spelled None text w found e stands = other_is_spelled (behind (codes "kernarg_") text) text w refl e stands

-- a text spells the word that it is read as, if that word stands in modules
pub word_is_spelled : (w : Word) (text : List ℕ) → word_of text ≡ w → stands_in_modules w ≡ true → SpellsWord w text
unfolding word_of
word_is_spelled w text e stands =
    let named = named_word (align_at text) text in
    let kernel = if is_spelled (codes "kernel") text then word.Kernel else named in
    let prog = if is_spelled (codes "prog") text then word.Prog else kernel in
    ⊎_elim
    (λ m. spelled_of word.Module w text (spelled_is (codes "module") text m.0) m.1)
    (λ m. ⊎_elim
    (λ p. spelled_of word.Prog w text (spelled_is (codes "prog") text p.0) p.1)
    (λ p. ⊎_elim
    (λ k. spelled_of word.Kernel w text (spelled_is (codes "kernel") text k.0) k.1)
    (λ k. named_is_spelled (align_at text) text w refl k.1 stands)
    (chosen (is_spelled (codes "kernel") text) word.Kernel named w p.1))
    (chosen (is_spelled (codes "prog") text) word.Prog kernel w m.1))
    (chosen (is_spelled (codes "module") text) word.Module prog w e)
