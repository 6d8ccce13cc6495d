-- The word at the front of some bytes: it is found where a word is spelled, it is one, and none there is longer.
use Rattle.std.proofs.Common.{◌≡◌, ℕ, zero, suc, ◌+◌, ◌-◌, ◌<◌, ◌≤◌, ◌⊎◌, inl, inr, ⊎_elim, List, [], ◌∷◌, ◌++◌, length, drop, Bool, true, false, not, ◌&&◌, ◌||◌, ◌==◌, if◌then◌else◌, Option, Some, None, refl, sym, ap, subst, ◌∙◌, codes, append_assoc, length-append, arith}
use Rattle.std.proofs.lemmas.Bool.{cases_Bool, eqb-true}
use Rattle.std.proofs.Math.Dec.{eqb-zero-suc}
use Rattle.std.proofs.Math.Seq.{drop-append_seam}
use Rattle.std.specs.Int.{is_in_range}
use Rattle.hsail_reader.specs.Bytes.{align_at, spelled}
use Rattle.hsail_reader.specs.Lexemes.{lexed, length_of, modifier_length, piece_length, pieces_length, word_of, word_at}
use Rattle.hsail_reader.specs.Rows.{ModifierSpelling, bracketed_rows}
use Rattle.hsail_reader.specs.Spelling.{AllPass, is_name_byte, is_name_start}
use Rattle.hsail_reader.specs.WordLexemes.{IsModifier, IsModifiedName, ArePieces, none, byte, modifier, IsWord}
use Rattle.hsail_reader.specs.Words.{modifier_among}
use Rattle.hsail_reader.specs.WordSpelling.{SpellsNumber}
use Rattle.hsail_reader.specs.Nouns.{Lexeme, Modifier, Prefix, Token}
use Rattle.hsail_reader.specs.declared.token.TokenKind.TheVariants as token
use Rattle.hsail_reader.proofs.Bracketed.{align_is_read, align_is_found}
use Rattle.hsail_reader.proofs.Options.{not_false, nothing, same_some, true_is_not_false}
use Rattle.hsail_reader.proofs.Pieces.{pieces_length_step}
use Rattle.hsail_reader.proofs.RowWords.{modifier_is_read, modifier_is_found}
use Rattle.hsail_reader.proofs.Runs.{heads, tails, front_of}
use Rattle.hsail_reader.proofs.WordRows.{both, every, every_passes}

or_true : (p q r s : Bool) → ((q || r) || s) ≡ true → (((p || q) || r) || s) ≡ true
or_true true q r s e = refl
or_true false q r s e = e

pub name_start_continues : (b : ℕ) → is_name_start b ≡ true → is_name_byte b ≡ true
name_start_continues b e =
    or_true (is_in_range 48 57 b) (is_in_range 65 90 b) (is_in_range 97 122 b) (b == 95) e

-- a text is a bar, bytes that are none, and some byte of no name among them
abbrev is_barred : List ℕ → Bool
is_barred [] = false
is_barred (b ∷ front) = (b == 95) && (every (λ f. not (f == 95)) front && not (every is_name_byte front))

every_is : (test : ℕ → Bool) (xs : List ℕ) → every test xs ≡ true → AllPass test xs
every_is test [] e = tt
every_is test (x ∷ xs) e = let parts = both (test x) (every test xs) e in (parts.0, every_is test xs parts.1)

is_every : (test : ℕ → Bool) (xs : List ℕ) → AllPass test xs → every test xs ≡ true
is_every test [] pass = refl
is_every test (x ∷ xs) pass = rw pass.0 (is_every test xs pass.1)

-- what a modifier with brackets begins with: a bar, and a front without bars that is no name
abbrev Barred : List ℕ → Type 0
Barred m =
    (front : List ℕ) × (after : List ℕ) × (m ≡ 95 ∷ (front ++ after)) × AllPass (λ f. not (f == 95)) front
    × (AllPass is_name_byte front → ⊥)

barred : (m : List ℕ) → IsModifier m → Barred m
barred m (x, (row, rest, c, e, s)) =
    go row.text e (every_passes (λ (r : ModifierSpelling). is_barred r.text) bracketed_rows row refl c)
  where
    go : (text : List ℕ) → m ≡ text ++ rest → is_barred text ≡ true → Barred m
    go [] e is = true_is_not_false false is refl
    go (b ∷ front) e is =
        let p = both (b == 95) (every (λ f. not (f == 95)) front && not (every is_name_byte front)) is in
        let q = both (every (λ f. not (f == 95)) front) (not (every is_name_byte front)) p.1 in (
          front,
          rest,
          e ∙ ap (λ x. x ∷ (front ++ rest)) (eqb-true b 95 p.0),
          every_is (λ f. not (f == 95)) front q.0,
          λ all. true_is_not_false (every is_name_byte front) (is_every is_name_byte front all) (not_false (every is_name_byte front) q.1),
        )

-- so it has a byte at least
modifier_is_long : (m : List ℕ) → IsModifier m → 0 < length m
modifier_is_long m is = let p = barred m is in omega (arith, ap length p.2)

-- a modifier is read as one of its length, whatever stands behind it
modifier_length_is : (m more : List ℕ) → IsModifier m → modifier_length (m ++ more) ≡ length m
modifier_length_is m more (x, s) =
    ap (length_of (length (m ++ more))) (modifier_is_read bracketed_rows refl x m more s) ∙ omega (arith, length-append m more)

-- a modifier of so many bytes stands at the front
abbrev ModifierFound : List ℕ → ℕ → Type 0
ModifierFound bytes n = (m : List ℕ) × (more : List ℕ) × (bytes ≡ m ++ more) × (length m ≡ n) × IsModifier m

-- a modifier that is read stands at the front
modifier_there : (bytes : List ℕ) → 0 < modifier_length bytes → ModifierFound bytes (modifier_length bytes)
modifier_there bytes some = go (modifier_among bracketed_rows bytes) refl some
  where
    go : (o : Option (Modifier × List ℕ)) → modifier_among bracketed_rows bytes ≡ o → 0 < length_of (length bytes) o →
        ModifierFound bytes (length_of (length bytes) o)
    go None is some = absurd (omega arith)
    go (Some m) is some =
        let f = modifier_is_found bracketed_rows bytes m is in
        (f.0, m.1, f.1, omega (arith, ap length f.1, length-append f.0 m.1), (m.0, f.2))

-- a modifier begins with a bar
modifier_bar : (c : ℕ) (m : List ℕ) → IsModifier (c ∷ m) → (c == 95) ≡ true
modifier_bar c m is =
    let p = barred (c ∷ m) is in ap (λ x. x == 95) (heads c 95 m (p.0 ++ p.1) p.2)

no_modifier : (m : List ℕ) (b : ℕ) (rest after : List ℕ) → (b == 95) ≡ false → IsModifier m → m ++ after ≡ b ∷ rest → ⊥
no_modifier [] b rest after plain is e = absurd (omega (arith, modifier_is_long [] is))
no_modifier (c ∷ m) b rest after plain is e =
    let P : ℕ → Type 0 = λ x. (x == 95) ≡ true in
    true_is_not_false (b == 95) (subst P (heads c b (m ++ after) rest e) (modifier_bar c m is)) plain

-- pieces that don't begin with a bar begin with a byte of a name
plain_piece : (b : ℕ) (rest text : List ℕ) → (b == 95) ≡ false → ArePieces text → text ≡ b ∷ rest →
    (is_name_byte b ≡ true) × ArePieces rest
plain_piece b rest _ plain none e = cc
plain_piece b rest _ plain (byte c after ok pieces) e =
    let P : ℕ → Type 0 = λ x. is_name_byte x ≡ true in
    (subst P (heads c b after rest e) ok, subst ArePieces (tails c b after rest e) pieces)
plain_piece b rest _ plain (modifier m after text is whole pieces) e =
    absurd (no_modifier m b rest after plain is (sym whole ∙ e))

-- where a front without bars stands that is no name, pieces end in it
stuck : (front rest more after : List ℕ) → AllPass (λ f. not (f == 95)) front → (AllPass is_name_byte front → ⊥) →
    ArePieces rest → rest ++ more ≡ front ++ after → length rest < length front
stuck [] rest more after plain other pieces e = absurd (other tt)
stuck (f ∷ front) [] more after plain other pieces e = omega arith
stuck (f ∷ front) (b ∷ rest) more after plain other pieces e =
    let same : b ≡ f = heads b f (rest ++ more) (front ++ after) e in
    let Plain : ℕ → Type 0 = λ x. (x == 95) ≡ false in
    let Name : ℕ → Type 0 = λ x. is_name_byte x ≡ true in
    let i = plain_piece b rest (b ∷ rest) (subst Plain (sym same) (not_false (f == 95) plain.0)) pieces refl in
    let later = stuck front rest more after plain.1 (λ all. other (subst Name same i.0, all)) i.1
    (tails b f (rest ++ more) (front ++ after) e) in
    omega (arith, later)

bracket : is_name_byte 40 ≡ true → ⊥
bracket e = cc

-- pieces end in the name of a modifier
align_stuck : (rest more after : List ℕ) → ArePieces rest → rest ++ more ≡ codes "align(" ++ after → length rest < 6
align_stuck rest more after pieces e =
    stuck (codes "align(") rest more after (refl, (refl, (refl, (refl, (refl, (refl, tt)))))) (λ all. bracket all.1.1.1.1.1.0) pieces e

modifier_stuck : (b : ℕ) (rest more m after : List ℕ) → ArePieces rest → b ∷ rest ++ more ≡ m ++ after → IsModifier m →
    length (b ∷ rest) ≤ length m
modifier_stuck b rest more m after pieces e is =
    let p = barred m is in
    let short = stuck p.0 rest more (p.1 ++ after) p.3 p.4 pieces
    (tails b 95 (rest ++ more) _ (e ∙ ap (λ xs. xs ++ after) p.2) ∙ append_assoc p.0 p.1 after) in
    omega (arith, short, ap length p.2, length-append p.0 p.1)

piece_if : (m x : ℕ) → ((m ≡ 0) × ((if 0 == m then x else m) ≡ x)) ⊎ ((0 < m) × ((if 0 == m then x else m) ≡ m))
piece_if zero x = inl (refl, refl)
piece_if (suc m) x = inr (omega arith, rw (eqb-zero-suc m) refl)

-- pieces as they are found: those at the front, of so many bytes with those before
abbrev PiecesFound : ℕ → List ℕ → Type 0
PiecesFound before bytes =
    (text : List ℕ) × (more : List ℕ) × (bytes ≡ text ++ more) × ArePieces text
    × (before + length text ≡ pieces_length 0 before bytes)

pieces_modifier : (before : ℕ) (m more bytes : List ℕ) → bytes ≡ m ++ more → IsModifier m → length m ≡ piece_length bytes →
    PiecesFound (before + length m) more → PiecesFound before bytes
pieces_modifier before m more bytes parts is counts r =
    let step : pieces_length 0 before bytes ≡ pieces_length 0 (before + length m) more =
    pieces_length_step before (length m) bytes counts (omega (arith, modifier_is_long m is))
    ∙ ap (λ xs. pieces_length 0 (before + length m) (drop (length m) xs)) parts
    ∙ ap (pieces_length 0 (before + length m)) (drop-append_seam m more) in (
      m ++ r.0,
      r.1,
      parts ∙ ap (λ xs. m ++ xs) r.2 ∙ sym (append_assoc m r.0 r.1),
      modifier m r.0 (m ++ r.0) is refl r.3,
      omega (arith, step, r.4, length-append m r.0),
    )

pieces_found : (bound before : ℕ) (bytes : List ℕ) → length bytes ≤ bound → PiecesFound before bytes
pieces_found bound before [] fits = ([], [], refl, none, omega arith)
pieces_found zero before (b ∷ bytes) fits = absurd (omega arith)
pieces_found (suc bound) before (b ∷ bytes) fits =
    ⊎_elim
    (λ w. ⊎_elim
    (λ ok. let one : 1 ≡ piece_length (b ∷ bytes) = sym (w.1 ∙ rw ok refl) in
    let r = pieces_found bound (before + 1) bytes (omega arith) in
    let step = pieces_length_step before 1 (b ∷ bytes) one (omega arith) in
    (b ∷ r.0, r.1, ap (λ xs. b ∷ xs) r.2, byte b r.0 ok r.3, omega (arith, step, r.4)))
    (λ other. let ends : piece_length (b ∷ bytes) ≡ 0 = w.1 ∙ rw other refl in
    let end = ap (λ p. if 0 == p then before else pieces_length (p - 1) (before + p) bytes) ends in
    ([], b ∷ bytes, refl, none, omega (arith, end)))
    (cases_Bool (is_name_byte b)))
    (λ w. let m = modifier_there (b ∷ bytes) w.0 in
    let shorter : length m.1 ≤ bound = omega (arith, ap length m.2, length-append m.0 m.1, modifier_is_long m.0 m.4) in
    pieces_modifier before m.0 m.1 (b ∷ bytes) m.2 m.4 (m.3 ∙ sym w.1) (pieces_found bound (before + length m.0) m.1 shorter))
    (piece_if (modifier_length (b ∷ bytes)) (if is_name_byte b then 1 else 0))

pieces_grow : (before : ℕ) (bytes : List ℕ) → before ≤ pieces_length 0 before bytes
pieces_grow before bytes = let r = pieces_found (length bytes) before bytes (omega arith) in omega (arith, r.4)

at_least : (a b c : ℕ) → c ≡ b → a ≤ b → a ≤ c
at_least a b c e le = omega arith

pieces_reach : (before : ℕ) (text more : List ℕ) → ArePieces text →
    before + length text ≤ pieces_length 0 before (text ++ more)
pieces_reach before _ more none = omega (arith, pieces_grow before more)
pieces_reach before _ more (byte b rest ok pieces) =
    ⊎_elim
    (λ w. let one : 1 ≡ piece_length (b ∷ rest ++ more) = sym (w.1 ∙ rw ok refl) in
    let step = pieces_length_step before 1 (b ∷ rest ++ more) one (omega arith) in
    let later = pieces_reach (before + 1) rest more pieces in
    at_least (before + length (b ∷ rest)) (pieces_length 0 (before + 1) (rest ++ more)) _ step (omega (arith, later)))
    (λ w. let k = modifier_length (b ∷ rest ++ more) in
    let m = modifier_there (b ∷ rest ++ more) w.0 in
    let short = modifier_stuck b rest more m.0 m.1 pieces m.2 m.4 in
    let step = pieces_length_step before k (b ∷ rest ++ more) (sym w.1) w.0 in
    let grow = pieces_grow (before + k) (drop k (b ∷ rest ++ more)) in
    at_least (before + length (b ∷ rest)) (pieces_length 0 (before + k) (drop k (b ∷ rest ++ more))) _ step
    (omega (arith, grow, short, m.3)))
    (piece_if (modifier_length (b ∷ rest ++ more)) (if is_name_byte b then 1 else 0))
pieces_reach before _ more (modifier m rest text is whole pieces) =
    let bytes = m ++ (rest ++ more) in
    let some = modifier_is_long m is in
    let step = pieces_length_step before (length m) bytes
    (piece_of_modifier bytes (length m) (modifier_length_is m (rest ++ more) is) (omega (arith, some))) (omega (arith, some)) in
    let later = pieces_reach (before + length m) rest more pieces in
    let there : pieces_length 0 before bytes ≡ pieces_length 0 (before + length m) (rest ++ more) =
    step ∙ ap (pieces_length 0 (before + length m)) (drop-append_seam m (rest ++ more)) in
    let P : List ℕ → Type 0 = λ t. before + length t ≤ pieces_length 0 before (t ++ more) in
    let longer : length (m ++ rest) ≡ length m + length rest = simp length-append in
    subst P (sym whole)
    (rw append_assoc (at_least (before + length (m ++ rest)) (pieces_length 0 (before + length m) (rest ++ more)) _ there
    (omega (arith, later, longer))))
  where
    piece_of_modifier : (bytes : List ℕ) (k : ℕ) → modifier_length bytes ≡ k → 0 < k → k ≡ piece_length bytes
    piece_of_modifier [] k is some = absurd (omega arith)
    piece_of_modifier (b ∷ bytes) k is some =
        ⊎_elim (λ w. absurd (omega (arith, w.0, is))) (λ w. sym (w.1 ∙ is))
        (piece_if (modifier_length (b ∷ bytes)) (if is_name_byte b then 1 else 0))

-- where a word is spelled, this word is found: all of it, and what may stand with it
abbrev WordTold : List ℕ → List ℕ → Lexeme → Type 0
WordTold text bytes found =
    (whole : List ℕ) × (rest : List ℕ) × (bytes ≡ whole ++ rest) × IsWord whole × (length text ≤ length whole)
    × (found ≡ lexed (Token token.Word) (length whole))

-- align(n) is read where it stands as a word
align_there : (text more : List ℕ) (n : ℕ) (inside : List ℕ) → text ≡ codes "align(" ++ (inside ++ codes ")") →
    SpellsNumber n inside → align_at (text ++ more) ≡ Some (spelled n (length inside + 7))
align_there text more n inside e s =
    ap (λ xs. align_at (xs ++ more)) e
    ∙ align_is_read n inside more s

word_go : (text more : List ℕ) (a : Option (Prefix ℕ)) → align_at (text ++ more) ≡ a → IsWord text →
    WordTold text (text ++ more) (word_of a (text ++ more))
word_go [] more None read (inl is) = absurd is
word_go (b ∷ rest) more None read (inl (starts, pieces)) =
    let r = pieces_found (length (rest ++ more)) 1 (rest ++ more) (omega arith) in
    let reach = pieces_reach 1 rest more pieces in (
      b ∷ r.0,
      r.1,
      ap (λ xs. b ∷ xs) r.2,
      inl (starts, r.3),
      omega (arith, reach, r.4),
      ap (lexed (Token token.Word)) (sym r.4 ∙ omega arith),
    )
word_go text more None read (inr (n, (inside, e, s))) =
    nothing (spelled n (length inside + 7)) (sym read ∙ align_there text more n inside e s)
word_go text more (Some n) read is =
    let r = align_is_found (text ++ more) n read in
    let whole = codes "align(" ++ (r.0 ++ codes ")") in
    let count : n.length ≡ length whole = omega (arith, r.3, length-append r.0 (codes ")")) in
    (whole, r.1, r.2, inr (n.value, (r.0, refl, r.4)), omega (arith, count, short is r.1 r.0 r.2 r.3), ap (lexed (Token token.Word)) count)
  where
    pieces : (text : List ℕ) → IsModifiedName text → ArePieces text
    pieces [] is = absurd is
    pieces (b ∷ rest) (starts, is) = byte b rest (name_start_continues b starts) is

    same_some_length : (a b : Prefix ℕ) → Some a ≡ Some b → a.length ≡ b.length
    same_some_length a b e = ap (λ (x : Prefix ℕ). x.length) (same_some a b e)

    short : IsWord text → (after inside : List ℕ) → text ++ more ≡ codes "align(" ++ ((inside ++ codes ")") ++ after) →
        n.length ≡ length inside + 7 → length text ≤ n.length
    short (inl is) after inside e long =
        let lt = align_stuck text more ((inside ++ codes ")") ++ after) (pieces text is) e in omega (arith, lt, long)
    short (inr (k, (number, e, s))) after inside whole long =
        let same = sym read ∙ align_there text more k number e s in
        omega (arith, ap length e, length-append number (codes ")"), same_some_length n (spelled k (length number + 7)) same)

-- where a word is spelled, a word is found that has it as its front
pub word_told : (text more : List ℕ) → IsWord text →
    (extra : List ℕ) × (rest : List ℕ) × (more ≡ extra ++ rest) × IsWord (text ++ extra)
    × (word_at (text ++ more) ≡ lexed (Token token.Word) (length (text ++ extra)))
word_told text more is =
    let t = word_go text more (align_at (text ++ more)) refl is in
    let f = front_of text more t.0 t.1 t.2 t.4 in
    (f.0, t.1, f.2, subst IsWord f.1 t.3, t.5 ∙ ap (λ xs. lexed (Token token.Word) (length xs)) f.1)
