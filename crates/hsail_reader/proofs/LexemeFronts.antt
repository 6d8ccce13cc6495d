-- Where a lexeme is spelled, one is found that has it as its front: one law for each kind, from which follow that what
-- is found is a lexeme, that none there is longer, and that the longest is found.
use Rattle.std.proofs.Common.{◌≡◌, ℕ, ⊎_elim, List, [], ◌∷◌, Bool, true, false, not, ◌==◌, ◌<◌, Some, refl, ap, ◌∙◌, codes, arith, ◌+◌, ◌≤◌, ◌⊎◌, inl, inr, ◌++◌, length, if◌then◌else◌, Option, None, sym, subst, append_assoc, append-nil, length-append}
use Rattle.std.proofs.lemmas.Bool.Decides.{eqb_tells, nat_tests}
use Rattle.std.proofs.lemmas.Str.Parse.{digit_from_value}
use Rattle.std.specs.Char.{is_digit, digit_value}
use Rattle.std.specs.Int.{IsInRange}
use Rattle.std.specs.List.{list_any, prefix_len}
use Rattle.hsail_reader.specs.Lexemes.{lexed, number_at, word_at, lexeme_at, HeaderWord, comment_at, name_at, class_at, register, register_at, header_words, header_among, dollar_at}
use Rattle.hsail_reader.specs.Spelling.{AllPass, is_name_start, is_blank, is_mark, IsDecimal, IsName, IsRestOfComment, is_name_byte, is_not_line_feed}
use Rattle.hsail_reader.proofs.Options.{not_false, true_is_not_false, nothing, same_some, mapped, bound, either, some_rest}
use Rattle.hsail_reader.proofs.Runs.{differs, run_of, run_length, pass_append, closing_is_read, closing_is_spelled, behind_parts, no_more}
use Rattle.hsail_reader.specs.Nouns.{Blank, Token, Header, Lexeme, LexemeKind, RegisterClass, Prefix, TokenKind, Base, Comment, Control, Double, Single}
use Rattle.std.proofs.lemmas.Bool.{cases_Bool}
use Rattle.std.specs.Option.{is_some, option_map}
use Rattle.std.specs.Str.Parse.{digits_value}
use Rattle.hsail_reader.specs.Bytes.{behind, closing_at, decimal_at, numeral_at, ◌>>=◌, or_else}
use Rattle.hsail_reader.specs.WordLexemes.{IsWord, none}
use Rattle.hsail_reader.specs.TextTokens.{IsLexeme, IsWithin64Bits, IsLongestFront, class_name, header_name}
use Rattle.hsail_reader.specs.WordSpelling.{SpellsDecimal}
use Rattle.hsail_reader.proofs.Numbers.{SpellsAny, fitted, decimal_told, number_told, same_number, number_begins, digit_is_decimal}
use Rattle.hsail_reader.proofs.WordFronts.{name_start_continues, word_told}
use Rattle.hsail_reader.specs.declared.token.TokenKind.TheVariants as token

-- a byte that passes a test is none of some that all fail it
is_none_of : (test : ℕ → Bool) (b : ℕ) (cs : List ℕ) → test b ≡ true → AllPass (λ c. not (test c)) cs →
    list_any (λ m. m == b) cs ≡ false
is_none_of test b [] passes fail = refl
is_none_of test b (c ∷ cs) passes fail =
    ⊎_elim
    (λ w. true_is_not_false (not (test c)) fail.0 (ap (λ x. not (test x)) w.1 ∙ ap not passes))
    (λ w. rw w.0 (is_none_of test b cs passes fail.1))
    (eqb_tells c b)

-- behind a blank, just the blank is found
at_blank : (b : ℕ) (bytes : List ℕ) → is_blank b ≡ true → lexeme_at (b ∷ bytes) ≡ Some (lexed Blank 1)
at_blank b bytes blank = rw blank refl

-- where none of some bytes passes a test, each fails it
none_pass : (test : ℕ → Bool) (cs : List ℕ) → list_any test cs ≡ false → AllPass (λ c. not (test c)) cs
none_pass test [] e = tt
none_pass test (c ∷ cs) e =
    ⊎_elim
    (λ yes'. true_is_not_false true refl (rw yes' at e))
    (λ no'. (ap not no', none_pass test cs (rw no' at e)))
    (cases_Bool (test c))

-- a byte that passes a test which no blank and no sign passes is looked at as a mark, a name or a number
plain_byte : (test : ℕ → Bool) (b : ℕ) (bytes : List ℕ) → test b ≡ true → list_any test (codes " \t\n\r/&%@$") ≡ false →
    lexeme_at (b ∷ bytes)
    ≡ (if is_mark b then Some (lexed (Token (token.Mark b)) 1)
    else if is_name_start b then Some (word_at (b ∷ bytes))
    else number_at (b ∷ bytes))
plain_byte test b bytes passes none' =
    let f = none_pass test (codes " \t\n\r/&%@$") none' in
    let d = λ (c : ℕ) (fails : not (test c) ≡ true). differs test b c passes (not_false (test c) fails) in
    rw (d 32 f.0, d 9 f.1.0, d 10 f.1.1.0, d 13 f.1.1.1.0, d 47 f.1.1.1.1.0, d 38 f.1.1.1.1.1.0, d 37 f.1.1.1.1.1.1.0, d 64 f.1.1.1.1.1.1.1.0, d 36 f.1.1.1.1.1.1.1.1.0)
    refl

-- behind a mark, just the mark is found
at_mark : (b : ℕ) (bytes : List ℕ) → is_mark b ≡ true → lexeme_at (b ∷ bytes) ≡ Some (lexed (Token (token.Mark b)) 1)
at_mark b bytes mark = plain_byte is_mark b bytes mark refl ∙ rw mark refl

-- a byte that passes a test which no mark passes is no mark
no_mark : (test : ℕ → Bool) (b : ℕ) → test b ≡ true → list_any test (codes "(){}[],;:+-") ≡ false → is_mark b ≡ false
no_mark test b passes none' = is_none_of test b (codes "(){}[],;:+-") passes (none_pass test (codes "(){}[],;:+-") none')

-- behind a letter or `_`, a word is found
at_name_start : (b : ℕ) (bytes : List ℕ) → is_name_start b ≡ true → lexeme_at (b ∷ bytes) ≡ Some (word_at (b ∷ bytes))
at_name_start b bytes starts =
    plain_byte is_name_start b bytes starts refl ∙ rw (no_mark is_name_start b starts refl, starts) refl

-- a digit begins no name
digit_is_no_start : (b : ℕ) → is_digit b 10 ≡ true → is_name_start b ≡ false
digit_is_no_start b digit =
    let small : digit_value b < 10 = grind (arith, nat_tests) in
    let range : IsInRange 48 57 b = digit_from_value b small in
    grind (arith, nat_tests)

-- behind a digit, a number is looked for
at_digit : (b : ℕ) (bytes : List ℕ) → is_digit b 10 ≡ true → lexeme_at (b ∷ bytes) ≡ number_at (b ∷ bytes)
at_digit b bytes digit =
    let test : ℕ → Bool = λ c. is_digit c 10 in
    plain_byte test b bytes digit refl ∙ rw (no_mark test b digit refl, digit_is_no_start b digit) refl

-- what is answered where a lexeme of so many bytes stands: that one, unless its number passes 64 bits
abbrev Answered : LexemeKind → ℕ → Option Lexeme → Type 0
Answered kind n answer =
    (IsWithin64Bits kind × (answer ≡ Some (lexed kind n))) ⊎ ((IsWithin64Bits kind → ⊥) × (answer ≡ None))

-- where a lexeme is spelled, one is answered of it and what may stand with it
abbrev Told : LexemeKind → List ℕ → List ℕ → Type 0
Told kind text more =
    (all : LexemeKind) × (extra : List ℕ) × (rest : List ℕ) × (more ≡ extra ++ rest) × IsLexeme all (text ++ extra)
    × (extra ≡ [] → all ≡ kind) × Answered all (length (text ++ extra)) (lexeme_at (text ++ more))

-- nothing stands with it
alone : (kind : LexemeKind) (text more : List ℕ) → IsLexeme kind text → IsWithin64Bits kind →
    lexeme_at (text ++ more) ≡ Some (lexed kind (length text)) → Told kind text more
alone kind text more is within at' =
    let whole = sym (append-nil text) in
    (kind, [], more, refl, subst (IsLexeme kind) whole is, λ none. refl, inl (within, at' ∙ ap (λ xs. Some (lexed kind (length xs))) whole))

-- a name behind its sign, with all bytes of names behind it
name_told : (b : ℕ) (kind : TokenKind) (text more : List ℕ) → ((bytes : List ℕ) → lexeme_at (b ∷ bytes) ≡ name_at kind bytes) →
    ((rest : List ℕ) → IsName rest → IsLexeme (Token kind) (b ∷ rest)) → IsWithin64Bits (Token kind) → IsName text →
    Told (Token kind) (b ∷ text) more
name_told b kind [] more at' is_kind within is = absurd is
name_told b kind (c ∷ text) more at' is_kind within is =
    let r = run_of is_name_byte more in
    let pass = pass_append is_name_byte text r.0 is.1 r.3 in
    let count : prefix_len is_name_byte (c ∷ text ++ more) ≡ length (c ∷ text ++ r.0) =
    ap (λ xs. prefix_len is_name_byte (c ∷ text ++ xs)) r.2
    ∙ ap (λ xs. prefix_len is_name_byte (c ∷ xs)) (sym (append_assoc text r.0 r.1))
    ∙ run_length is_name_byte (c ∷ text ++ r.0) r.1 (name_start_continues c is.0, pass) r.4 in
    let named : name_at kind (c ∷ text ++ more) ≡ Some (lexed (Token kind) (prefix_len is_name_byte (c ∷ text ++ more) + 1)) =
    rw is.0 refl in
    let long : prefix_len is_name_byte (c ∷ text ++ more) + 1 ≡ length (b ∷ c ∷ text ++ r.0) = omega (arith, count) in (
      Token kind,
      r.0,
      r.1,
      r.2,
      is_kind (c ∷ text ++ r.0) (is.0, pass),
      λ none. refl,
      inl (within, at' (c ∷ text ++ more) ∙ named ∙ ap (λ n. Some (lexed (Token kind) n)) long),
    )

-- a comment: with the rest of its line, or up to its end
comment_told : (text more : List ℕ) → IsRestOfComment text → Told Comment (47 ∷ text) more
comment_told text more (inl (line, e, pass)) =
    let r = run_of is_not_line_feed more in
    let all = pass_append is_not_line_feed line r.0 pass r.3 in
    let count : prefix_len is_not_line_feed (line ++ more) ≡ length (line ++ r.0) =
    ap (λ xs. prefix_len is_not_line_feed (line ++ xs)) r.2
    ∙ ap (prefix_len is_not_line_feed) (sym (append_assoc line r.0 r.1))
    ∙ run_length is_not_line_feed (line ++ r.0) r.1 all r.4 in
    let long : prefix_len is_not_line_feed (line ++ more) + 2 ≡ length (47 ∷ 47 ∷ line ++ r.0) = omega (arith, count) in
    subst (λ xs. Told Comment (47 ∷ xs) more) (sym e) (
      Comment,
      r.0,
      r.1,
      r.2,
      (47 ∷ line ++ r.0, refl, inl (line ++ r.0, refl, all)),
      λ none. refl,
      inl (tt, ap (λ n. Some (lexed Comment n)) long),
    )
comment_told text more (inr (inside, e, closed)) =
    let long : 0 + length inside + 2 ≡ length (47 ∷ 42 ∷ inside) = omega arith in
    subst (λ xs. Told Comment (47 ∷ xs) more) (sym e)
    (alone Comment (47 ∷ 42 ∷ inside) more (42 ∷ inside, refl, inr (inside, refl, closed)) tt
    (ap (option_map (λ n. lexed Comment (n + 2))) (closing_is_read 0 inside more closed) ∙ ap (λ n. Some (lexed Comment n)) long))

-- the letter of a register's class
abbrev letter : RegisterClass → ℕ
letter Control = 99
letter Single = 115
letter Double = 100

-- nothing else
or_none : (o : Option Lexeme) → or_else o None ≡ o
or_none None = refl
or_none (Some l) = refl

-- no word of the header begins as a register does, behind its dollar
no_header : (class : RegisterClass) (b : ℕ) (bytes : List ℕ) → is_digit b 10 ≡ true →
    dollar_at (letter class ∷ b ∷ bytes) ≡ register_at (letter class ∷ b ∷ bytes)
no_header Control b bytes digit = or_none (register_at (99 ∷ b ∷ bytes))
no_header Single b bytes digit = or_none (register_at (115 ∷ b ∷ bytes))
no_header Double b bytes digit =
    let e : header_among header_words (100 ∷ b ∷ bytes) ≡ None = rw (differs (λ c. is_digit c 10) b 101 digit refl) refl in
    ap (or_else (register_at (100 ∷ b ∷ bytes))) e ∙ or_none (register_at (100 ∷ b ∷ bytes))

-- behind the letter of its class and a digit, a register is looked for
at_register : (class : RegisterClass) (digits more : List ℕ) → IsDecimal digits →
    lexeme_at ((class_name class ++ digits) ++ more) ≡ (decimal_at (digits ++ more) >>= λ n. Some (register class n))
at_register class [] more is = absurd is
at_register Control (b ∷ digits) more is = no_header Control b (digits ++ more) is.0
at_register Single (b ∷ digits) more is = no_header Single b (digits ++ more) is.0
at_register Double (b ∷ digits) more is = no_header Double b (digits ++ more) is.0

class_length : (class : RegisterClass) (digits : List ℕ) → length (class_name class ++ digits) ≡ length digits + 2
class_length Control digits = omega arith
class_length _ digits = omega arith

abbrev register_kind : RegisterClass → ℕ → LexemeKind
register_kind class n = Token (token.Register (record { class = class; number = n }))

-- a register, with all digits behind it
register_told : (class : RegisterClass) (m : ℕ) (digits more : List ℕ) → SpellsDecimal m digits →
    Told (register_kind class m) (class_name class ++ digits) more
register_told class m digits more (is, value) =
    let t = decimal_told digits more is in
    let all = digits ++ t.1 in
    let whole : (class_name class ++ digits) ++ t.1 ≡ class_name class ++ all = append_assoc (class_name class) digits t.1 in
    let there = at_register class digits more is in
    let count : length all + 2 ≡ length ((class_name class ++ digits) ++ t.1) = sym (class_length class all) ∙ ap length (sym whole) in (
      register_kind class t.0,
      t.1,
      t.2,
      t.3,
      (all, whole, t.4),
      λ none. ap (register_kind class) (t.4.1 ∙ ap (λ xs. digits_value 10 (digits ++ xs)) none ∙ ap (digits_value 10) (append-nil digits) ∙ sym value),
      ⊎_elim
          (λ w. inl (w.0, there ∙ ap (λ o. o >>= λ n. Some (register class n)) (t.5 ∙ w.1) ∙ ap (λ n. Some (lexed (register_kind class t.0) n)) count))
          (λ w. inr (w.0, there ∙ ap (λ o. o >>= λ n. Some (register class n)) (t.5 ∙ w.1)))
          (fitted t.0 (length all)),
    )

-- behind a digit, a number is looked for
at_number : (m : ℕ) (text more : List ℕ) → SpellsAny m text → lexeme_at (text ++ more) ≡ number_at (text ++ more)
at_number m [] more (inl is) = absurd is.0
at_number m (b ∷ digits) more (inl is) = at_digit b (digits ++ more) is.0.0
at_number m text more (inr is) = subst (λ xs. lexeme_at (xs ++ more) ≡ number_at (xs ++ more)) (sym is.0.2) refl

abbrev number_lexeme : Prefix ℕ → Lexeme
number_lexeme n = lexed (Token (token.Number n.value)) n.length

-- a number, with all digits behind it
number_is_told : (m : ℕ) (text more : List ℕ) → SpellsAny m text → Told (Token (token.Number m)) text more
number_is_told m text more is =
    let t = number_told m text more is in
    let there = at_number m text more is in (
      Token (token.Number t.0),
      t.1,
      t.2,
      t.3,
      t.4,
      λ none. ap (λ n. Token (token.Number n))
          (same_number t.0 m text (subst (SpellsAny t.0) (ap (λ xs. text ++ xs) none ∙ append-nil text) t.4) is),
      ⊎_elim
          (λ w. inl (w.0, there ∙ ap (option_map number_lexeme) (t.5 ∙ w.1)))
          (λ w. inr (w.0, there ∙ ap (option_map number_lexeme) (t.5 ∙ w.1)))
          (fitted t.0 (length (text ++ t.1))),
    )

-- behind what begins a name, a word is found
at_word : (text more : List ℕ) → IsWord text → lexeme_at (text ++ more) ≡ Some (word_at (text ++ more))
at_word [] more (inl is) = absurd is
at_word (b ∷ text) more (inl is) = at_name_start b (text ++ more) is.0
at_word text more (inr is) = subst (λ xs. lexeme_at (xs ++ more) ≡ Some (word_at (xs ++ more))) (sym is.1.1) refl

-- behind a word of the header, that word is found
at_header : (h : Header) (more : List ℕ) →
    lexeme_at (header_name h ++ more) ≡ Some (lexed (Token (token.Header h)) (length (header_name h)))
at_header Base more = refl
at_header _ more = refl

-- the law of each kind
told : (kind : LexemeKind) (text more : List ℕ) → IsLexeme kind text → Told kind text more
told Blank text more (b, e, blank) =
    subst (λ xs. Told Blank xs more) (sym e) (alone Blank (b ∷ []) more (b, refl, blank) tt (at_blank b more blank))
told Comment text more (rest, e, is) = subst (λ xs. Told Comment xs more) (sym e) (comment_told rest more is)
told (Token token.Global) text more (rest, e, is) =
    subst (λ xs. Told (Token token.Global) xs more) (sym e)
    (name_told 38 token.Global rest more (λ bytes. refl) (λ name s. (name, refl, s)) tt is)
told (Token token.Variable) text more (rest, e, is) =
    subst (λ xs. Told (Token token.Variable) xs more) (sym e)
    (name_told 37 token.Variable rest more (λ bytes. refl) (λ name s. (name, refl, s)) tt is)
told (Token token.Label) text more (rest, e, is) =
    subst (λ xs. Told (Token token.Label) xs more) (sym e)
    (name_told 64 token.Label rest more (λ bytes. refl) (λ name s. (name, refl, s)) tt is)
told (Token (token.Register r)) text more (digits, e, is) =
    subst (λ xs. Told (Token (token.Register r)) xs more) (sym e) (register_told r.class r.number digits more is)
told (Token (token.Header h)) text more e =
    subst (λ xs. Told (Token (token.Header h)) xs more) (sym e)
    (alone (Token (token.Header h)) (header_name h) more refl tt (at_header h more))
told (Token (token.Number n)) text more is = number_is_told n text more is
told (Token (token.Mark b)) text more (e, mark) =
    subst (λ xs. Told (Token (token.Mark b)) xs more) (sym e)
    (alone (Token (token.Mark b)) (b ∷ []) more (refl, mark) tt (at_mark b more mark))
told (Token token.Word) text more is =
    let t = word_told text more is in
    (Token token.Word, t.0, t.1, t.2, t.3, λ none. refl, inl (tt, at_word text more is ∙ ap Some t.4))

-- what is a lexeme is no longer than the lexeme found where it stands
pub lexeme_reaches : (kind : LexemeKind) (text more : List ℕ) (found : Lexeme) → IsLexeme kind text →
    lexeme_at (text ++ more) ≡ Some found → length text ≤ found.length
lexeme_reaches kind text more found is at' =
    let t = told kind text more is in
    ⊎_elim
    (λ w. let same = ap (λ (l : Lexeme). l.length) (same_some (lexed t.0 (length (text ++ t.1))) found (sym w.1 ∙ at')) in
    omega (arith, same, length-append text t.1))
    (λ w. nothing found (sym w.1 ∙ at'))
    t.6

-- the longest front that is a lexeme is found, as long as it is and of its kind
pub longest_is_found : (kind : LexemeKind) (front more : List ℕ) → IsLexeme kind front → IsWithin64Bits kind →
    IsLongestFront front (front ++ more) → lexeme_at (front ++ more) ≡ Some (lexed kind (length front))
longest_is_found kind front more is within longest =
    let t = told kind front more is in
    let parts = ap (λ xs. front ++ xs) t.3 ∙ sym (append_assoc front t.1 t.2) in
    let least = longest t.0 (front ++ t.1) t.2 parts t.4 in
    let alone' : t.1 ≡ [] = no_more t.1 (omega (arith, least, length-append front t.1)) in
    let same = t.5 alone' in
    ⊎_elim
    (λ w. w.1 ∙ ap (λ k. Some (lexed k (length (front ++ t.1)))) same
    ∙ ap (λ xs. Some (lexed kind (length xs))) (ap (λ xs. front ++ xs) alone' ∙ append-nil front))
    (λ w. absurd (w.0 (subst IsWithin64Bits (sym same) within)))
    t.6

-- a lexeme has a byte at least
pub lexeme_is_some : (kind : LexemeKind) (front : List ℕ) → IsLexeme kind front → IsWithin64Bits kind → 0 < length front
lexeme_is_some kind [] is within =
    nothing (lexed kind 0) (longest_is_found kind [] [] is within
    (λ k text more e s. omega (arith, ap length e, length-append text more)))
lexeme_is_some kind (b ∷ front) is within = omega arith

-- some front of these bytes is a lexeme
abbrev HasLexeme : List ℕ → Type 0
HasLexeme bytes = (kind : LexemeKind) × (text : List ℕ) × (more : List ℕ) × (bytes ≡ text ++ more) × IsLexeme kind text

-- the bytes with another first byte
behind_byte : (b c : ℕ) (bytes : List ℕ) → b ≡ c → HasLexeme (c ∷ bytes) → HasLexeme (b ∷ bytes)
behind_byte b c bytes e = subst (λ x. HasLexeme (x ∷ bytes)) (sym e)

comment_there : (bytes : List ℕ) (found : Lexeme) → comment_at bytes ≡ Some found → HasLexeme (47 ∷ bytes)
comment_there [] found is = nothing found is
comment_there (b ∷ bytes) found is =
    ⊎_elim
    (λ w. (Comment, 47 ∷ 47 ∷ [], bytes, ap (λ x. 47 ∷ x ∷ bytes) w.1, (47 ∷ [], refl, inl ([], refl, tt))))
    (λ w. ⊎_elim
    (λ v. let m = mapped (λ (n : ℕ). lexed Comment (n + 2)) (closing_at 0 bytes) found (rw (w.0, v.0) at is) in
    let r = closing_is_spelled 0 bytes m.0 m.1 in
    (Comment, 47 ∷ 42 ∷ r.0, r.1, ap (λ x. 47 ∷ x ∷ bytes) v.1 ∙ ap (λ xs. 47 ∷ 42 ∷ xs) r.2, (42 ∷ r.0, refl, inr (r.0, refl, r.3))))
    (λ v. nothing found (rw (w.0, v.0) at is))
    (eqb_tells b 42))
    (eqb_tells b 47)

name_there : (b : ℕ) (kind : TokenKind) (bytes : List ℕ) (found : Lexeme) → name_at kind bytes ≡ Some found →
    ((rest : List ℕ) → IsName rest → IsLexeme (Token kind) (b ∷ rest)) → HasLexeme (b ∷ bytes)
name_there b kind [] found is is_kind = nothing found is
name_there b kind (c ∷ bytes) found is is_kind =
    ⊎_elim
    (λ starts. (Token kind, b ∷ c ∷ [], bytes, refl, is_kind (c ∷ []) (starts, tt)))
    (λ other. nothing found (rw other at is))
    (cases_Bool (is_name_start c))

-- the letter of a register's class, behind its dollar
class_named : (c : ℕ) (bytes text : List ℕ) (class : RegisterClass) → class_at (c ∷ bytes) ≡ Some class →
    36 ∷ c ∷ text ≡ class_name class ++ text
class_named c bytes text class is =
    let P : RegisterClass → Type 0 = λ k. 36 ∷ c ∷ text ≡ class_name k ++ text in
    ⊎_elim
    (λ u. subst P (same_some Control class (rw u.0 at is)) (ap (λ x. 36 ∷ x ∷ text) u.1))
    (λ u. ⊎_elim
    (λ v. subst P (same_some Single class (rw (u.0, v.0) at is)) (ap (λ x. 36 ∷ x ∷ text) v.1))
    (λ v. ⊎_elim
    (λ w. subst P (same_some Double class (rw (u.0, v.0, w.0) at is)) (ap (λ x. 36 ∷ x ∷ text) w.1))
    (λ w. nothing class (rw (u.0, v.0, w.0) at is))
    (eqb_tells c 100))
    (eqb_tells c 115))
    (eqb_tells c 99)

register_there : (bytes : List ℕ) (found : Lexeme) → register_at bytes ≡ Some found → HasLexeme (36 ∷ bytes)
register_there [] found is = nothing found is
register_there (c ∷ bytes) found is =
    let b = bound (class_at (c ∷ bytes)) (λ class. decimal_at bytes >>= λ n. Some (register class n)) found is in
    let n = bound (decimal_at bytes) (λ (n : Prefix ℕ). Some (register b.0 n)) found b.2 in
    with_digit b.0 b.1 bytes n.0 n.1
  where
    with_digit : (class : RegisterClass) → class_at (c ∷ bytes) ≡ Some class → (digits : List ℕ) (n : Prefix ℕ) →
        decimal_at digits ≡ Some n → HasLexeme (36 ∷ c ∷ digits)
    with_digit class named [] n is = nothing n is
    with_digit class named (d ∷ digits) n is =
        ⊎_elim
        (λ digit. let one = digit_is_decimal d digit in (
          register_kind class (digits_value 10 (d ∷ [])),
          class_name class ++ d ∷ [],
          digits,
          class_named c bytes (d ∷ digits) class named ∙ sym (append_assoc (class_name class) (d ∷ []) digits),
          (d ∷ [], refl, one),
        ))
        (λ other. nothing n (rw other at is))
        (cases_Bool (is_digit d 10))

-- each word of the header has its spelling behind the dollar
abbrev AreNamed : List HeaderWord → Type 0
AreNamed [] = Unit {0}
AreNamed (h ∷ words) = (36 ∷ h.name ≡ header_name h.header) × AreNamed words

header_there : (words : List HeaderWord) (bytes : List ℕ) (found : Lexeme) → AreNamed words →
    header_among words bytes ≡ Some found → HasLexeme (36 ∷ bytes)
header_there [] bytes found named is = nothing found is
header_there (h ∷ words) bytes found named is =
    ⊎_elim
    (λ yes'. let rest = some_rest (behind h.name bytes) yes' in
    (Token (token.Header h.header), 36 ∷ h.name, rest.0, ap (λ xs. 36 ∷ xs) (behind_parts h.name bytes rest.0 rest.1), named.0))
    (λ no'. header_there words bytes found named.1 (rw no' at is))
    (cases_Bool (is_some (behind h.name bytes)))

dollar_there : (bytes : List ℕ) (found : Lexeme) → dollar_at bytes ≡ Some found → HasLexeme (36 ∷ bytes)
dollar_there bytes found is =
    ⊎_elim (register_there bytes found)
    (header_there header_words bytes found (refl, (refl, (refl, (refl, (refl, (refl, tt)))))))
    (either (register_at bytes) (header_among header_words bytes) found is)

-- behind a byte that is no blank, and begins no comment, name or register
plain_there : (b : ℕ) (bytes : List ℕ) (found : Lexeme) →
    (if is_mark b then Some (lexed (Token (token.Mark b)) 1)
    else if is_name_start b then Some (word_at (b ∷ bytes))
    else number_at (b ∷ bytes)) ≡ Some found → HasLexeme (b ∷ bytes)
plain_there b bytes found is =
    ⊎_elim
    (λ mark. (Token (token.Mark b), b ∷ [], bytes, refl, (refl, mark)))
    (λ (other : is_mark b ≡ false). ⊎_elim
    (λ starts. (Token token.Word, b ∷ [], bytes, refl, inl (starts, none)))
    (λ (plain : is_name_start b ≡ false).
    let m = mapped number_lexeme (numeral_at (b ∷ bytes)) found (rw (other, plain) at is) in
    let one = digit_is_decimal b (number_begins b bytes m.0 m.1) in
    (Token (token.Number (digits_value 10 (b ∷ []))), b ∷ [], bytes, refl, inl one))
    (cases_Bool (is_name_start b)))
    (cases_Bool (is_mark b))

-- where one is found, a lexeme stands in front
lexeme_there : (bytes : List ℕ) (found : Lexeme) → lexeme_at bytes ≡ Some found → HasLexeme bytes
lexeme_there [] found is = nothing found is
lexeme_there (b ∷ bytes) found is =
    ⊎_elim
    (λ blank. (Blank, b ∷ [], bytes, refl, (b, refl, blank)))
    (λ (other : is_blank b ≡ false). ⊎_elim
    (λ t. behind_byte b 47 bytes t.1 (comment_there bytes found (rw (other, t.0) at is)))
    (λ t. ⊎_elim
    (λ u. behind_byte b 38 bytes u.1 (name_there 38 token.Global bytes found (rw (other, t.0, u.0) at is) (λ rest s. (rest, refl, s))))
    (λ u. ⊎_elim
    (λ v. behind_byte b 37 bytes v.1 (name_there 37 token.Variable bytes found (rw (other, t.0, u.0, v.0) at is) (λ rest s. (rest, refl, s))))
    (λ v. ⊎_elim
    (λ w. behind_byte b 64 bytes w.1 (name_there 64 token.Label bytes found (rw (other, t.0, u.0, v.0, w.0) at is) (λ rest s. (rest, refl, s))))
    (λ w. ⊎_elim
    (λ x. behind_byte b 36 bytes x.1 (dollar_there bytes found (rw (other, t.0, u.0, v.0, w.0, x.0) at is)))
    (λ x. plain_there b bytes found (rw (other, t.0, u.0, v.0, w.0, x.0) at is))
    (eqb_tells b 36))
    (eqb_tells b 64))
    (eqb_tells b 37))
    (eqb_tells b 38))
    (eqb_tells b 47))
    (cases_Bool (is_blank b))

-- a front of the length that is found is a lexeme of the kind that is found
abbrev pub FoundSpelled : List ℕ → Lexeme → Type 0
FoundSpelled bytes found =
    (front : List ℕ) × (behind : List ℕ) × (bytes ≡ front ++ behind) × (length front ≡ found.length)
    × IsLexeme found.kind front × IsWithin64Bits found.kind

pub found_is_lexeme : (bytes : List ℕ) (found : Lexeme) → lexeme_at bytes ≡ Some found → FoundSpelled bytes found
found_is_lexeme bytes found is =
    let h = lexeme_there bytes found is in
    let t = told h.0 h.1 h.2 h.4 in
    let there = sym (ap lexeme_at h.3) ∙ is in
    ⊎_elim
    (λ w. subst (FoundSpelled bytes) (same_some (lexed t.0 (length (h.1 ++ t.1))) found (sym w.1 ∙ there))
    (h.1 ++ t.1, t.2, h.3 ∙ ap (λ xs. h.1 ++ xs) t.3 ∙ sym (append_assoc h.1 t.1 t.2), refl, t.4, w.0))
    (λ w. nothing found (sym w.1 ∙ there))
    t.6

-- what is found takes a byte at least, and no more than there are
pub found_takes : (bytes : List ℕ) (found : Lexeme) → lexeme_at bytes ≡ Some found →
    (0 < found.length) × (found.length ≤ length bytes)
found_takes bytes found is =
    let f = found_is_lexeme bytes found is in
    (omega (arith, f.3, lexeme_is_some found.kind f.0 f.4 f.5), omega (arith, ap length f.2, f.3, length-append f.0 f.1))
