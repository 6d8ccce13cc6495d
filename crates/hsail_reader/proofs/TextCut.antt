-- A text is cut into tokens just where these are its tokens by their spelling.
use Rattle.std.proofs.Common.{◌≡◌, ℕ, zero, suc, ◌+◌, ◌-◌, ◌<◌, ◌≤◌, List, [], ◌∷◌, ◌++◌, length, take, drop, Result, Ok, Err, Option, Some, refl, ap, subst, sym, ◌∙◌, append_assoc, arith, None, length-append}
use Rattle.hsail_reader.specs.Faults.{with_front, placed_flaw}
use Rattle.hsail_reader.specs.Lexemes.{lexeme_at, lexed}
use Rattle.hsail_reader.specs.Tokens.{tokens_from, further, before_rest}
use Rattle.hsail_reader.specs.TextTokens.{PlacedToken, kept, line_after, line_behind, IsLongestFront, AreTokens, none, lexeme}
use Rattle.hsail_reader.specs.Nouns.{Lexeme, PlacedFlaw, LexemeKind}
use Rattle.std.proofs.Math.Seq.{take-append_seam, drop-append_seam}
use Rattle.hsail_reader.proofs.Options.{same_ok, no_ok}
use Rattle.hsail_reader.proofs.LexemeFronts.{FoundSpelled, found_is_lexeme, lexeme_is_some, lexeme_reaches, longest_is_found}
use Rattle.hsail_reader.specs.declared.fault.Flaw.TheVariants as flaw

pub with_front_append : (a b : List PlacedToken) (r : Result (List PlacedToken) PlacedFlaw) →
    with_front (a ++ b) r ≡ with_front a (with_front b r)
with_front_append a b (Ok items) = ap (λ (x : List PlacedToken). Ok x) (simp append_assoc)
with_front_append a b (Err r) = refl

-- to go on after k bytes is to go on there
pub tokens_from_drop : (k place line : ℕ) (bytes : List ℕ) → k ≤ length bytes →
    tokens_from k place line bytes
    ≡ tokens_from 0 (place + k) (line_after line (take k bytes)) (drop k bytes)
tokens_from_drop zero place line bytes fits = ap (λ p. tokens_from 0 p line bytes) (omega arith)
tokens_from_drop (suc k) place line [] fits = absurd (omega arith)
tokens_from_drop (suc k) place line (b ∷ bytes) fits =
    tokens_from_drop k (place + 1) (line_behind line b) bytes (omega arith)
    ∙ ap (λ p. tokens_from 0 p (line_after (line_behind line b) (take k bytes)) (drop k bytes)) (omega arith)

behind_first : (n place line b : ℕ) (bytes : List ℕ) → 0 < n → n ≤ length (b ∷ bytes) →
    tokens_from (n - 1) (place + 1) (line_behind line b) bytes
    ≡ tokens_from 0 (place + n) (line_after line (take n (b ∷ bytes))) (drop n (b ∷ bytes))
behind_first zero place line b bytes some fits = absurd (omega arith)
behind_first (suc k) place line b bytes some fits =
    let one : suc k - 1 ≡ k = omega arith in
    ap (λ j. tokens_from j (place + 1) (line_behind line b) bytes) one
    ∙ tokens_from_drop (suc k) place line (b ∷ bytes) fits

-- the lexeme at the front, and what stands behind it
pub tokens_from_step : (place line : ℕ) (bytes : List ℕ) (found : Lexeme) → lexeme_at bytes ≡ Some found →
    0 < found.length → found.length ≤ length bytes →
    tokens_from 0 place line bytes
    ≡ with_front (kept found.kind (take found.length bytes) place line)
    (tokens_from 0 (place + found.length) (line_after line (take found.length bytes)) (drop found.length bytes))
tokens_from_step place line [] found is some fits = cc
tokens_from_step place line (b ∷ bytes) found is some fits =
    let whole = with_front (kept found.kind (take found.length (b ∷ bytes)) place line)
    (tokens_from 0 (place + found.length) (line_after line (take found.length (b ∷ bytes)))
    (drop found.length (b ∷ bytes))) in
    let P : Option Lexeme → Type 0 = λ o.
    before_rest o (b ∷ bytes) place line
    (tokens_from (further o) (place + 1) (line_behind line b) bytes) ≡ whole in
    subst P (sym is)
    (ap (with_front (kept found.kind (take found.length (b ∷ bytes)) place line))
    (behind_first found.length place line b bytes some fits))

-- one turn of the loop over the lexemes
pub goes_on : (front after : List PlacedToken) (place line : ℕ) (bytes : List ℕ) (found : Lexeme) (whole : Result (List PlacedToken) PlacedFlaw) →
    lexeme_at bytes ≡ Some found → 0 < found.length → found.length ≤ length bytes →
    after ≡ front ++ kept found.kind (take found.length bytes) place line →
    with_front front (tokens_from 0 place line bytes) ≡ whole →
    with_front after
    (tokens_from 0 (place + found.length) (line_after line (take found.length bytes)) (drop found.length bytes))
    ≡ whole
goes_on front after place line bytes found whole is some fits pushed so_far =
    let rest = tokens_from 0 (place + found.length) (line_after line (take found.length bytes)) (drop found.length bytes) in
    let new = kept found.kind (take found.length bytes) place line in
    ap (λ f. with_front f rest) pushed
    ∙ with_front_append front new rest
    ∙ ap (with_front front) (sym (tokens_from_step place line bytes found is some fits))
    ∙ so_far

-- the tokens behind a lexeme that is found, by its front and what stands behind it
step : (place line : ℕ) (kind : LexemeKind) (front behind : List ℕ) → 0 < length front →
    lexeme_at (front ++ behind) ≡ Some (lexed kind (length front)) →
    tokens_from 0 place line (front ++ behind)
    ≡ with_front (kept kind front place line) (tokens_from 0 (place + length front) (line_after line front) behind)
step place line kind front behind some is =
    let long = length-append front behind in
    tokens_from_step place line (front ++ behind) (lexed kind (length front)) is some (omega (arith, long))
    ∙ ap (λ xs. with_front (kept kind xs place line)
    (tokens_from 0 (place + length front) (line_after line xs) (drop (length front) (front ++ behind))))
    (take-append_seam front behind)
    ∙ ap (λ xs. with_front (kept kind front place line)
    (tokens_from 0 (place + length front) (line_after line front) xs))
    (drop-append_seam front behind)

-- tokens by their spelling are those that are cut
tokens_are_cut : (place line : ℕ) (bytes : List ℕ) (tokens : List PlacedToken) → AreTokens place line bytes tokens →
    tokens_from 0 place line bytes ≡ Ok tokens
tokens_are_cut _ _ _ _ (none place line) = refl
tokens_are_cut _ _ _ _ (lexeme place line kind bytes front behind tokens parts is within longest rest) =
    let Long : List ℕ → Type 0 = λ xs. IsLongestFront front xs in
    let found = longest_is_found kind front behind is within (subst Long parts longest) in
    ap (tokens_from 0 place line) parts
    ∙ step place line kind front behind (lexeme_is_some kind front is within) found
    ∙ ap (with_front (kept kind front place line))
    (tokens_are_cut (place + length front) (line_after line front) behind tokens rest)

-- the tokens of a text by their spelling are those that it is cut into
pub cut : (text : List ℕ) (tokens : List PlacedToken) → AreTokens 0 1 text tokens → tokens_from 0 0 1 text ≡ Ok tokens
cut text tokens are = tokens_are_cut 0 1 text tokens are

-- the tokens behind some, where all are read
behind_some : (front tokens : List PlacedToken) (rest : Result (List PlacedToken) PlacedFlaw) → with_front front rest ≡ Ok tokens →
    (later : List PlacedToken) × (rest ≡ Ok later) × (front ++ later ≡ tokens)
behind_some front tokens (Ok later) is = (later, refl, same_ok (front ++ later) tokens is)
behind_some front tokens (Err r) is = no_ok r tokens is

-- where the tokens behind it are spelled, so are those of the lexeme found and of what stands behind it
found_goes_on : (place line : ℕ) (bytes : List ℕ) (tokens : List PlacedToken) (found : Lexeme) →
    lexeme_at bytes ≡ Some found → tokens_from 0 place line bytes ≡ Ok tokens → FoundSpelled bytes found →
    ((place line : ℕ) (behind : List ℕ) (tokens : List PlacedToken) → length behind < length bytes →
    tokens_from 0 place line behind ≡ Ok tokens → AreTokens place line behind tokens) →
    AreTokens place line bytes tokens
found_goes_on place line bytes tokens found at' is (front, behind, parts, counts, spelled, within) goes_on =
    let At : List ℕ → Type 0 = λ xs. lexeme_at xs ≡ Some found in
    let there : lexeme_at (front ++ behind) ≡ Some (lexed found.kind (length front)) =
    subst At parts at' ∙ ap (λ n. Some (lexed found.kind n)) (sym counts) in
    let some = lexeme_is_some found.kind front spelled within in
    let whole = sym (step place line found.kind front behind some there)
    ∙ ap (tokens_from 0 place line) (sym parts) ∙ is in
    let later = behind_some (kept found.kind front place line) tokens
    (tokens_from 0 (place + length front) (line_after line front) behind) whole in
    let longest : IsLongestFront front bytes = λ kind text more e lex.
    omega (arith, counts, lexeme_reaches kind text more found lex (ap lexeme_at (sym e) ∙ at')) in
    let shorter : length behind < length bytes = omega (arith, ap length parts, length-append front behind, some) in
    let rest = goes_on (place + length front) (line_after line front) behind later.0 shorter later.1 in
    subst (AreTokens place line bytes) later.2
    (lexeme place line found.kind bytes front behind later.0 parts spelled within longest rest)

-- the tokens that are cut at the front of some bytes are those by their spelling, where those behind it are
cut_goes_on : (o : Option Lexeme) (place line b : ℕ) (bytes : List ℕ) (tokens : List PlacedToken) →
    lexeme_at (b ∷ bytes) ≡ o → tokens_from 0 place line (b ∷ bytes) ≡ Ok tokens →
    ((place line : ℕ) (behind : List ℕ) (tokens : List PlacedToken) → length behind < length (b ∷ bytes) →
    tokens_from 0 place line behind ≡ Ok tokens → AreTokens place line behind tokens) →
    AreTokens place line (b ∷ bytes) tokens
cut_goes_on None place line b bytes tokens e is goes_on =
    let P : Option Lexeme → Type 0 = λ o.
    before_rest o (b ∷ bytes) place line (tokens_from (further o) (place + 1) (line_behind line b) bytes)
    ≡ Ok tokens in
    no_ok (placed_flaw (Some place) flaw.Lexeme) tokens (subst P e is)
cut_goes_on (Some found) place line b bytes tokens e is goes_on =
    found_goes_on place line (b ∷ bytes) tokens found e is (found_is_lexeme (b ∷ bytes) found e) goes_on

-- the tokens that are cut are those by their spelling, in at most `fuel` bytes
cut_is_spelled : (fuel place line : ℕ) (bytes : List ℕ) (tokens : List PlacedToken) → length bytes ≤ fuel →
    tokens_from 0 place line bytes ≡ Ok tokens → AreTokens place line bytes tokens
cut_is_spelled fuel place line [] tokens fits is =
    subst (AreTokens place line []) (same_ok [] tokens is) (none place line)
cut_is_spelled zero place line (b ∷ bytes) tokens fits is = absurd (omega arith)
cut_is_spelled (suc fuel) place line (b ∷ bytes) tokens fits is =
    cut_goes_on (lexeme_at (b ∷ bytes)) place line b bytes tokens refl is
    (λ place line behind tokens shorter is. cut_is_spelled fuel place line behind tokens (omega arith) is)

-- the tokens that a text is cut into are its tokens by their spelling
pub spelled : (text : List ℕ) (tokens : List PlacedToken) → tokens_from 0 0 1 text ≡ Ok tokens → AreTokens 0 1 text tokens
spelled text tokens is = cut_is_spelled (length text) 0 1 text tokens (omega arith) is
