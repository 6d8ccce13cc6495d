-- A text is read as a module just where the grammar has it as a text of that module.
use Rattle.std.proofs.Common.{◌≡◌, ℕ, ◌<◌, ◌≤◌, ⊎_elim, List, [], ◌∷◌, length, true, false, nat_lt, if◌then◌else◌, Result, Ok, Err, sym, ap, subst, ◌∙◌, arith, refl}
use Rattle.std.proofs.lemmas.Bool.{cases_Bool}
use Rattle.std.proofs.lemmas.Bool.Decides.{nat_tests}
use Rattle.hsail_reader.proofs.Options.{no_ok, same_ok}
use Rattle.hsail_reader.specs.Faults.{error_of, too_long, Fails}
use Rattle.hsail_reader.specs.Grammar.{AnswersByGrammar, is_none_left, kernels, module_text, SpellModule, IsTextOf, place_inside, index, address_inside, address, operands, performed, labelled, plain, unlabelled, item, items, body, alignment, argument, next_argument, some_arguments, signature, kernel_begin, kernel, fields}
use Rattle.hsail_reader.specs.Grammars.{spells, read, ◌>>=◌}
use Rattle.hsail_reader.specs.TextTokens.{PlacedToken}
use Rattle.hsail_reader.specs.Syntax.{module_at, read_at, located, reading}
use Rattle.hsail_reader.specs.Tokens.{tokens_of}
use Rattle.hsail_reader.specs.Nouns.{Module, ReadError, PlacedFlaw, Stop}
use Rattle.hsail_reader.specs.declared.fault.Stop.TheVariants as stop
use Rattle.hsail_reader.proofs.Decided.{module_decides}
use Rattle.hsail_reader.proofs.Grammars.{Front, complete, sound, bound}
use Rattle.hsail_reader.proofs.TextCut.{cut, spelled}
use Rattle.hsail_reader.specs.Sample.{sample, sample_module}
use Rattle.hsail_reader.specs.Words.{instruction_at, word_of}

abbrev anything : Front
anything to = Unit {0}

-- what spells a module is read as it
pub module_read : (tokens : List PlacedToken) (m : Module) → SpellModule tokens m → module_at tokens ≡ Ok m
unfolding module_at
module_read tokens m s =
    ap (λ r. r >>= λ m. Ok m.0) (complete module_text anything (module_decides anything) m tokens [] s tt)

-- behind what spells a module no token is left
none_left : (m : Module) (from to : List PlacedToken) → spells module_text m from to → to ≡ []
unfolding module_text kernels
none_left m from to s =
    let end = s.3.3.3 in none to (subst (λ ts. is_none_left ts ≡ true) end.3.0 end.2.3.1)
  where
    none : (ts : List PlacedToken) → is_none_left ts ≡ true → ts ≡ []
    none [] e = cc
    none (t ∷ ts) e = cc

-- what is read as a module spells it
pub module_spelled : (tokens : List PlacedToken) (m : Module) → module_at tokens ≡ Ok m → SpellModule tokens m
unfolding module_at
module_spelled tokens m is =
    let y = bound (read module_text tokens) (λ m. Ok m.0) m is in
    let s = sound module_text anything (module_decides anything) tokens y.0 y.1 in
    let same : y.0.0 ≡ m = same_ok y.0.0 m y.2 in
    let end = none_left y.0.0 tokens y.0.1 s in
    subst (λ m. SpellModule tokens m) same (subst (λ to. spells module_text y.0.0 tokens to) end s)

short : (n : ℕ) → n ≤ 65536 → nat_lt 65536 n ≡ false
short n fits = grind (arith, nat_tests)

within : (n : ℕ) → nat_lt 65536 n ≡ false → n ≤ 65536
within n not_over = grind (arith, nat_tests)

-- a text over the limit is a text of no module
pub long_is_no_text : (text : List ℕ) → 65536 < length text → (m : Module) → IsTextOf text m → ⊥
unfolding IsTextOf
long_is_no_text text over m s = omega (arith, over, s.0)

-- a text of a module is read as it
text_at : (text : List ℕ) (m : Module) → IsTextOf text m → read_at text ≡ Ok m
unfolding IsTextOf
text_at text m s =
    ap (λ tokens. tokens >>= module_at) (cut text s.1.0 s.1.1) ∙ module_read s.1.0 m s.1.2

-- what is read within the limit is a text of the module
pub short_is_text : (text : List ℕ) (m : Module) → length text ≤ 65536 → read_at text ≡ Ok m → IsTextOf text m
unfolding IsTextOf
short_is_text text m fits is =
    let tokens = bound (tokens_of text) module_at m is in
    (fits, (tokens.0, spelled text tokens.0 tokens.1, module_spelled tokens.0 m tokens.2))

-- what a stop is told as is by the grammar
pub told_by_grammar : (text : List ℕ) (s : Stop) (x : ReadError) → x ≡ error_of text s → Fails s (read_at text)
    → AnswersByGrammar text (Err x)
told_by_grammar text stop.OutOfMemory x is fails = subst (λ e. AnswersByGrammar text (Err e)) (sym is) tt
told_by_grammar text (stop.Refused r) x is fails =
    subst (λ e. AnswersByGrammar text (Err e)) (sym is) (λ m s. no_ok r m (sym fails ∙ text_at text m s))

fits_of : (text : List ℕ) (m : Module) → IsTextOf text m → length text ≤ 65536
unfolding IsTextOf
fits_of text m s = s.0

-- the text of a module is read as it
pub text_is_read : (text : List ℕ) (m : Module) → IsTextOf text m → reading text ≡ Ok m
unfolding reading
text_is_read text m s =
    ap (λ b. if b then Err too_long else located text (read_at text)) (short (length text) (fits_of text m s))
    ∙ ap (located text) (text_at text m s)

located_is : (text : List ℕ) (read : Result Module PlacedFlaw) (m : Module) → located text read ≡ Ok m → read ≡ Ok m
located_is text (Ok n) m is = cc
located_is text (Err r) m is = cc

-- a text is a text of one module at most
pub one_module : (text : List ℕ) (a b : Module) → IsTextOf text a → IsTextOf text b → a ≡ b
one_module text a b x y = same_ok a b (sym (text_is_read text a x) ∙ text_is_read text b y)

-- what is read as a module is a text of it
pub text_is_spelled : (text : List ℕ) (m : Module) → reading text ≡ Ok m → IsTextOf text m
unfolding reading
text_is_spelled text m is =
    ⊎_elim
    (λ over. no_ok too_long m (rw over at is))
    (λ not_over. short_is_text text m (within (length text) not_over)
    (located_is text (read_at text) m (rw not_over at is)))
    (cases_Bool (nat_lt 65536 (length text)))

sample_is_read : reading sample ≡ Ok sample_module
unfolding sample sample_module reading module_at module_text fields kernels kernel kernel_begin body signature some_arguments next_argument argument alignment items item labelled unlabelled plain performed operands index place_inside address_inside address instruction_at word_of
sample_is_read = refl

pub sample_is_text : IsTextOf sample sample_module
sample_is_text = text_is_spelled sample sample_module sample_is_read
