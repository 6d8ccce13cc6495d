-- What a grammar is, which tokens it spells and how it is read (own): `spells` is what is promised, `read` is
-- what reads, and both go over the same grammar.
use Rattle.std.specs.Prelude.{◌≡◌, ℕ, zero, suc, ◌⊎◌, List, [], ◌∷◌, Bool, true, false, ◌||◌, if◌then◌else◌, Option, Some, None, Result, Ok, Err, is_some, length}
use Rattle.hsail_reader.specs.Faults.{placed_flaw}
use Rattle.hsail_reader.specs.TextTokens.{PlacedToken}
use Rattle.hsail_reader.specs.Nouns.{Flaw, PlacedFlaw}
use Rattle.hsail_reader.specs.declared.fault.Flaw.TheVariants.{Syntax}

-- a grammar of an X:
-- give x: nothing, which stands for x
-- token Is test flaw: one token that is an X; a test finds it, and at another token the text has this flaw
-- behind g f: a g, and behind it what its value asks for
-- either g h: a g or an h
-- many stops g: one g after the other, up to tokens that stop it
-- on_line f: what is asked for on the line of its first token
pub data Grammar : Type 0 → Type 1 where
  give : {X : Type 0} → X → Grammar X
  token : {X : Type 0} → (X → PlacedToken → Type 0) → (PlacedToken → Option X) → (PlacedToken → Flaw) → Grammar X
  behind : {A X : Type 0} → Grammar A → (A → Grammar X) → Grammar X
  either : {X : Type 0} → Grammar X → Grammar X → Grammar X
  many : {A : Type 0} → (List PlacedToken → Bool) → Grammar A → Grammar (List A)
  on_line : {X : Type 0} → (ℕ → Grammar X) → Grammar X

-- one after the other, from some tokens to those behind
abbrev pub each : {X : Type 0} → (X → List PlacedToken → List PlacedToken → Type 0) → List X → List PlacedToken → List PlacedToken → Type 0
each spelled [] from to = from ≡ to
each spelled (x ∷ xs) from to = (between : List PlacedToken) × spelled x from between × each spelled xs between to

-- the line of the first token
abbrev pub line_of : List PlacedToken → ℕ
line_of [] = 0
line_of (t ∷ tokens) = t.line

-- spells g x from to: the tokens `from`, up to where the tokens `to` begin, are a g that stands for x
abbrev pub spells : {X : Type 0} → Grammar X → X → List PlacedToken → List PlacedToken → Type 0
spells (give y) x from to = (from ≡ to) × (y ≡ x)
spells (token Is test flaw) x from to = (t : PlacedToken) × (from ≡ t ∷ to) × Is x t
spells (behind {A = A} g f) x from to =
    (a : A) × (between : List PlacedToken) × spells g a from between × spells (f a) x between to
spells (either g h) x from to = spells g x from to ⊎ spells h x from to
spells (many stops g) xs from to = each (spells g) xs from to × (stops to ≡ true)
spells (on_line f) x from to = spells (f (line_of from)) x from to

-- what is read at the front of some tokens, with the tokens behind it; or the first fault
abbrev pub Reading : Type 0 → Type 0
Reading X = Result (X × List PlacedToken) PlacedFlaw

infixl 10 ◌>>=◌
abbrev pub ◌>>=◌ : {A B : Type 0} → Result A PlacedFlaw → (A → Result B PlacedFlaw) → Result B PlacedFlaw
(Ok x) >>= f = f x
(Err r) >>= f = Err r

abbrev pub place_of : List PlacedToken → Option ℕ
place_of [] = None
place_of (t ∷ tokens) = Some t.place

-- a fault at the first of these tokens, or at the end of the text
abbrev pub refuse : {X : Type 0} → List PlacedToken → Flaw → Result X PlacedFlaw
refuse tokens flaw = Err (placed_flaw (place_of tokens) flaw)

abbrev pub found_at : {X : Type 0} → Option X → Flaw → List PlacedToken → List PlacedToken → Reading X
found_at None flaw tokens rest = refuse tokens flaw
found_at (Some x) flaw tokens rest = Ok (x, rest)

-- one token, of which something is found
abbrev pub token_at : {X : Type 0} → (PlacedToken → Option X) → (PlacedToken → Flaw) → List PlacedToken → Reading X
token_at test flaw [] = refuse [] Syntax
token_at test flaw (t ∷ tokens) = found_at (test t) (flaw t) (t ∷ tokens) tokens

abbrev pub with_first : {X : Type 0} → X → Reading (List X) → Reading (List X)
with_first x read = read >>= λ xs. Ok (x ∷ xs.0, xs.1)

-- one after the other, up to tokens that stop it, and fewer than n
abbrev pub many_at : {X : Type 0} → (List PlacedToken → Bool) → (List PlacedToken → Reading X) → ℕ → List PlacedToken → Reading (List X)
many_at stops one zero tokens = if stops tokens then Ok ([], tokens) else refuse tokens Syntax
many_at stops one (suc n) tokens =
    if stops tokens then Ok ([], tokens)
    else one tokens >>= λ x. with_first x.0 (many_at stops one n x.1)

-- one after the other, up to tokens that stop it; each takes a token at least, so none is too many
abbrev pub all_at : {X : Type 0} → (List PlacedToken → Bool) → (List PlacedToken → Reading X) → List PlacedToken → Reading (List X)
all_at stops one tokens = many_at stops one (suc (length tokens)) tokens

abbrev pub begun_by : {X : Type 0} → (PlacedToken → Option X) → List PlacedToken → Bool
begun_by test [] = false
begun_by test (t ∷ tokens) = is_some (test t)

-- the next token begins a g
abbrev pub begins : {X : Type 0} → Grammar X → List PlacedToken → Bool
begins (give y) from = true
begins (token Is test flaw) from = begun_by test from
begins (behind g f) from = begins g from
begins (either g h) from = begins g from || begins h from
begins (many stops g) from = true
begins (on_line f) from = begins (f (line_of from)) from

-- a g at the front of some tokens: the next token decides each choice
abbrev pub read : {X : Type 0} → Grammar X → List PlacedToken → Reading X
read (give y) from = Ok (y, from)
read (token Is test flaw) from = token_at test flaw from
read (behind g f) from = read g from >>= λ a. read (f a.0) a.1
read (either g h) from = if begins g from then read g from else read h from
read (many stops g) from = all_at stops (read g) from
read (on_line f) from = read (f (line_of from)) from
