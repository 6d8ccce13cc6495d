-- A grammar that decides each choice by the next token is read as it is spelled: what is spelled is read, and
-- what is read is spelled.
use Rattle.std.proofs.Common.{◌≡◌, ℕ, zero, suc, ◌<◌, ◌≤◌, ◌⊎◌, inl, inr, ⊎_elim, List, [], ◌∷◌, length, Bool, true, false, ◌||◌, if◌then◌else◌, Option, Some, None, Result, Ok, Err, is_some, refl, ap, subst, ◌∙◌, arith}
use Rattle.hsail_reader.specs.Grammars.{Grammar, give, token, behind, either, many, on_line, each, line_of, spells, Reading, ◌>>=◌, refuse, found_at, token_at, with_first, many_at, begun_by, begins, read}
use Rattle.hsail_reader.specs.TextTokens.{PlacedToken}
use Rattle.hsail_reader.specs.Nouns.{Flaw, PlacedFlaw}
use Rattle.hsail_reader.specs.declared.fault.Flaw.TheVariants.{Syntax}
use Rattle.hsail_reader.proofs.Options.{chosen, same_ok}

-- what tokens begin with
abbrev pub Front : Type 1
Front = List PlacedToken → Type 0

-- what the rest spells, before what may stand behind it
abbrev pub Behind : {A X : Type 0} → (A → Grammar X) → Front → Front
Behind {A} {X} f F from = (a : A) × (x : X) × (to : List PlacedToken) × spells (f a) x from to × F to

-- what stands behind one of many: the next, or what stops them
abbrev pub Next : {A : Type 0} → (List PlacedToken → Bool) → Grammar A → Front
Next {A} stops g from = (stops from ≡ true) ⊎ ((a : A) × (to : List PlacedToken) × spells g a from to)

-- what is spelled takes a token at least
abbrev pub Takes : {X : Type 0} → Grammar X → Type 0
Takes (give y) = ⊥
Takes (token Is test flaw) = Unit {0}
Takes (behind {A = A} g f) = Takes g ⊎ ((a : A) → Takes (f a))
Takes (either g h) = Takes g × Takes h
Takes (many stops g) = ⊥
Takes (on_line f) = (line : ℕ) → Takes (f line)

-- the next token decides each choice, where F stands behind: a token's test finds what its relation says, no
-- second choice begins as the first, and what is one of many doesn't stop them and takes a token
abbrev pub Decides : {X : Type 0} → Grammar X → Front → Type 0
Decides (give y) F = Unit {0}
Decides (token {X = X} Is test flaw) F = (x : X) (t : PlacedToken) → (Is x t → test t ≡ Some x) × (test t ≡ Some x → Is x t)
Decides (behind {A = A} g f) F = Decides g (Behind f F) × ((a : A) → Decides (f a) F)
Decides (either {X = X} g h) F =
    Decides g F × Decides h F × ((x : X) (from to : List PlacedToken) → spells h x from to → F to → begins g from ≡ false)
Decides (many {A = A} stops g) F =
    Decides g (Next stops g) × Takes g × ((a : A) (from to : List PlacedToken) → spells g a from to → stops from ≡ false)
Decides (on_line f) F = (line : ℕ) → Decides (f line) F

-- what is spelled one after the other takes no tokens from behind
eaches : {A : Type 0} (spelled : A → List PlacedToken → List PlacedToken → Type 0) →
    ((a : A) (from to : List PlacedToken) → spelled a from to → length to ≤ length from) →
    (xs : List A) (from to : List PlacedToken) → each spelled xs from to → length to ≤ length from
eaches spelled law [] from to s =
    let e = ap length s in omega (arith, e)
eaches spelled law (x ∷ xs) from to s =
    let first = law x from s.0 s.1 in
    let second = eaches spelled law xs s.0 to s.2 in omega (arith, first, second)

-- behind what is spelled there are no more tokens than before
pub no_longer : {X : Type 0} (g : Grammar X) (x : X) (from to : List PlacedToken) → spells g x from to → length to ≤ length from
no_longer (give y) x from to s =
    let e = ap length s.0 in omega (arith, e)
no_longer (token Is test flaw) x from to s =
    let e = ap length s.1 in omega (arith, e)
no_longer (behind g f) x from to s =
    let first = no_longer g s.0 from s.1 s.2 in
    let second = no_longer (f s.0) x s.1 to s.3 in omega (arith, first, second)
no_longer (either g h) x from to s = ⊎_elim (no_longer g x from to) (no_longer h x from to) s
no_longer (many stops g) xs from to s = eaches (spells g) (λ a from to s. no_longer g a from to s) xs from to s.0
no_longer (on_line f) x from to s = no_longer (f (line_of from)) x from to s

takes : {X : Type 0} (g : Grammar X) → Takes g → (x : X) (from to : List PlacedToken) → spells g x from to → length to < length from
takes (give y) some x from to s = absurd some
takes (token Is test flaw) some x from to s =
    let e = ap length s.1 in omega (arith, e)
takes (behind g f) (inl some) x from to s =
    let first = takes g some s.0 from s.1 s.2 in
    let second = no_longer (f s.0) x s.1 to s.3 in omega (arith, first, second)
takes (behind g f) (inr some) x from to s =
    let first = no_longer g s.0 from s.1 s.2 in
    let second = takes (f s.0) (some s.0) x s.1 to s.3 in omega (arith, first, second)
takes (either g h) some x from to s = ⊎_elim (takes g some.0 x from to) (takes h some.1 x from to) s
takes (many stops g) some x from to s = absurd some
takes (on_line f) some x from to s = takes (f (line_of from)) (some (line_of from)) x from to s

or_right : (b : Bool) → (b || true) ≡ true
or_right true = refl
or_right false = refl

-- what is spelled is begun
begun : {X : Type 0} (g : Grammar X) (F : Front) → Decides g F → (x : X) (from to : List PlacedToken) → spells g x from to → begins g from ≡ true
begun (give y) F d x from to s = refl
begun (token Is test flaw) F d x from to s = ap (begun_by test) s.1 ∙ ap is_some ((d x s.0).0 s.2)
begun (behind g f) F d x from to s = begun g (Behind f F) d.0 s.0 from s.1 s.2
begun (either g h) F d x from to s =
    ⊎_elim
    (λ p. ap (λ b. b || begins h from) (begun g F d.0 x from to p))
    (λ q. ap (λ b. begins g from || b) (begun h F d.1 x from to q) ∙ or_right (begins g from))
    s
begun (many stops g) F d xs from to s = refl
begun (on_line f) F d x from to s = begun (f (line_of from)) F (d (line_of from)) x from to s

-- what spells several is read one after the other, up to what stops them
many_complete : {A : Type 0} (stops : List PlacedToken → Bool) (g : Grammar A) →
    ((a : A) (from to : List PlacedToken) → spells g a from to → Next stops g to → read g from ≡ Ok (a, to)) →
    Takes g → ((a : A) (from to : List PlacedToken) → spells g a from to → stops from ≡ false) →
    (n : ℕ) (xs : List A) (from to : List PlacedToken) → each (spells g) xs from to → stops to ≡ true → length from ≤ n →
    many_at stops (read g) n from ≡ Ok (xs, to)
many_complete stops g one some goes_on zero [] from to s end enough = rw (s, end) refl
many_complete stops g one some goes_on (suc n) [] from to s end enough = rw (s, end) refl
many_complete stops g one some goes_on zero (x ∷ xs) from to s end enough =
    let taken = takes g some x from s.0 s.1 in
    let none : ⊥ = omega (arith, taken, enough) in absurd none
many_complete {A} stops g one some goes_on (suc n) (x ∷ xs) from to s end enough =
    let taken = takes g some x from s.0 s.1 in
    let fewer : length s.0 ≤ n = omega (arith, taken, enough) in
    rw (
      goes_on x from s.0 s.1,
      one x from s.0 s.1 (next xs s.2),
      many_complete stops g one some goes_on n xs s.0 to s.2 end fewer,
    ) refl
  where
    next : (xs : List A) → each (spells g) xs s.0 to → Next stops g s.0
    next [] others = inl (ap stops others ∙ end)
    next (y ∷ ys) others = inr (y, others.0, others.1)

-- what is spelled is read
pub complete : {X : Type 0} (g : Grammar X) (F : Front) → Decides g F → (x : X) (from to : List PlacedToken) →
    spells g x from to → F to → read g from ≡ Ok (x, to)
complete {X} (give y) F d x from to s may = ap (λ (z : X). Ok (z, from)) s.1 ∙ ap (λ ts. Ok (x, ts)) s.0
complete (token Is test flaw) F d x from to s may =
    ap (token_at test flaw) s.1 ∙ ap (λ o. found_at o (flaw s.0) (s.0 ∷ to) to) ((d x s.0).0 s.2)
complete {X} (behind {A = A} g f) F d x from to s may =
    ap (λ (r : Reading A). r >>= λ a. read (f a.0) a.1) (complete g (Behind f F) d.0 s.0 from s.1 s.2 (s.0, x, to, s.3, may))
    ∙ complete (f s.0) F (d.1 s.0) x s.1 to s.3 may
complete (either g h) F d x from to s may =
    ⊎_elim
    (λ p. ap (λ b. if b then read g from else read h from) (begun g F d.0 x from to p) ∙ complete g F d.0 x from to p may)
    (λ q. ap (λ b. if b then read g from else read h from) (d.2 x from to q may) ∙ complete h F d.1 x from to q may)
    s
complete (many stops g) F d xs from to s may =
    let enough : length from ≤ suc (length from) = omega arith in
    many_complete stops g (λ a from to s next. complete g (Next stops g) d.0 a from to s next) d.1 d.2
    (suc (length from)) xs from to s.0 s.1 enough
complete (on_line f) F d x from to s may = complete (f (line_of from)) F (d (line_of from)) x from to s may

-- what holds of one reading holds of the same reading
carried : {A : Type 0} (P : A → Type 0) (x y : A) → ◌≡◌ {A = Result A PlacedFlaw} (Ok x) (Ok y) → P x → P y
carried P x y is p = subst P (same_ok x y is) p

-- a refusal is no reading, whatever its flaw
no_reading : {A B : Type 0} (tokens : List PlacedToken) (flaw : Flaw) (y : B) → refuse {X = B} tokens flaw ≡ Ok y → A
no_reading tokens flaw y is = cc

pub bound : {A B : Type 0} (read : Result A PlacedFlaw) (f : A → Result B PlacedFlaw) (y : B) → (read >>= f) ≡ Ok y →
    (x : A) × (read ≡ Ok x) × (f x ≡ Ok y)
bound (Ok x) f y is = (x, refl, is)
bound (Err r) f y is = cc

token_sound : {X : Type 0} (Is : X → PlacedToken → Type 0) (test : PlacedToken → Option X) (flaw : PlacedToken → Flaw) →
    ((x : X) (t : PlacedToken) → test t ≡ Some x → Is x t) → (from : List PlacedToken) (y : X × List PlacedToken) →
    token_at test flaw from ≡ Ok y → (t : PlacedToken) × (from ≡ t ∷ y.1) × Is y.0 t
token_sound Is test flaw law [] y is = cc
token_sound {X} Is test flaw law (t ∷ tokens) y is = found (test t) refl is
  where
    found : (o : Option X) → test t ≡ o → found_at o (flaw t) (t ∷ tokens) tokens ≡ Ok y →
        (u : PlacedToken) × (t ∷ tokens ≡ u ∷ y.1) × Is y.0 u
    found None e is = cc
    found (Some x) e is =
        carried (λ y. (u : PlacedToken) × (t ∷ tokens ≡ u ∷ y.1) × Is y.0 u) (x, tokens) y is (t, refl, law x t e)

-- what is read one after the other spells each, and stops behind the last
many_sound : {A : Type 0} (stops : List PlacedToken → Bool) (g : Grammar A) →
    ((from : List PlacedToken) (y : A × List PlacedToken) → read g from ≡ Ok y → spells g y.0 from y.1) →
    (n : ℕ) (from : List PlacedToken) (y : List A × List PlacedToken) →
    many_at stops (read g) n from ≡ Ok y → each (spells g) y.0 from y.1 × (stops y.1 ≡ true)
many_sound stops g law zero from y is =
    ⊎_elim
    (λ w. carried (λ q. each (spells g) q.0 from q.1 × (stops q.1 ≡ true)) ([], from) y w.1 (refl, w.0))
    (λ w. no_reading from Syntax y w.1)
    (chosen (stops from) (Ok ([], from)) (refuse from Syntax) (Ok y) is)
many_sound stops g law (suc n) from y is =
    ⊎_elim
    (λ w. carried (λ q. each (spells g) q.0 from q.1 × (stops q.1 ≡ true)) ([], from) y w.1 (refl, w.0))
    (λ w. let x = bound (read g from) (λ x. with_first x.0 (many_at stops (read g) n x.1)) y w.1 in
    let xs = bound (many_at stops (read g) n x.0.1) (λ xs. Ok (x.0.0 ∷ xs.0, xs.1)) y x.2 in
    let others = many_sound stops g law n x.0.1 xs.0 xs.1 in
    carried (λ q. each (spells g) q.0 from q.1 × (stops q.1 ≡ true)) (x.0.0 ∷ xs.0.0, xs.0.1) y xs.2
    ((x.0.1, law from x.0 x.1, others.0), others.1))
    (chosen (stops from) (Ok ([], from)) (read g from >>= λ x. with_first x.0 (many_at stops (read g) n x.1)) (Ok y) is)

-- what is read is spelled
pub sound : {X : Type 0} (g : Grammar X) (F : Front) → Decides g F → (from : List PlacedToken) (y : X × List PlacedToken) →
    read g from ≡ Ok y → spells g y.0 from y.1
sound {X} (give x) F d from y is =
    let e = same_ok (x, from) y is in (ap (λ q. q.1) e, ap (λ q. q.0) e)
sound (token Is test flaw) F d from y is = token_sound Is test flaw (λ x t. (d x t).1) from y is
sound (behind g f) F d from y is =
    let a = bound (read g from) (λ a. read (f a.0) a.1) y is in
    (a.0.0, a.0.1, sound g (Behind f F) d.0 from a.0 a.1, sound (f a.0.0) F (d.1 a.0.0) a.0.1 y a.2)
sound (either g h) F d from y is =
    ⊎_elim
    (λ w. inl (sound g F d.0 from y w.1))
    (λ w. inr (sound h F d.1 from y w.1))
    (chosen (begins g from) (read g from) (read h from) (Ok y) is)
sound (many stops g) F d from y is =
    many_sound stops g (λ from y is. sound g (Next stops g) d.0 from y is) (suc (length from)) from y is
sound (on_line f) F d from y is = sound (f (line_of from)) F (d (line_of from)) from y is

-- what takes a token is read before fewer tokens
pub shortens : {X : Type 0} (g : Grammar X) (F : Front) → Decides g F → Takes g → (from : List PlacedToken) (y : X × List PlacedToken) →
    read g from ≡ Ok y → length y.1 < length from
shortens g F d some from y is = takes g some y.0 from y.1 (sound g F d from y is)
