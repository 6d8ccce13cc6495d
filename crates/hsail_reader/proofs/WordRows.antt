-- The rows of the table spell different words, and so do the types of a set: the first that spells a text
-- is the one that does.
use Rattle.std.proofs.Common.{◌≡◌, ℕ, zero, suc, ◌⊎◌, inl, inr, ⊎_elim, List, [], ◌∷◌, ◌++◌, Bool, true, false, ◌&&◌, ◌||◌, not, ◌==◌, if◌then◌else◌, Option, Some, None, refl, sym, ap, subst, ◌∙◌, codes, append-nil, arith}
use Rattle.std.proofs.lemmas.Bool.Decides.{eqb_tells}
use Rattle.std.specs.List.{Contains}
use Rattle.hsail_reader.specs.Bytes.{behind, or_else, first_of, ◌>>=◌}
use Rattle.hsail_reader.specs.Rows.{types_of, type_name}
use Rattle.hsail_reader.specs.Words.{is_end, is_spelled, type_among, type_at}
use Rattle.hsail_reader.specs.WordSpelling.{SpellsType}
use Rattle.hsail_reader.specs.Nouns.{DataType, TypeSet, B1, Bit, Untyped}
use Rattle.hsail_reader.proofs.Options.{bound, chosen, nothing, same_some, true_is_not_false}
use Rattle.hsail_reader.proofs.Runs.{behind_front, behind_parts}

-- the texts differ at a place that both have
abbrev pub clash : List ℕ → List ℕ → Bool
clash [] text = false
clash (f ∷ front) [] = false
clash (f ∷ front) (b ∷ text) = not (b == f) || clash front text

-- a text that differs from a front doesn't begin with it, whatever stands behind the text
pub clash_not_behind : (front text rest : List ℕ) → clash front text ≡ true → behind front (text ++ rest) ≡ None
clash_not_behind [] text rest e = true_is_not_false false e refl
clash_not_behind (f ∷ front) [] rest e = true_is_not_false false e refl
clash_not_behind (f ∷ front) (b ∷ text) rest e =
    ⊎_elim
    (λ w. let later : clash front text ≡ true = rw w.0 at e in rw w.0 (clash_not_behind front text rest later))
    (λ w. rw w.0 refl)
    (eqb_tells b f)

-- an element of a list is its first, or one of the others
pub contains_cases : {A : Type 0} (y x : A) (ys : List A) → Contains (y ∷ ys) x → (y ≡ x) ⊎ Contains ys x
contains_cases y x ys (zero, lt, e) = inl e
contains_cases y x ys (suc k, lt, e) = inr (k, omega arith, e)

-- the empty list has no elements
pub contains_none : {A : Type 0} (x : A) → Contains [] x → ⊥
contains_none x c = omega (arith, c.1)

-- a conjunction holds where both of its parts do
pub both : (p q : Bool) → (p && q) ≡ true → (p ≡ true) × (q ≡ true)
both true q e = (refl, e)
both false q e = true_is_not_false false e refl

-- all of these pass a test
abbrev pub every : {A : Type 0} → (A → Bool) → List A → Bool
every test [] = true
every test (x ∷ others) = test x && every test others

pub every_passes : {A : Type 0} (test : A → Bool) (xs : List A) (x : A) → every test xs ≡ true → Contains xs x → test x ≡ true
every_passes test [] x e c = absurd (contains_none x c)
every_passes test (y ∷ others) x e c =
    let parts = both (test y) (every test others) e in
    ⊎_elim (λ same. subst (λ x. test x ≡ true) same parts.0) (λ later. every_passes test others x parts.1 later) (contains_cases y x others c)

-- a text differs from the spellings of all these
abbrev pub clashes_all : {A : Type 0} → (A → List ℕ) → List ℕ → List A → Bool
clashes_all spelling front xs = every (λ x. clash front (spelling x)) xs

-- so none that begins as one of them begins with it
pub clashes_not_behind : {A : Type 0} (spelling : A → List ℕ) (front : List ℕ) (xs : List A) (x : A) (rest : List ℕ) →
    clashes_all spelling front xs ≡ true → Contains xs x → behind front (spelling x ++ rest) ≡ None
clashes_not_behind spelling front xs x rest e c =
    clash_not_behind front (spelling x) rest (every_passes (λ x. clash front (spelling x)) xs x e c)

-- each of these stands apart from those behind it
abbrev pub all_apart : {A : Type 0} → (A → A → Bool) → List A → Bool
all_apart apart [] = true
all_apart apart (x ∷ others) = every (apart x) others && all_apart apart others

-- where those that stand apart from the one that reads a text don't read it, the first that reads it is that one
pub apart_is_read : {A B : Type 0} (apart : A → A → Bool) (read : A → List ℕ → Option B) (x : A) (text : List ℕ) (y : B) →
    ((z : A) → apart z x ≡ true → read z text ≡ None) → (xs : List A) → all_apart apart xs ≡ true → Contains xs x →
    read x text ≡ Some y → first_of read xs text ≡ Some y
apart_is_read apart read x text y none [] e c is = absurd (contains_none x c)
apart_is_read {A} apart read x text y none (z ∷ others) e c is =
    let parts = both (every (apart z) others) (all_apart apart others) e in
    ⊎_elim
    (λ (same : z ≡ x). ap (λ o. or_else o (first_of read others text)) (ap (λ (w : A). read w text) same ∙ is))
    (λ later. ap (λ o. or_else o (first_of read others text)) (none z (every_passes (apart z) others x parts.0 later))
    ∙ apart_is_read apart read x text y none others parts.1 later is)
    (contains_cases z x others c)

-- the spellings of these differ from one another
abbrev pub all_differ : {A : Type 0} → (A → List ℕ) → List A → Bool
all_differ spelling xs = all_apart (λ z x. clash (spelling z) (spelling x)) xs

-- where the spellings differ, and each reads nothing where its own doesn't stand, the one that stands there reads
pub first_is_read : {A B : Type 0} (spelling : A → List ℕ) (read : A → List ℕ → Option B) →
    ((x : A) (text : List ℕ) → behind (spelling x) text ≡ None → read x text ≡ None) →
    (xs : List A) (x : A) (rest : List ℕ) (y : B) → all_differ spelling xs ≡ true → Contains xs x →
    read x (spelling x ++ rest) ≡ Some y → first_of read xs (spelling x ++ rest) ≡ Some y
first_is_read spelling read none xs x rest y e c is =
    apart_is_read (λ z x. clash (spelling z) (spelling x)) read x (spelling x ++ rest) y
    (λ z apart. none z (spelling x ++ rest) (clash_not_behind (spelling z) (spelling x) rest apart)) xs e c is

-- what is read, one of them reads
pub first_is_found : {A B : Type 0} (read : A → List ℕ → Option B) (xs : List A) (text : List ℕ) (y : B) →
    first_of read xs text ≡ Some y → (x : A) × Contains xs x × (read x text ≡ Some y)
first_is_found read [] text y is = nothing y is
first_is_found {A} {B} read (x ∷ others) text y is = by (read x text) refl is (first_is_found read others text y)
  where
    by : (o : Option B) → read x text ≡ o → or_else o (first_of read others text) ≡ Some y →
        (first_of read others text ≡ Some y → (z : A) × Contains others z × (read z text ≡ Some y)) →
        (z : A) × Contains (x ∷ others) z × (read z text ≡ Some y)
    by None e is later =
        let f = later is in (f.0, (suc f.1.0, omega (arith, f.1.1), f.1.2), f.2)
    by (Some z) e is later = (x, (0, omega arith, refl), e ∙ is)

-- a whole text is spelled so just where it is that text
pub spelled_is : (spelling text : List ℕ) → is_spelled spelling text ≡ true → text ≡ spelling
spelled_is spelling text e = go (behind spelling text) refl e
  where
    go : (o : Option (List ℕ)) → behind spelling text ≡ o → is_end o ≡ true → text ≡ spelling
    go None found e = true_is_not_false false e refl
    go (Some []) found e = behind_parts spelling text [] found ∙ append-nil spelling
    go (Some (b ∷ rest)) found e = true_is_not_false false e refl

-- the names of the types of a set differ
types_differ : (set : TypeSet) → all_differ type_name (types_of set) ≡ true
types_differ Bit = refl
types_differ _ = refl

-- a type that is spelled so
abbrev type_spelled : DataType → List ℕ → Option DataType
type_spelled t text = if is_spelled (type_name t) text then Some t else None

-- a type of a set is read where its name stands
pub name_is_read : (set : TypeSet) (t : DataType) → Contains (types_of set) t →
    type_among (types_of set) (type_name t) ≡ Some t
name_is_read set t c =
    ap (type_among (types_of set)) (sym (append-nil (type_name t)))
    ∙ first_is_read type_name type_spelled (λ t text e. ap (λ o. if is_end o then Some t else None) e) (types_of set) t [] t
    (types_differ set) c (ap (λ o. if is_end o then Some t else None) (behind_front (type_name t) []))

-- a type is read where its name stands
pub name_is_found : (types : List DataType) (text : List ℕ) (t : DataType) → type_among types text ≡ Some t →
    (text ≡ type_name t) × Contains types t
name_is_found types text t is =
    let f = first_is_found type_spelled types text t is in
    ⊎_elim
    (λ w. let same : f.0 ≡ t = same_some f.0 t w.1 in
    (spelled_is (type_name f.0) text w.0 ∙ ap type_name same, subst (Contains types) same f.1))
    (λ w. nothing t w.1)
    (chosen (is_spelled (type_name f.0) text) (Some f.0) None (Some t) f.2)

-- a type is read where it is spelled
pub type_is_read : (set : TypeSet) (t : DataType) (text : List ℕ) → SpellsType set t text → type_at set text ≡ Some t
type_is_read Untyped t text (e, is) = ap (type_at Untyped) e ∙ ap Some (sym is)
type_is_read set t text (e, c) = ap (type_at set) e ∙ name_is_read set t c

-- a type that is read is spelled
named_type : (set : TypeSet) (bytes : List ℕ) (t : DataType) → (behind (codes "_") bytes >>= type_among (types_of set)) ≡ Some t →
    (bytes ≡ codes "_" ++ type_name t) × Contains (types_of set) t
named_type set bytes t is =
    let b = bound (behind (codes "_") bytes) (type_among (types_of set)) t is in
    let f = name_is_found (types_of set) b.0 t b.2 in
    (behind_parts (codes "_") bytes b.0 b.1 ∙ ap (λ xs. codes "_" ++ xs) f.0, f.1)

pub type_is_found : (set : TypeSet) (bytes : List ℕ) (t : DataType) → type_at set bytes ≡ Some t → SpellsType set t bytes
type_is_found Untyped [] t is = (refl, sym (same_some B1 t is))
type_is_found Untyped (b ∷ bytes) t is = absurd (contains_none t (named_type Untyped (b ∷ bytes) t is).1)
type_is_found set bytes t is = named_type set bytes t is
