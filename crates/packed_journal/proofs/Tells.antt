-- What is read at the front of some bytes tells them: they are what is written of it, and the bytes behind it.
use Rattle.std.proofs.Common.{◌≡◌, ℕ, Bool, true, false, List, ◌++◌, Some, None, refl, sym, subst}
use Rattle.std.specs.Bool.{⊤}
use Rattle.std.specs.Prelude.{if◌then◌else◌}
use Rattle.packed_journal.specs.Words.{Reading, and_then, where_some}

abbrev pub Tells : {X : Type 0} → (X → List ℕ) → List ℕ → Reading X → Type 0
Tells form bytes None = ⊤
Tells form bytes (Some read) = bytes ≡ form read.0 ++ read.1

-- what was read tells the bytes
pub told : {X : Type 0} (form : X → List ℕ) (bytes : List ℕ) (read : Reading X) (x : X) (rest : List ℕ) → Tells form bytes read → read ≡ Some (x, rest) → bytes ≡ form x ++ rest
told form bytes None x rest t e = cc
told form bytes (Some read) x rest t e = subst (Tells form bytes) e t

-- of two readings, the second behind the first
pub tells_then : {A B : Type 0} (first : A → List ℕ) (form : B → List ℕ) (front bytes : List ℕ) (read : Reading A) (next : A → List ℕ → Reading B) →
    Tells first bytes read → ((x : A) (rest : List ℕ) → Tells form (front ++ (first x ++ rest)) (next x rest)) → Tells form (front ++ bytes) (and_then read next)
tells_then first form front bytes None next t go = tt
tells_then first form front bytes (Some read) next t go = subst (λ all. Tells form (front ++ all) (next read.0 read.1)) (sym t) (go read.0 read.1)

-- of a test
pub tells_if : {X : Type 0} (form : X → List ℕ) (bytes : List ℕ) (test : Bool) (one other : Reading X) →
    (test ≡ true → Tells form bytes one) → (test ≡ false → Tells form bytes other) → Tells form bytes (if test then one else other)
tells_if form bytes true one other yes_ no_ = yes_ refl
tells_if form bytes false one other yes_ no_ = no_ refl

-- of a value, where a test holds
pub tells_where : {X : Type 0} (form : X → List ℕ) (bytes : List ℕ) (test : Bool) (x : X) (rest : List ℕ) →
    (test ≡ true → bytes ≡ form x ++ rest) → Tells form bytes (where_some (if test then Some x else None) rest)
tells_where form bytes true x rest so = so refl
tells_where form bytes false x rest so = tt
