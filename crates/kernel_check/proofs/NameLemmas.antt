-- Names are found in the plain list as in the map behind it.
use Rattle.std.proofs.Common.{◌≡◌, ℕ, Bool, true, false, cond, List, [], ◌∷◌, ◌++◌, nat_eq, Option, Some, None, is_some, refl, ap, sym, ◌∙◌}
use Rattle.std.specs.Borrow.{Bor}
use Rattle.std.specs.Cmp.Lexicographic.{pointwise}
use Rattle.std.specs.Map.{lookup}
use Rattle.indexmap.specs.IndexMap.{IndexMap, insert_entry}
use Rattle.indexmap.proofs.CallerLemmas.{insert_entry-new}
use Rattle.std.proofs.lemmas.List.{map-append}
use Rattle.std.specs.Str.{bytes_eq}
use Rattle.std.proofs.lemmas.Slice.Eq.{bytes_eq-Decides}
use Rattle.kernel_check.specs.Names.{Known, find}
use Rattle.kernel_check.specs.inner.Bound.{or_else, plain}

-- a lent name as a key
abbrev pub same_name : Bor (List ℕ) → Bor (List ℕ) → Bool
same_name x y = pointwise nat_eq x.now y.now

pub find-plain : {X : Type 0} (name : Bor (List ℕ)) (es : List (Bor (List ℕ) × X)) → find (plain es) name.now ≡ lookup (same_name name) es
find-plain name [] = refl
find-plain name (e ∷ es) = ap (λ rest. cond (same_name name e.0) (Some e.1) rest) (find-plain name es)

pub found : {X : Type 0} (name : Bor (List ℕ)) (es : List (Bor (List ℕ) × X)) (names : List (List ℕ × X)) (result : Option X)
    → result ≡ lookup (same_name name) es → plain es ≡ names → result ≡ find names name.now
found name es names result r is = r ∙ sym (find-plain name es) ∙ ap (λ ns. find ns name.now) is

pub added : {X S : Type 0} (name : Bor (List ℕ)) (v : X) (m : IndexMap (Bor (List ℕ)) X S) (names : List (List ℕ × X)) (es : List (Bor (List ℕ) × X))
    → find names name.now ≡ None → plain m.entries ≡ names → es ≡ insert_entry same_name m.entries name v
    → plain es ≡ names ++ (name.now, v) ∷ []
added name v m names es new is e =
    let absent : lookup (same_name name) m.entries ≡ None =
    sym (find-plain name m.entries) ∙ ap (λ ns. find ns name.now) is ∙ new in
    ap plain (e ∙ insert_entry-new same_name m name v absent)
    ∙ map-append (λ entry. (entry.0.now, entry.1)) m.entries ((name, v) ∷ []) ∙ ap (λ ns. ns ++ (name.now, v) ∷ []) is

or_else-cond : {X : Type 0} (b : Bool) (x : Option X) (v : X) (y : Option X) → or_else (cond b (Some v) x) y ≡ cond b (Some v) (or_else x y)
or_else-cond true x v y = refl
or_else-cond false x v y = refl

-- a name is found in the first of two lists, else in the second
pub find-append : {X : Type 0} (name : List ℕ) (a b : Known X) → find (a ++ b) name ≡ or_else (find a name) (find b name)
find-append name [] b = refl
find-append name (e ∷ a) b =
    ap (λ rest. cond (bytes_eq name e.0) (Some e.1) rest) (find-append name a b)
    ∙ sym (or_else-cond (bytes_eq name e.0) (find a name) e.1 (find b name))

pub or_else-None : {X : Type 0} (x : Option X) → or_else x None ≡ x
or_else-None None = refl
or_else-None (Some x) = refl

pub or_else-assoc : {X : Type 0} (x y z : Option X) → or_else (or_else x y) z ≡ or_else x (or_else y z)
or_else-assoc None y z = refl
or_else-assoc (Some x) y z = refl

kept_none : {X : Type 0} (q name : List ℕ) (names : Known X) (v w : X) (b : Bool) → bytes_eq q name ≡ b → find names name ≡ Some w
    → find names q ≡ None → None ≡ cond b (Some v) None
kept_none q name names v w true same there none = cc (sym (ap (find names) ((bytes_eq-Decides q name).0 same)))
kept_none q name names v w false same there none = refl

kept_at : {X : Type 0} (q name : List ℕ) (names : Known X) (v w : X) (x : Option X) → find names name ≡ Some w
    → find names q ≡ x → x ≡ or_else x (find ((name, v) ∷ []) q)
kept_at q name names v w None there e = kept_none q name names v w (bytes_eq q name) refl there e
kept_at q name names v w (Some y) there e = refl

-- a name that is there already isn't put in again
pub kept : {X : Type 0} (q name : List ℕ) (names : Known X) (v : X) (o : Option X) → o ≡ find names name → is_some o ≡ true
    → find names q ≡ or_else (find names q) (find ((name, v) ∷ []) q)
kept q name names v None is there = cc
kept q name names v (Some w) is there = kept_at q name names v w (find names q) (sym is) refl
